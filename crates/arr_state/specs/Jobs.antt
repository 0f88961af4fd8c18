-- What is tried for a fact: each rule at each place at which the fact can stand as a premise.
use Rattle.std.specs.Prelude.{◌≡◌, ℕ, ◌+◌, ◌<◌, true, List, [], ◌∷◌, Some, get_or, length}
use Rattle.std.specs.Int.{bit_at}
use Rattle.std.specs.List.{list_all}
use Rattle.arr_law.specs.declared.fact.Fact.{Fact}
use Rattle.arr_law.specs.declared.fact.Fact.TheVariants.{Same, Apart, Before}
use Rattle.arr_law.specs.Problem.{Problem, ends_base_of}
use Rattle.arr_law.specs.Facts.{Facts}
use Rattle.arr_law.specs.Rules.{Rule, rule_named}
use Rattle.arr_state.specs.declared.jobs.Job.{Job}
use Rattle.arr_state.specs.declared.jobs.Job.TheVariants.{Two, Behind, Front, Frees}
use Rattle.arr_state.specs.Steps.{are_lawful}

abbrev pub jobs_of : Fact → List Job
jobs_of (Same a b) = Two 3 a b ∷ Two 3 b a ∷ Behind 6 a b ∷ Behind 6 b a ∷ []
jobs_of (Apart a b) = Front 6 a b ∷ Front 6 b a ∷ Behind 7 a b ∷ Behind 7 b a ∷ Front 8 a b ∷ Front 8 b a ∷ []
jobs_of (Before a b) = Two 5 a b ∷ Two 5 b a ∷ Behind 4 a b ∷ Front 4 a b ∷ Behind 7 a b ∷ Front 7 a b ∷ Behind 8 a b ∷ Front 8 a b ∷ Frees a b ∷ []

-- where the premises of a rule were known, what it gives is known now
abbrev pub Tried : Problem → ℕ → ℕ → ℕ → ℕ → Facts → Facts → Type 0
Tried problem n f g h facts facts' =
    (rule : Rule) → rule_named problem 2 n f g h ≡ Some rule → are_lawful problem rule ≡ true → list_all facts rule.premises ≡ true → facts' rule.gives ≡ true

-- a job's rule with one operation in the job's open place; the FREE of a base that the first operation does not name has no use for it
abbrev pub TriedAt : Problem → Job → ℕ → Facts → Facts → Type 0
TriedAt problem (Two n f g) c a b = Tried problem n f g 0 a b
TriedAt problem (Behind n f g) c a b = Tried problem n f g c a b
TriedAt problem (Front n g h) c a b = Tried problem n c g h a b
TriedAt problem (Frees u f) c a b = ends_base_of problem u c ≡ true → Tried problem 9 f c 0 a b

-- with each operation below a number
abbrev pub SiftBelow : Problem → ℕ → Job → Facts → Facts → Type 0
SiftBelow problem limit job a b = (c : ℕ) → c < limit → TriedAt problem job c a b

abbrev pub JobTried : Problem → Job → Facts → Facts → Type 0
JobTried problem job a b = SiftBelow problem (problem.count + 1) job a b

-- with each operation whose bit is 1
abbrev pub WordTried : Problem → Job → ℕ → ℕ → Facts → Facts → Type 0
WordTried problem job base word a b = (k : ℕ) → k < 64 → bit_at word k ≡ 1 → TriedAt problem job (base + k) a b

-- with each operation whose bit is 1 and is 0 in what is left
abbrev pub RestTried : Problem → Job → ℕ → ℕ → ℕ → Facts → Facts → Type 0
RestTried problem job base word rest a b = (k : ℕ) → k < 64 → bit_at word k ≡ 1 → bit_at rest k ≡ 0 → TriedAt problem job (base + k) a b

-- no operation whose bit is 0 can be given anything
abbrev pub Quiet : Problem → Job → ℕ → ℕ → Facts → Type 0
Quiet problem job base word facts = (k : ℕ) → k < 64 → bit_at word k ≡ 0 → TriedAt problem job (base + k) facts facts

abbrev pub job_at : List Job → ℕ → Job
job_at jobs k = get_or jobs k (Two 0 0 0)

-- the first so many jobs of a list
abbrev pub JobsBelow : Problem → ℕ → List Job → Facts → Facts → Type 0
JobsBelow problem limit jobs a b = (k : ℕ) → k < limit → JobTried problem (job_at jobs k) a b

-- all jobs of a fact
abbrev pub IsTouched : Problem → Fact → Facts → Facts → Type 0
IsTouched problem x a b = JobsBelow problem (length (jobs_of x)) (jobs_of x) a b

-- rule 9 at one operation and each FREE below a number, and at each two operations
abbrev pub FreesBelow : Problem → ℕ → ℕ → Facts → Facts → Type 0
FreesBelow problem limit f a b = (g : ℕ) → g < limit → Tried problem 9 f g 0 a b

abbrev pub AllFreesBelow : Problem → ℕ → Facts → Facts → Type 0
AllFreesBelow problem limit a b = (f : ℕ) → f < limit → FreesBelow problem (problem.count + 1) f a b

-- each rule whose premises are all among some facts has its conclusion among others
abbrev pub Covered : Problem → Facts → Facts → Type 0
Covered problem some more =
    (n f g h : ℕ) (rule : Rule) → rule_named problem 2 n f g h ≡ Some rule → are_lawful problem rule ≡ true → list_all some rule.premises ≡ true → more rule.gives ≡ true

-- the jobs of the first so many facts of a list; of all
abbrev pub TouchedBelow : Problem → ℕ → List Fact → Facts → Facts → Type 0
TouchedBelow problem limit roots a b = (k : ℕ) → k < limit → IsTouched problem (get_or roots k (Same 0 0)) a b

abbrev pub AreTouched : Problem → List Fact → Facts → Facts → Type 0
AreTouched problem roots = TouchedBelow problem (length roots) roots
