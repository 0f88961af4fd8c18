-- The facts that are known: a list in the order in which they came, and a mark for each kind and each two operations.
use Rattle.std.specs.Prelude.{◌≡◌, ℕ, ◌+◌, ◌-◌, ◌*◌, Bool, true, false, ◌&&◌, List, [], ◌∷◌, length, get_or, slice_set}
use Rattle.std.specs.List.{fold}
use Rattle.arr_ops.specs.declared.op.Op.{Op}
use Rattle.arr_law.specs.declared.fact.Fact.{Fact}
use Rattle.arr_law.specs.declared.fact.Fact.TheVariants.{Same, Apart, Before}
use Rattle.arr_law.specs.Problem.{Problem, is_op}
use Rattle.arr_law.specs.ProblemOf.{problem_of}
use Rattle.arr_law.specs.Facts.{Facts, facts_of, with_fact}
use Rattle.arr_check.specs.declared.known.Known.{Known}

-- where the mark of a fact stands
abbrev pub slot : ℕ → Fact → ℕ
slot n (Same f g) = 0 * (n * n) + ((f - 1) * n + (g - 1))
slot n (Apart f g) = 1 * (n * n) + ((f - 1) * n + (g - 1))
slot n (Before f g) = 2 * (n * n) + ((f - 1) * n + (g - 1))

-- the same fact the other way round
abbrev pub turned : Fact → Fact
turned (Same f g) = Same g f
turned (Apart f g) = Apart g f
turned (Before f g) = Before f g

abbrev pub are_ops : Problem → Fact → Bool
are_ops problem (Same f g) = is_op problem f && is_op problem g
are_ops problem (Apart f g) = is_op problem f && is_op problem g
are_ops problem (Before f g) = is_op problem f && is_op problem g

-- the facts of a list, without those that the list of operations alone gives
abbrev pub told : List Fact → Facts
told trail = fold (λ facts x. with_fact x facts) (λ x. false) trail

-- each fact was new when it came
abbrev pub AreFresh : Facts → List Fact → Type 0
AreFresh facts [] = Unit {0}
AreFresh facts (x ∷ trail) = (facts x ≡ false) × AreFresh (with_fact x facts) trail

pub record AreMarked (problem : Problem) (marks : List Bool) (facts : Facts) : Type 0 where
  pub long : length marks ≡ 3 * (problem.count * problem.count)
  pub same : (x : Fact) → are_ops problem x ≡ true → get_or marks (slot problem.count x) false ≡ facts x

-- a fact's marks set to a value
abbrev pub marks_with : ℕ → Fact → Bool → List Bool → List Bool
marks_with n x value marks = slice_set (slice_set marks (slot n x) value) (slot n (turned x)) value

pub record AreFine (problem : Problem) (trail : List Fact) (marks : List Bool) : Type 0 where
  pub marked : AreMarked problem marks (told trail)
  pub about : (x : Fact) → told trail x ≡ true → are_ops problem x ≡ true
  pub fresh : AreFresh (λ x. false) trail

abbrev pub IsFine : Problem → Known → Type 0
IsFine problem known = AreFine problem known.trail.items known.marks.items

-- what is known
abbrev pub known_of : Problem → Known → Facts
known_of problem known = facts_of problem known.trail.items

-- what is known of the problem of a list
abbrev pub knows : List Op → Known → Facts
knows list known = known_of (problem_of list) known
