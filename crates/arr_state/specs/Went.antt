-- Steps on the way to a closed set of facts.
use Rattle.std.specs.Prelude.{◌≡◌, ℕ, ◌+◌, ◌≤◌, true, nat_lt, List, ◌++◌, length, Some}
use Rattle.arr_ops.specs.declared.op.Op.{Op}
use Rattle.arr_law.specs.declared.fact.Fact.{Fact}
use Rattle.arr_law.specs.declared.fact.Fact.TheVariants.{Same, Apart}
use Rattle.arr_law.specs.declared.record.Record.{Record}
use Rattle.arr_law.specs.Problem.{Problem}
use Rattle.arr_law.specs.Facts.{Facts, facts_of}
use Rattle.arr_law.specs.ProblemOf.{problem_of}
use Rattle.arr_law.specs.Rules.{Rule, rule_named, applies}
use Rattle.arr_state.specs.declared.outcome.Going.{Going}
use Rattle.arr_state.specs.declared.outcome.Going.TheVariants.{On, Clash, NoneLeft}
use Rattle.arr_state.specs.declared.known.Known.{Known}
use Rattle.arr_state.specs.Steps.{Steps}

-- what is known of a list: what it alone gives, and the facts that came
abbrev pub facts_in : List Op → Known → Facts
facts_in ops known = facts_of (problem_of ops) known.facts.items

-- some rule gives a new fact
abbrev pub CanGoOn : Problem → Facts → Type 0
CanGoOn problem facts = (n f g h : ℕ) × (rule : Rule) × (rule_named problem 2 n f g h ≡ Some rule) × (applies problem facts rule ≡ true)

-- of a pair both Same and Apart are known
pub record IsClash (facts : Facts) (f g : ℕ) : Type 0 where
  pub rising : nat_lt f g ≡ true
  pub same : facts (Same f g) ≡ true
  pub apart : facts (Apart f g) ≡ true

abbrev pub Reaches : Problem → ℕ → Facts → ℕ → Going → Type 0
Reaches problem left facts n (On rest) = left ≡ rest + n
Reaches problem left facts n (Clash f g) = IsClash facts f g
Reaches problem left facts n NoneLeft = (n ≡ left) × CanGoOn problem facts

abbrev pub IfOn : Going → Type 0 → Type 0
IfOn (On rest) P = P
IfOn (Clash f g) P = Unit {0}
IfOn NoneLeft P = Unit {0}

-- steps were appended, at most `left`; where there was no reason to stop, Done holds of the facts before and after
pub record Went (problem : Problem) (k k' : Known) (tree tree' : List Record) (left : ℕ) (going : Going) (Done : Facts → Facts → Type 0) : Type 0 where
  pub steps : List Record
  pub gives : List Fact
  pub tree_is : tree' ≡ tree ++ steps
  pub trail_is : k'.facts.items ≡ k.facts.items ++ gives
  pub are_steps : Steps problem (facts_of problem k.facts.items) steps gives
  pub room : length steps ≤ left
  pub reaches : Reaches problem left (facts_of problem k'.facts.items) (length steps) going
  pub done : IfOn going (Done (facts_of problem k.facts.items) (facts_of problem k'.facts.items))

-- the same of a list, said of where it ended
abbrev pub Goes : List Op → ℕ → Known → Known → List Record → List Record → (Facts → Facts → Type 0) → Going → Type 0
Goes ops left k k' tree tree' Done going = Went (problem_of ops) k k' tree tree' left going Done
