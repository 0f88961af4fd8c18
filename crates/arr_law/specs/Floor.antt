-- The least that a plan pays, read off a set of facts, and the facts that follow from the list alone.
use Rattle.std.specs.Prelude.{◌≡◌, ℕ, ◌*◌, Bool, false, cond, ◌&&◌, Some, IsTrue}
use Rattle.std.specs.List.{list_any}
use Rattle.arr_law.specs.declared.fact.Fact.{Fact}
use Rattle.arr_law.specs.declared.fact.Fact.TheVariants.{Apart}
use Rattle.arr_law.specs.Problem.{Problem, operations, sum_below}
use Rattle.arr_law.specs.Facts.{Facts, is_fact, root_facts}
use Rattle.arr_law.specs.Rules.{Rule, rule_named, applies}
use Rattle.arr_law.specs.Leaves.{surely_charges}

-- some operation surely charges the class
abbrev pub is_paid : Problem → Facts → ℕ → Bool
is_paid problem facts c = list_any (λ f. surely_charges problem facts f c) (operations problem)

-- two operations that are Apart surely charge it
abbrev pub is_paid_twice : Problem → Facts → ℕ → Bool
is_paid_twice problem facts c =
    list_any (λ f. surely_charges problem facts f c && list_any (λ g. surely_charges problem facts g c && facts (Apart f g)) (operations problem)) (operations problem)

abbrev pub floor_of_class : Problem → Facts → ℕ → ℕ
floor_of_class problem facts c = cond (is_paid_twice problem facts c) (2 * problem.weight c) (cond (is_paid problem facts c) (problem.weight c) 0)

-- in bytes
abbrev pub floor : Problem → Facts → ℕ
floor problem facts = sum_below (floor_of_class problem facts) problem.classes

-- the facts that fusibility alone gives
abbrev pub kept_apart : Problem → Facts
kept_apart problem (Apart f g) = root_facts problem (Apart f g)
kept_apart problem _ = false

abbrev pub Within : Facts → Facts → Type 0
Within less more = (x : Fact) → IsTrue (less x) → IsTrue (more x)

-- no rule gives a new fact
abbrev pub IsClosed : Problem → Facts → Type 0
IsClosed problem facts = (n f g h : ℕ) (rule : Rule) → rule_named problem 2 n f g h ≡ Some rule → applies problem facts rule ≡ false

abbrev pub IsSymmetric : Facts → Type 0
IsSymmetric facts = (x y : Fact) → IsTrue (is_fact x y) → IsTrue (facts x) → IsTrue (facts y)

-- the facts are among those that the list gives by the rules
abbrev pub Follows : Problem → Facts → Type 0
Follows problem facts = (other : Facts) → Within (root_facts problem) other → IsSymmetric other → IsClosed problem other → Within facts other

-- the closure: the least set of facts that holds those of the list and each that a rule gives from it
pub record IsClosure (problem : Problem) (facts : Facts) : Type 0 where
  pub roots : Within (root_facts problem) facts
  pub closed : IsClosed problem facts
  pub least : Follows problem facts
