-- Steps that follow one another under growing facts.
use Rattle.std.specs.Prelude.{◌≡◌, ℕ, Bool, not, ◌&&◌, ◌||◌, ◌==◌, cond, List, [], ◌∷◌, Option, Some, None}
use Rattle.std.specs.List.{list_all}
use Rattle.arr_ops.specs.Formed.{all_pairs}
use Rattle.arr_law.specs.declared.fact.Fact.{Fact}
use Rattle.arr_law.specs.declared.record.Record.{Record}
use Rattle.arr_law.specs.declared.record.Record.TheVariants.{Step}
use Rattle.arr_law.specs.Problem.{Problem, is_op}
use Rattle.arr_law.specs.Facts.{Facts, with_fact}
use Rattle.arr_law.specs.Rules.{Rule, rule_named, applies}

-- what a rule gives, where it applies
abbrev pub given : Problem → Facts → Option Rule → Option Fact
given problem facts None = None
given problem facts (Some rule) = cond (applies problem facts rule) (Some rule.gives) None

-- the third operation that a step names: rules 3, 5 and 9 take two, and name 0
abbrev pub third : ℕ → ℕ → ℕ
third n h = cond ((n == 3) || ((n == 5) || (n == 9))) 0 h

-- each record is a step that applies under the facts so far, names no operation too many, and gives the fact beside it
abbrev pub Steps : Problem → Facts → List Record → List Fact → Type 0
Steps problem facts [] [] = Unit {0}
Steps problem facts (Step n f g h ∷ records) (x ∷ gives) =
    (given problem facts (rule_named problem 2 n f g h) ≡ Some x) × (third n h ≡ h) × Steps problem (with_fact x facts) records gives
Steps problem facts _ _ = ⊥

-- the operations of a rule are of the list and differ
abbrev pub are_lawful : Problem → Rule → Bool
are_lawful problem rule = list_all (is_op problem) rule.operations && all_pairs (λ f g. not (f == g)) rule.operations
