-- What is promised of steps.
use Rattle.std.specs.Prelude.{ℕ, List, IsTrue}
use Rattle.arr_ops.specs.declared.op.Op.{Op}
use Rattle.arr_law.specs.declared.fact.Fact.{Fact}
use Rattle.arr_law.specs.declared.record.Record.{Record}
use Rattle.arr_ops.specs.Formed.{is_formed}
use Rattle.arr_law.specs.Facts.{Facts, root_facts, Meets}
use Rattle.arr_law.specs.Plans.{IsLegalAt}
use Rattle.arr_law.specs.Settled.{IsSettled}
use Rattle.arr_law.specs.ProblemOf.{problem_of}
use Rattle.arr_state.specs.Known.{after}
use Rattle.arr_state.specs.Steps.{Steps}

-- a settled legal plan of a formed list meets what the list alone gives; and what steps give from facts that it meets
pub record KeepsFacts (list : List Op) (at : ℕ → ℕ) : Type 0 where
  pub roots : Meets at (root_facts (problem_of list))
  pub steps : (facts : Facts) (steps : List Record) (gives : List Fact) → Steps (problem_of list) facts steps gives → Meets at facts → Meets at (after facts gives)

abbrev pub PlansKeepFacts : Type 0
PlansKeepFacts =
    (list : List Op) (at : ℕ → ℕ) (blocks : ℕ) → IsTrue (is_formed list) → IsLegalAt (problem_of list) at blocks → IsSettled (problem_of list) at → KeepsFacts list at
