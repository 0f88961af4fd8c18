-- What is promised of the quick planners.
use Rattle.std.specs.Prelude.{◌≡◌, ◌≤◌, List, Some, IsTrue}
use Rattle.std.specs.List.Sorted.{IsPermutation}
use Rattle.arr_ops.specs.declared.op.Op.{Op}
use Rattle.arr_ops.specs.Plans.{is_legal, numbered}
use Rattle.arr_ops.specs.Order.{ordered}
use Rattle.arr_ops.specs.Costs.{cost}
use Rattle.arr_heur.specs.Planners.{greedy_blocks, greedy_plan, linear_plan, singles}

abbrev pub LinearIsLegal : Type 0
LinearIsLegal = (list : List Op) → IsTrue (is_legal list (linear_plan list))

-- greedy's blocks have an order, and in it they are a legal plan
abbrev pub GreedyIsLegal : Type 0
GreedyIsLegal = (list : List Op) → (ordered list (greedy_blocks list) ≡ Some (greedy_plan list)) × IsPermutation (greedy_blocks list) (greedy_plan list) × IsTrue (is_legal list (greedy_plan list))

-- greedy's plan costs at most what one block an operation costs
abbrev pub GreedySaves : Type 0
GreedySaves = (list : List Op) → cost list (greedy_plan list) ≤ cost list (singles (numbered list))
