use Rattle.std.proofs.Common.{◌≡◌, ◌*◌, ◌≤◌}
use Rattle.arr_law.specs.ProblemOf.{problem_of}
use Rattle.arr_law.specs.Problem.{sum_below}
use Rattle.arr_check.specs.Places.{class_cost}
use Rattle.arr_check.proofs.plan.price.Given as goal

abbrev pub invariant-loop-block : goal.invariant-loop-block
invariant-loop-block l = record {
  value : l.total ≡ sum_below (λ k. sum_below (class_cost (problem_of l.tables) l.places k) (problem_of l.tables).classes) l.block;
  small : l.total ≤ l.block * 6442450944;
}
