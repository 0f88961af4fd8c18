use Rattle.std.proofs.Common.{◌≡◌, ◌*◌, ◌≤◌}
use Rattle.arr_law.specs.ProblemOf.{problem_of}
use Rattle.arr_law.specs.Problem.{sum_below}
use Rattle.arr_check.specs.Places.{class_cost}
use Rattle.arr_check.proofs.plan.block_cost.Given as goal

abbrev pub invariant-loop-c : goal.invariant-loop-c
invariant-loop-c l = record {
  value : l.total ≡ sum_below (class_cost (problem_of l.tables) l.places l.block) l.c;
  small : l.total ≤ l.c * 8388608;
}
