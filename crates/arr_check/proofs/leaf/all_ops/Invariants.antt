use Rattle.std.proofs.Common.{◌≡◌, true, take}
use Rattle.std.specs.List.{list_all}
use Rattle.arr_law.specs.ProblemOf.{problem_of}
use Rattle.arr_law.specs.Problem.{is_op}
use Rattle.arr_check.proofs.leaf.all_ops.Given as goal

abbrev pub invariant-loop-at : goal.invariant-loop-at
invariant-loop-at l = list_all (is_op (problem_of l.tables)) (take l.at l.ops) ≡ true
