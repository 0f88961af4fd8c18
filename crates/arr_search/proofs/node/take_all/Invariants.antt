use Rattle.std.proofs.Common.{◌≡◌}
use Rattle.arr_law.specs.ProblemOf.{problem_of}
use Rattle.arr_search.specs.Turns.{Took}
use Rattle.arr_search.proofs.node.take_all.Given as goal

abbrev pub invariant-loop-step : goal.invariant-loop-step
invariant-loop-step l = record {
  list : l.state.list ≡ l.fn.state.list;
  took : Took (problem_of l.fn.state.list) l.budget l.fn.state.trail l.state.trail l.fn.progress l.progress;
}
