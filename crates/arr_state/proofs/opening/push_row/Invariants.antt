use Rattle.std.proofs.Common.{◌≡◌}
use Rattle.arr_law.specs.ProblemOf.{problem_of}
use Rattle.arr_state.specs.Known.{after}
use Rattle.arr_state.specs.Opening.{no_facts, row_below}
use Rattle.arr_state.proofs.opening.push_row.Given as goal

abbrev pub invariant-loop-g : goal.invariant-loop-g
invariant-loop-g l = after no_facts l.roots.items ≡ row_below (problem_of l.graph) l.g l.f (after no_facts l.initial.roots.items)
