use Rattle.std.proofs.Common.{◌≡◌}
use Rattle.arr_law.specs.ProblemOf.{problem_of}
use Rattle.arr_state.specs.Known.{after}
use Rattle.arr_state.specs.Opening.{no_facts, all_below}
use Rattle.arr_state.proofs.opening.roots_of.Given as goal

abbrev pub invariant-loop-f : goal.invariant-loop-f
invariant-loop-f l = after no_facts l.roots.items ≡ all_below (problem_of l.graph) l.f
