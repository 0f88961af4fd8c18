use Rattle.std.proofs.Common.{◌*◌}
use Rattle.arr_law.specs.Facts.{facts_of}
use Rattle.arr_law.specs.ProblemOf.{problem_of}
use Rattle.arr_state.proofs.Frees.{NoneBelow}
use Rattle.arr_state.proofs.rules.are_before.Given as goal

abbrev pub invariant-loop-i : goal.invariant-loop-i
invariant-loop-i l = NoneBelow (problem_of l.ops) (facts_of (problem_of l.ops) l.known.facts.items) l.f l.g (64 * l.i)
