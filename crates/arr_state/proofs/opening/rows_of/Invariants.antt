use Rattle.std.proofs.Common.{length}
use Rattle.arr_law.specs.ProblemOf.{problem_of}
use Rattle.arr_state.specs.Opening.{no_facts, all_users_below}
use Rattle.arr_state.specs.Rows.{AreRowed}
use Rattle.arr_state.proofs.opening.rows_of.Given as goal

abbrev pub invariant-loop-g : goal.invariant-loop-g
invariant-loop-g l = AreRowed (length l.ops) (all_users_below (problem_of l.ops) l.g) l.rows.items no_facts
