use Rattle.std.proofs.Common.{length, take}
use Rattle.arr_law.specs.ProblemOf.{problem_of}
use Rattle.arr_state.specs.Known.{after}
use Rattle.arr_state.specs.Opening.{no_facts, all_users_below}
use Rattle.arr_state.specs.Rows.{AreRowed}
use Rattle.arr_state.proofs.opening.known_rows.Given as goal

abbrev pub invariant-loop-fact : goal.invariant-loop-fact
invariant-loop-fact l = AreRowed (length l.ops) (all_users_below (problem_of l.ops) (length l.ops)) l.rows.items (after no_facts (take l.fact-index l.facts))
