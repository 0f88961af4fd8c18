use Rattle.std.proofs.Common.{length, subst}
use Rattle.arr_law.specs.ProblemOf.{problem_of}
use Rattle.arr_state.specs.Opening.{no_facts, all_users_below}
use Rattle.arr_state.specs.Rows.{AreRowed}
use Rattle.arr_state.proofs.Openings.{all_users_next}
use Rattle.arr_state.proofs.opening.rows_of.Goals as goal

pub loop-g-preserved : goal.loop-g-preserved
loop-g-preserved c =
    subst (λ t. AreRowed (length c.args.ops.now) t c.set_users.new.rows.items no_facts) (all_users_next (problem_of c.args.ops.now) c.loop-g.g) (c.set_users.ensures.sets (all_users_below (problem_of c.args.ops.now) c.loop-g.g) c.loop-g.invariant)
