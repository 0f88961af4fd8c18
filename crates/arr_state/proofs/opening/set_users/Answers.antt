use Rattle.std.proofs.Common.{◌≡◌, length, subst, arith}
use Rattle.arr_law.specs.ProblemOf.{problem_of}
use Rattle.arr_state.specs.Opening.{no_facts, users_below}
use Rattle.arr_state.specs.Rows.{AreRowed}
use Rattle.arr_state.proofs.Openings.{users_next}
use Rattle.arr_state.proofs.opening.set_users.Goals as goal

pub loop-u-preserved : goal.loop-u-preserved
loop-u-preserved c =
    record {
      long = c.set_user.ensures.long;
      sets = λ test r. subst (λ t. AreRowed (length c.args.ops.now) t c.set_user.new.rows.items no_facts) (users_next (problem_of c.args.ops.now) c.loop-u.u c.args.g test)
          (c.set_user.ensures.sets (users_below (problem_of c.args.ops.now) c.loop-u.u c.args.g test) (c.loop-u.invariant.sets test r));
    }

pub returns-clause-sets : goal.returns-clause-sets
returns-clause-sets c =
    let e : c.loop-u.u ≡ length c.args.ops.now = omega (arith, c.loop-u-test.false, c.count_of-u-end.ensures, c.loop-u.auto.u-end) in
    λ test r. subst (λ m. AreRowed (length c.args.ops.now) (users_below (problem_of c.args.ops.now) m c.args.g test) c.loop-u.rows.items no_facts) e (c.loop-u.invariant.sets test r)
