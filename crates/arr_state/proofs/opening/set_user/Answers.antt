use Rattle.std.proofs.Common.{length, ◌&&◌, ◌||◌, sym, ◌∙◌, subst}
use Rattle.std.specs.Prelude.{◌==◌}
use Rattle.arr_state.specs.Opening.{no_facts}
use Rattle.arr_state.specs.Rows.{AreRowed}
use Rattle.arr_state.proofs.Openings.{user_set}
use Rattle.arr_state.proofs.opening.set_user.Goals as goal

pub returns-then-ends_base_at-clause-sets : goal.returns-then-ends_base_at-clause-sets
returns-then-ends_base_at-clause-sets c = λ test r.
    subst (λ b. AreRowed (length c.args.ops.now) (λ f h. (b && ((c.args.u == f) && (c.args.g == h))) || test f h) c.set_bit-then-ends_base_at.new.rows.items no_facts) (sym c.if-ends_base_at.true ∙ c.ends_base_at.ensures)
    (user_set (length c.args.ops.now) c.count_of.result c.count_of-then-ends_base_at.result c.args.u c.args.g test c.args.rows.now.items c.set_bit.new.rows.items c.set_bit-then-ends_base_at.new.rows.items no_facts c.count_of.ensures c.count_of-then-ends_base_at.ensures c.requires.first_most c.requires.second_most c.set_bit.ensures c.set_bit-then-ends_base_at.ensures r)
