use Rattle.std.proofs.Common.{◌+◌, ◌/◌, ◌*◌, ap, length}
use Rattle.arr_bound.specs.Sets.{in_row}
use Rattle.arr_bound.proofs.Whole.{creator_within, freer_within, set_ops, set_views, one_more, first_in_set}
use Rattle.arr_bound.proofs.leaf.join_class.Goals as goal

pub payers-requires-clause-creator : goal.payers-requires-clause-creator
payers-requires-clause-creator c = creator_within c.args.ops.now c.args.at c.args.class.now c.requires.class c.args.apart.now c.requires.table

pub payers-requires-clause-freer : goal.payers-requires-clause-freer
payers-requires-clause-freer c = freer_within c.args.ops.now c.args.at c.args.class.now c.requires.class c.args.apart.now c.requires.table

pub picks_of-requires-clause-inside : goal.picks_of-requires-clause-inside
picks_of-requires-clause-inside c = λ g e. (set_ops c.args.ops.now c.args.at c.args.class.now c.requires.class c.args.apart.now c.requires.table c.in_ok-set.set.items c.in_ok-set.ensures.members g e).1

pub push_group-requires-clause-touches : goal.push_group-requires-clause-touches
push_group-requires-clause-touches c = λ f fs e.
    set_views c.args.ops.now c.args.at c.args.class.now c.requires.class c.args.apart.now c.requires.table c.in_ok-set.set.items c.in_ok-set.ensures.members f
    (first_in_set (in_row (length c.args.ops.now / 64 + 1) c.args.apart.now) c.in_ok-set.set.items c.in_ok-picks.picks f fs e c.in_ok-picks.ensures)

pub push_group-requires-clause-ops : goal.push_group-requires-clause-ops
push_group-requires-clause-ops c = λ f fs e.
    set_ops c.args.ops.now c.args.at c.args.class.now c.requires.class c.args.apart.now c.requires.table c.in_ok-set.set.items c.in_ok-set.ensures.members f
    (first_in_set (in_row (length c.args.ops.now / 64 + 1) c.args.apart.now) c.in_ok-set.set.items c.in_ok-picks.picks f fs e c.in_ok-picks.ensures)

pub returns-clause-below : goal.returns-clause-below
returns-clause-below c = λ facts worth tells before.
    one_more c.args.ops.now c.args.at c.args.class.now c.requires.class c.args.apart.now c.requires.table c.in_ok-set.set.items c.in_ok-set.ensures.members facts tells c.in_ok-picks.picks worth (worth + c.args.class.now.weight * c.len.result)
    c.args.groups.now c.push_group.new.groups c.in_ok-picks.ensures before c.in_ok-push_group.ensures c.requires.within (ap (λ n. worth + c.args.class.now.weight * n) c.len.ensures)
