use Rattle.arr_io.proofs.Buffered.{◌▹◌, put_as}
use Rattle.arr_listing.proofs.Turns.{plan_is}
use Rattle.arr_listing.proofs.plans.put_plan.Goals as goal

pub returns : goal.returns
returns g c =
    put_as (c.put_head.ensures ▹ c.put_ops.ensures ▹ c.put_blocks.ensures)
    (plan_is c.args.recorded c.args.number c.args.ops.now _ c.args.plan.now c.args.costs.now _ _ c.blocks_of-blocks.ensures.count c.total.ensures c.blocks_of-blocks.ensures.value)
