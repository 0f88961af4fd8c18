use Rattle.arr_io.proofs.Buffered.{front_begins, front_ends, front_turns}
use Rattle.arr_listing.proofs.Turns.{ops_end, ops_turn}
use Rattle.arr_listing.proofs.plans.put_ops.Goals as goal

pub loop-index-init : goal.loop-index-init
loop-index-init g c = front_begins _ _

pub loop-index-preserved : goal.loop-index-preserved
loop-index-preserved g c = front_turns c.loop-index.invariant c.put_op.ensures (ops_turn c.args.ops.now c.loop-index.index c.index-ops-index.result c.loop-index-test.true c.index-ops-index.is)

pub returns : goal.returns
returns g c = front_ends c.loop-index.invariant (ops_end c.args.ops.now c.loop-index.index c.loop-index-test.false)
