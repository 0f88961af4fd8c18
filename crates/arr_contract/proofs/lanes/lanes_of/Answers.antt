use Rattle.std.proofs.Common.{◌≡◌, true}
use Rattle.arr_ops.specs.Formed.{well_formed}
use Rattle.arr_ops.proofs.Tests.{all_of}
use Rattle.arr_machine.proofs.Blocks.{all_get}
use Rattle.arr_contract.proofs.lanes.lanes_of.Goals as goal

pub push_constants-requires : goal.push_constants-requires
push_constants-requires c = all_get (λ f. well_formed f ≡ true) c.args.ops.now c.loop-op.op-index c.op-item.result c.loop-op-test.true c.op-item.is (all_of well_formed c.args.ops.now c.requires)
