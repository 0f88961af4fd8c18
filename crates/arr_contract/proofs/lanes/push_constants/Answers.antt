use Rattle.arr_contract.proofs.Makings.{first_kept, numbers_of_op}
use Rattle.arr_contract.proofs.lanes.push_constants.Goals as goal

pub constant_lane-requires : goal.constant_lane-requires
constant_lane-requires c = first_kept c.args.op.now.code c.args.op.now (numbers_of_op c.args.op.now c.requires)
