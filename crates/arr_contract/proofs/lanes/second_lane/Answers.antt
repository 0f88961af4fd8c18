use Rattle.arr_contract.proofs.Makings.{numbers_of_op, second_kept}
use Rattle.arr_contract.proofs.lanes.second_lane.Goals as goal

pub constant_lane-requires : goal.constant_lane-requires
constant_lane-requires c = second_kept c.args.op.now.code c.args.op.now c.in_default.not-Power (numbers_of_op c.args.op.now c.requires)
