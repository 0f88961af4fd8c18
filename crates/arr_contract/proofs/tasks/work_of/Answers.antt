use Rattle.arr_contract.proofs.Makings.{exponent_there}
use Rattle.arr_contract.proofs.tasks.work_of.Goals as goal

pub exponent_of-requires : goal.exponent_of-requires
exponent_of-requires c = exponent_there c.args.op.now c.requires.well c.in-Power.is
