use Rattle.arr_sets.proofs.Runs.{ones_between}
use Rattle.arr_sets.proofs.bits.run_of_ones.Goals as goal

pub returns : goal.returns
returns c = ones_between c.args.low c.args.high c.requires.some c.requires.within
