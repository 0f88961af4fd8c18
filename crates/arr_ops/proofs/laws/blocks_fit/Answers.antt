use Rattle.arr_ops.proofs.Serving.{blocks_fit_formed}
use Rattle.arr_ops.proofs.laws.blocks_fit.Goals as goal

pub returns : goal.returns
returns c = blocks_fit_formed
