use Rattle.arr_ops.proofs.Merged.{merging_saves}
use Rattle.arr_ops.proofs.laws.merging_saves.Goals as goal

pub returns : goal.returns
returns c = merging_saves
