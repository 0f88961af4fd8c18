use Rattle.arr_check.proofs.Readings.{yes_is_sure}
use Rattle.arr_check.proofs.laws.yes_is_sure.Goals as goal

pub returns : goal.returns
returns c = yes_is_sure
