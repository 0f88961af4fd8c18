use Rattle.arr_run.proofs.Moved.{moves_little}
use Rattle.arr_run.proofs.laws.moves_little.Goals as goal

pub returns : goal.returns
returns c = moves_little
