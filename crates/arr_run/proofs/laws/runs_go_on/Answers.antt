use Rattle.arr_run.proofs.GoesOn.{goes_on}
use Rattle.arr_run.proofs.laws.runs_go_on.Goals as goal

pub returns : goal.returns
returns c = goes_on
