use Rattle.arr_run.proofs.RunsChecked.{runs_check}
use Rattle.arr_run.proofs.laws.runs_check.Goals as goal

pub returns : goal.returns
returns c = runs_check
