use Rattle.arr_run.proofs.Follows.{faults_counted}
use Rattle.arr_run.proofs.laws.faults_are_counted.Goals as goal

pub returns : goal.returns
returns c = faults_counted
