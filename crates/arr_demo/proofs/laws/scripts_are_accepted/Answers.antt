use Rattle.arr_demo.proofs.Accepted.{scripts_are_accepted}
use Rattle.arr_demo.proofs.laws.scripts_are_accepted.Goals as goal

pub returns : goal.returns
returns c = scripts_are_accepted
