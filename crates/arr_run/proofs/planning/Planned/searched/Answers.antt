use Rattle.arr_run.proofs.Chosen.{searched}
use Rattle.arr_run.proofs.planning.Planned.searched.Goals as goal

pub returns : goal.returns
returns c = λ list number budget best. searched list number budget c.args.found best
