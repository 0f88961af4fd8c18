use Rattle.arr_strips.proofs.Machine.{lines_go_on as law}
use Rattle.arr_strips.proofs.laws.lines_go_on.Goals as goal

pub returns : goal.returns
returns c = law
