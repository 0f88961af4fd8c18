use Rattle.arr_strips.proofs.Carried.{sums_go_on as law}
use Rattle.arr_strips.proofs.laws.sums_go_on.Goals as goal

pub returns : goal.returns
returns c = law
