use Rattle.arr_strips.proofs.Carried.{sums_begin as law}
use Rattle.arr_strips.proofs.laws.sums_begin.Goals as goal

pub returns : goal.returns
returns c = law
