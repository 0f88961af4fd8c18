use Rattle.arr_strips.proofs.Totals.{sums_end as law}
use Rattle.arr_strips.proofs.laws.sums_end.Goals as goal

pub returns : goal.returns
returns c = law
