use Rattle.arr_strips.proofs.StripLaws.{begin as law}
use Rattle.arr_strips.proofs.laws.strips_begin.Goals as goal

pub returns : goal.returns
returns c = law
