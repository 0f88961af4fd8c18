use Rattle.arr_strips.proofs.StripLaws.{keep_bases as law}
use Rattle.arr_strips.proofs.laws.strips_keep_bases.Goals as goal

pub returns : goal.returns
returns c = law
