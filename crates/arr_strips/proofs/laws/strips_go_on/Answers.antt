use Rattle.arr_strips.proofs.StripLaws.{go_on as law}
use Rattle.arr_strips.proofs.laws.strips_go_on.Goals as goal

pub returns : goal.returns
returns c = law
