use Rattle.arr_strips.proofs.ByteLaws.{writes_weigh as law}
use Rattle.arr_strips.proofs.laws.writes_weigh.Goals as goal

pub returns : goal.returns
returns c = law
