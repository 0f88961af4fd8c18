use Rattle.arr_law.proofs.Lists.{floors_low as law}
use Rattle.arr_law.proofs.laws.floors_are_low.Goals as goal

pub returns : goal.returns
returns c = law
