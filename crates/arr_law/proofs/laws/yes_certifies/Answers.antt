use Rattle.arr_law.proofs.Lists.{yes_certifies as law}
use Rattle.arr_law.proofs.laws.yes_certifies.Goals as goal

pub returns : goal.returns
returns c = law
