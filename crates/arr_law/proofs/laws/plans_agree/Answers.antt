use Rattle.arr_law.proofs.Lists.{plans_agree as law}
use Rattle.arr_law.proofs.laws.plans_agree.Goals as goal

pub returns : goal.returns
returns c = law
