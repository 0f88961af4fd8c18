use Rattle.arr_law.proofs.Lists.{plans_settle as law}
use Rattle.arr_law.proofs.laws.plans_settle.Goals as goal

pub returns : goal.returns
returns c = law
