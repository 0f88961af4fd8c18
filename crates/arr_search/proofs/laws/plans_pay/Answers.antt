use Rattle.arr_search.proofs.Lists.{plans_pay as law}
use Rattle.arr_search.proofs.laws.plans_pay.Goals as goal

pub returns : goal.returns
returns c = law
