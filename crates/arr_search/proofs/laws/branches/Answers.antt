use Rattle.arr_search.proofs.Lists.{branches as law}
use Rattle.arr_search.proofs.laws.branches.Goals as goal

pub returns : goal.returns
returns c = law
