use Rattle.arr_search.proofs.Lists.{dies as law}
use Rattle.arr_search.proofs.laws.dies.Goals as goal

pub returns : goal.returns
returns c = law
