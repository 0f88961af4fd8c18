use Rattle.arr_search.proofs.Lists.{leaves as law}
use Rattle.arr_search.proofs.laws.leaves.Goals as goal

pub returns : goal.returns
returns c = law
