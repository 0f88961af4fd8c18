use Rattle.arr_search.proofs.Lists.{improves as law}
use Rattle.arr_search.proofs.laws.improves.Goals as goal

pub returns : goal.returns
returns c = law
