use Rattle.arr_search.proofs.Lists.{starts as law}
use Rattle.arr_search.proofs.laws.starts.Goals as goal

pub returns : goal.returns
returns c = law
