use Rattle.arr_search.proofs.Lists.{finishes as law}
use Rattle.arr_search.proofs.laws.finishes.Goals as goal

pub returns : goal.returns
returns c = law
