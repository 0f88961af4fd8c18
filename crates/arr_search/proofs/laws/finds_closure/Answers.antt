use Rattle.arr_search.proofs.Lists.{finds_closure as law}
use Rattle.arr_search.proofs.laws.finds_closure.Goals as goal

pub returns : goal.returns
returns c = law
