use Rattle.arr_search.proofs.Accepted.{trees_are_accepted as law}
use Rattle.arr_search.proofs.laws.trees_are_accepted.Goals as goal

pub returns : goal.returns
returns c = law
