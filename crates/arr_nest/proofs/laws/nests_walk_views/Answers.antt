use Rattle.arr_nest.proofs.Elements.{walks_views}
use Rattle.arr_nest.proofs.laws.nests_walk_views.Goals as goal

pub returns : goal.returns
returns c = walks_views
