use Rattle.arr_search.proofs.Lists.{steps_are_few as law}
use Rattle.arr_search.proofs.laws.steps_are_few.Goals as goal

pub returns : goal.returns
returns c = law
