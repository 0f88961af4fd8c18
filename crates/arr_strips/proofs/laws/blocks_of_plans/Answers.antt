use Rattle.arr_strips.proofs.Legal.{blocks_of_plans as law}
use Rattle.arr_strips.proofs.laws.blocks_of_plans.Goals as goal

pub returns : goal.returns
returns c = law
