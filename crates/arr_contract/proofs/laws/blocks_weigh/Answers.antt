use Rattle.arr_contract.proofs.Weighing.{blocks_weigh as law}
use Rattle.arr_contract.proofs.laws.blocks_weigh.Goals as goal

pub returns : goal.returns
returns c = law
