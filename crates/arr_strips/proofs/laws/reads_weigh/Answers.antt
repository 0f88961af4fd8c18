use Rattle.arr_strips.proofs.ByteLaws.{reads_weigh as law}
use Rattle.arr_strips.proofs.laws.reads_weigh.Goals as goal

pub returns : goal.returns
returns c = law
