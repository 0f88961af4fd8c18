use Rattle.arr_strips.proofs.Sums.{results_gathered as law}
use Rattle.arr_strips.proofs.laws.strips_gather.Goals as goal

pub returns : goal.returns
returns c = law
