use Rattle.arr_state.proofs.Sound.{plans_keep_facts as law}
use Rattle.arr_state.proofs.laws.plans_keep_facts.Goals as goal

pub returns : goal.returns
returns c = law
