use Rattle.arr_heur.proofs.LinearPlan.{linear_legal}
use Rattle.arr_heur.proofs.laws.linear_is_legal.Goals as goal

pub returns : goal.returns
returns c = linear_legal
