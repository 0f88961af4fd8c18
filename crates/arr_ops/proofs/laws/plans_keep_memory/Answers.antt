use Rattle.arr_ops.proofs.Plans.{plans_keep}
use Rattle.arr_ops.proofs.laws.plans_keep_memory.Goals as goal

pub returns : goal.returns
returns c = plans_keep
