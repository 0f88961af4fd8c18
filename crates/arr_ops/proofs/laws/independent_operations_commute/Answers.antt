use Rattle.arr_ops.proofs.Independent.{independent_commute}
use Rattle.arr_ops.proofs.laws.independent_operations_commute.Goals as goal

pub returns : goal.returns
returns c = independent_commute
