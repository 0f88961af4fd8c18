use Rattle.arr_ops.proofs.Orders.{orders_found}
use Rattle.arr_ops.proofs.laws.orders_are_found.Goals as goal

pub returns : goal.returns
returns c = orders_found
