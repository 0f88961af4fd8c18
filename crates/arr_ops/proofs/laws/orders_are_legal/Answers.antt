use Rattle.arr_ops.proofs.Orders.{orders_legal}
use Rattle.arr_ops.proofs.laws.orders_are_legal.Goals as goal

pub returns : goal.returns
returns c = orders_legal
