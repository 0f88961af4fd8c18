use Rattle.std.proofs.Common.{◌≡◌, take, reverse}
use Rattle.arr_shape.proofs.views.reversed.Given as goal

abbrev pub invariant-loop-item : goal.invariant-loop-item
invariant-loop-item g l = l.turned.items ≡ reverse (take l.item-index l.list)
