use Rattle.std.proofs.Common.{◌≡◌, take}
use Rattle.arr_view.proofs.shape.Shape.without_axis.Given as goal

abbrev pub invariant-loop-length : goal.invariant-loop-length
invariant-loop-length l = l.kept.items ≡ take l.length-index l.lengths
