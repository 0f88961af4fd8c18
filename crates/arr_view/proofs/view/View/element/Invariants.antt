use Rattle.std.proofs.Common.{pos}
use Rattle.arr_view.proofs.Spots.{Spot}
use Rattle.arr_view.proofs.view.View.element.Given as goal

abbrev pub invariant-loop-axis : goal.invariant-loop-axis
invariant-loop-axis l = Spot l.self-inside.shape.items l.self-inside.strides.items (pos l.self-inside.start) l.position l.axis l.place l.rest l.left
