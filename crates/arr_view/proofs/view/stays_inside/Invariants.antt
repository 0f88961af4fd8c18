use Rattle.std.proofs.Common.{pos}
use Rattle.arr_view.proofs.Places.{Span}
use Rattle.arr_view.proofs.view.stays_inside.Given as goal

abbrev pub invariant-loop-axis : goal.invariant-loop-axis
invariant-loop-axis l = Span l.lengths l.strides (pos l.start) l.axis l.least l.greatest
