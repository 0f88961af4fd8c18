use Rattle.std.proofs.Common.{pos}
use Rattle.arr_view.proofs.Ends.{Ends}
use Rattle.arr_view.proofs.view.View.ends.Given as goal

abbrev pub invariant-loop-axis : goal.invariant-loop-axis
invariant-loop-axis l = Ends l.self.lengths l.self.strides (pos l.self.start) l.axis l.least l.greatest
