use Rattle.std.proofs.Common.{◌≡◌, drop}
use Rattle.arr_shift.specs.Shifts.{rises}
use Rattle.arr_shift.proofs.shifts.rises.Given as goal

abbrev pub invariant-loop-axis : goal.invariant-loop-axis
invariant-loop-axis l = rises (drop l.axis l.lengths) (drop l.axis l.strides) ≡ rises l.lengths l.strides
