use Rattle.std.proofs.Common.{◌≡◌, ◌+ℤ◌, ◌*◌, ◌^◌, ◌≤◌, drop, unsigned_abs}
use Rattle.arr_shift.specs.Shifts.{reach}
use Rattle.arr_shift.proofs.shifts.reach.Given as goal

abbrev pub invariant-loop-axis : goal.invariant-loop-axis
invariant-loop-axis l =
    record {
      sum : l.sum +ℤ reach (drop l.axis l.lengths) (drop l.axis l.strides) ≡ reach l.lengths l.strides;
      size : unsigned_abs l.sum ≤ l.axis * 2 ^ 63;
    }
