use Rattle.std.proofs.Common.{◌≡◌, ℕ, ◌/◌, ◌≤◌, ◌+ℤ◌}
use Rattle.arr_rows.specs.Rows.{far, step}
use Rattle.arr_rows.proofs.dimension.last_as_one.Given as goal

abbrev pub invariant-loop-left : goal.invariant-loop-left
invariant-loop-left l =
    record {
      some : 1 ≤ l.last.length;
      within : l.left ≤ l.end;
      far : (p : ℕ) → far l.shape l.strides l.end p ≡ step l.last p +ℤ far l.shape l.strides l.left (p / l.last.length);
    }

abbrev pub decreases-loop-left : goal.decreases-loop-left
decreases-loop-left l = l.left
