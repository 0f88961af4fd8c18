use Rattle.std.proofs.Common.{◌≡◌, ℕ, None, length, get_or}
use Rattle.arr_overlap.proofs.classes.unmarked.Given as goal

abbrev pub invariant-loop-view : goal.invariant-loop-view
invariant-loop-view l = record {
  long : length l.marks.items ≡ l._view-index;
  none : (i : ℕ) → get_or l.marks.items i None ≡ None;
}
