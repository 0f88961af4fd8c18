use Rattle.std.proofs.Common.{◌≡◌, ◌<◌, ℕ, ◌||◌, false, take, length, get_or}
use Rattle.arr_view.specs.Views.{has}
use Rattle.arr_greedy.proofs.merging.mark_all.Given as goal

abbrev pub invariant-loop-number : goal.invariant-loop-number
invariant-loop-number l = record {
  size : length l.marks ≡ length l.fn.marks;
  marks : (i : ℕ) → i < length l.fn.marks → get_or l.marks i false ≡ (get_or l.fn.marks i false || has (take l.number-index l.block) i);
}
