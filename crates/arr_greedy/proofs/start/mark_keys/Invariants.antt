use Rattle.std.proofs.Common.{◌≡◌, ◌<◌, ◌*◌, ℕ, ◌||◌, cond, length, take}
use Rattle.std.specs.Prelude.{◌==◌}
use Rattle.arr_view.specs.Views.{has}
use Rattle.arr_greedy.specs.Bits.{bit, columns, words}
use Rattle.arr_greedy.proofs.start.mark_keys.Given as goal

abbrev pub invariant-loop-key : goal.invariant-loop-key
invariant-loop-key l = record {
  size : length l.rows ≡ l.width * words l.width;
  marked : (x y : ℕ) → x < l.width → y < columns l.width → bit l.rows l.width x y ≡ cond (x == 0) (bit l.fn.rows l.width x y || has (take l.key-index l.keys) y) (bit l.fn.rows l.width x y);
}
