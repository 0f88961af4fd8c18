use Rattle.std.proofs.Common.{◌≡◌, ◌≢◌, ◌<◌, ◌*◌, ℕ, length, take}
use Rattle.arr_ops.specs.Order.{In}
use Rattle.arr_greedy.specs.Bits.{bit, columns, words}
use Rattle.arr_greedy.proofs.Gained.{gained_to}
use Rattle.arr_greedy.proofs.reach.reach_rows.Given as goal

abbrev pub invariant-loop-key : goal.invariant-loop-key
invariant-loop-key l = record {
  size : length l.rows ≡ l.width * words l.width;
  rows : (x y : ℕ) → In x l.keys → In y l.keys → x ≢ l.right → bit l.rows l.width x y ≡ gained_to (bit l.fn.rows l.width) l.left l.right (take l.key-index l.keys) x y;
  first : (y : ℕ) → y < columns l.width → bit l.rows l.width 0 y ≡ bit l.fn.rows l.width 0 y;
}
