use Rattle.std.proofs.Common.{◌≡◌, ◌<◌, ◌*◌, ◌/◌, ℕ, ◌&&◌, ◌||◌, cond, length}
use Rattle.std.specs.Prelude.{◌==◌, nat_lt}
use Rattle.arr_greedy.specs.Bits.{bit, columns, words}
use Rattle.arr_greedy.proofs.grid.join_rows.Given as goal

abbrev pub invariant-loop-index : goal.invariant-loop-index
invariant-loop-index l = record {
  size : length l.rows ≡ l.width * words l.width;
  joined : (x y : ℕ) → x < l.width → y < columns l.width
      → bit l.rows l.width x y ≡ cond (x == l.into && nat_lt (y / 64) l.index) (bit l.fn.rows l.width l.first y || bit l.fn.rows l.width l.second y) (bit l.fn.rows l.width x y);
}
