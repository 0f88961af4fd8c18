use Rattle.std.proofs.Common.{◌≡◌, ◌<◌, ◌*◌, ℕ, ◌&&◌, cond, length}
use Rattle.std.specs.Prelude.{nat_eq, nat_lt}
use Rattle.arr_greedy.specs.Bits.{bit, columns, words}
use Rattle.arr_greedy.proofs.start.turn_row.Given as goal

abbrev pub invariant-loop-column : goal.invariant-loop-column
invariant-loop-column l = record {
  size : length l.turned ≡ l.width * words l.width;
  turned : (y x : ℕ) → y < l.width → x < columns l.width → bit l.turned l.width y x ≡ cond ((nat_eq l.row x && nat_lt 0 y) && nat_lt y l.column) (bit l.rows l.width x y) (bit l.fn.turned l.width y x);
}
