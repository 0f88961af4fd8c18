use Rattle.std.proofs.Common.{◌≡◌, ◌*◌, length}
use Rattle.std.specs.Prelude.{nat_lt}
use Rattle.arr_greedy.specs.Bits.{AreBits, bit, words}
use Rattle.arr_greedy.specs.Tables.{with_turned}
use Rattle.arr_greedy.proofs.start.turn_rows.Given as goal

abbrev pub invariant-loop-row : goal.invariant-loop-row
invariant-loop-row l = record {
  size : length l.turned ≡ l.width * words l.width;
  turned : AreBits l.turned l.width (with_turned (bit l.rows l.width) (bit l.fn.turned l.width) (λ x. nat_lt x l.row));
}
