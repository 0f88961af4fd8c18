use Rattle.std.proofs.Common.{◌≡◌, ◌<◌, ◌*◌, ℕ, cond, length}
use Rattle.std.specs.Prelude.{◌==◌}
use Rattle.arr_greedy.specs.Bits.{bit, columns, words}
use Rattle.arr_greedy.specs.Fast.{by_step}
use Rattle.arr_greedy.specs.Start.{deps_at}
use Rattle.arr_greedy.proofs.start.fill_row.Given as goal

abbrev pub invariant-loop-other : goal.invariant-loop-other
invariant-loop-other l = record {
  size : length l.rows ≡ l.width * words l.width;
  row : (x y : ℕ) → x < l.width → y < columns l.width → bit l.rows l.width x y ≡ cond (x == l.row) (by_step (deps_at l.graph) (bit l.fn.rows l.width) l.other x y) (bit l.fn.rows l.width x y);
}
