use Rattle.std.proofs.Common.{◌≡◌, ◌<◌, ◌*◌, ℕ, ◌&&◌, cond, length}
use Rattle.std.specs.Prelude.{◌==◌, nat_lt}
use Rattle.arr_greedy.specs.Fast.{flag}
use Rattle.arr_greedy.specs.Start.{fuses_at}
use Rattle.arr_greedy.proofs.tables.fuse_row.Given as goal

abbrev pub invariant-loop-column : goal.invariant-loop-column
invariant-loop-column l = record {
  size : length l.rows ≡ l.width * l.width;
  row : (x y : ℕ) → x < l.width → y < l.width → flag l.rows l.width x y ≡ cond (x == l.row && nat_lt y l.column) (fuses_at l.graph l.row y) (flag l.fn.rows l.width x y);
}
