use Rattle.std.proofs.Common.{◌≡◌, ◌<◌, ◌*◌, ℕ, length}
use Rattle.arr_greedy.specs.Fast.{flag}
use Rattle.arr_greedy.specs.Start.{fuses_at}
use Rattle.arr_greedy.proofs.tables.fuse_rows.Given as goal

abbrev pub invariant-loop-row : goal.invariant-loop-row
invariant-loop-row l = record {
  size : length l.rows ≡ l.width * l.width;
  flags : (x y : ℕ) → x < l.row → y < l.width → flag l.rows l.width x y ≡ fuses_at l.graph x y;
}
