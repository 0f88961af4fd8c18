use Rattle.std.proofs.Common.{◌≡◌, ◌<◌, ◌*◌, ℕ, ◌&&◌, not, cond, length}
use Rattle.std.specs.Prelude.{◌==◌, nat_lt}
use Rattle.arr_greedy.specs.Fast.{flag}
use Rattle.arr_greedy.proofs.rows.fuse_column.Given as goal

abbrev pub invariant-loop-row : goal.invariant-loop-row
invariant-loop-row l = record {
  size : length l.rows ≡ l.width * l.width;
  column : (x y : ℕ) → x < l.width → y < l.width → flag l.rows l.width x y ≡ cond ((y == l.left && not (x == l.left)) && nat_lt x l.row) (flag l.fn.rows l.width x l.left && flag l.fn.rows l.width x l.right) (flag l.fn.rows l.width x y);
}
