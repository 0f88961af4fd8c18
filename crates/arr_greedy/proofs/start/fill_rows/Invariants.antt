use Rattle.std.proofs.Common.{◌≡◌, ◌<◌, ◌≤◌, ◌+◌, ◌*◌, ℕ, length, false}
use Rattle.arr_greedy.specs.Bits.{bit, columns, words}
use Rattle.arr_greedy.specs.Fast.{by_step}
use Rattle.arr_greedy.specs.Start.{deps_at}
use Rattle.arr_greedy.proofs.start.fill_rows.Given as goal

abbrev pub invariant-loop-back : goal.invariant-loop-back
invariant-loop-back l = record {
  size : length l.rows ≡ l.width * words l.width;
  filled : (x y : ℕ) → x < l.width → y < columns l.width → l.width ≤ x + l.back → bit l.rows l.width x y ≡ by_step (deps_at l.graph) (bit l.rows l.width) l.width x y;
  clear : (x y : ℕ) → x < l.width → y < columns l.width → x + l.back < l.width → bit l.rows l.width x y ≡ false;
}
