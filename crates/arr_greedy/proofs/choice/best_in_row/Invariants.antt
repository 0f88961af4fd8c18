use Rattle.std.proofs.Common.{◌≡◌, drop, true, None}
use Rattle.arr_greedy.specs.Bits.{bit}
use Rattle.arr_greedy.specs.Fast.{flag, amount, best_after, may_merge, row_pairs, found_below}
use Rattle.arr_greedy.proofs.choice.best_in_row.Given as goal

abbrev pub invariant-loop-place : goal.invariant-loop-place
invariant-loop-place l = record {
  best : best_after (λ p. amount l.saved l.width p.0 p.1) (may_merge (flag l.fuses l.width) (bit l.reaches l.width) l.keys) l.found (row_pairs l.left (drop l.place l.keys))
      ≡ best_after (λ p. amount l.saved l.width p.0 p.1) (may_merge (flag l.fuses l.width) (bit l.reaches l.width) l.keys) None (row_pairs l.left (drop l.fn.from l.keys));
  below : found_below l.width l.found ≡ true;
}
