use Rattle.std.proofs.Common.{◌≡◌, drop, length, true}
use Rattle.arr_greedy.specs.Bits.{bit}
use Rattle.arr_greedy.specs.Fast.{flag, amount, best_after, may_merge, next_pair, found_below}
use Rattle.arr_greedy.specs.Tables.{Bounded}
use Rattle.arr_heur.specs.Planners.{pairs}
use Rattle.arr_greedy.proofs.choice.next_pair.Given as goal

abbrev pub invariant-loop-place : goal.invariant-loop-place
invariant-loop-place l = record {
  best : best_after (λ p. amount l.saved l.width p.0 p.1) (may_merge (flag l.fuses l.width) (bit l.reaches l.width) l.keys) l.found (pairs (drop l.place l.keys))
      ≡ next_pair (flag l.fuses l.width) (bit l.reaches l.width) (amount l.saved l.width) l.keys;
  below : found_below l.width l.found ≡ true;
  bounds_size : length l.bounds ≡ l.width;
  bounded : Bounded l.fuses l.reaches l.saved l.width l.bounds l.keys;
}
