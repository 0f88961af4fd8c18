use Rattle.std.proofs.Common.{◌≡◌, ◌*◌, ◌⊎◌, ℕ, drop, length}
use Rattle.arr_ops.specs.Order.{In}
use Rattle.arr_heur.specs.Planners.{pairs}
use Rattle.arr_greedy.specs.Standing.{IsPriced}
use Rattle.arr_greedy.proofs.pricing.price_all.Given as goal

abbrev pub invariant-loop-place : goal.invariant-loop-place
invariant-loop-place l = record {
  saved_size : length l.saved ≡ l.width * l.width;
  bounds_size : length l.bounds ≡ l.width;
  priced : (p : ℕ × ℕ) → In p (pairs l.keys) → In p (pairs (drop l.place l.keys)) ⊎ IsPriced l.costs l.blocks l.fuses l.reaches l.keys l.saved l.bounds l.width p.0 p.1;
}
