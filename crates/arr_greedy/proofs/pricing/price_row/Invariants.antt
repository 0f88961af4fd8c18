use Rattle.std.proofs.Common.{◌≡◌, ◌≤◌, ◌<◌, ◌*◌, ℕ, length, min, max, get_or}
use Rattle.arr_greedy.specs.Standing.{IsPriced, PricesStay}
use Rattle.arr_greedy.proofs.pricing.price_row.Given as goal

abbrev pub invariant-loop-place : goal.invariant-loop-place
invariant-loop-place l = record {
  saved_size : length l.saved ≡ l.width * l.width;
  bounds_size : length l.bounds ≡ l.width;
  priced : (i : ℕ) → l.from ≤ i → i < l.place → IsPriced l.costs l.blocks l.fuses l.reaches l.keys l.saved l.bounds l.width (min l.left (get_or l.keys i 0)) (max l.left (get_or l.keys i 0));
  stays : PricesStay l.costs l.blocks l.fuses l.reaches l.fn.saved l.fn.bounds l.saved l.bounds l.width;
}
