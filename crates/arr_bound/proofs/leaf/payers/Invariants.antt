use Rattle.std.proofs.Common.{◌≡◌, ℕ, ◌/◌, ◌<◌, ◌&&◌, ◌||◌, length}
use Rattle.arr_sets.specs.Bits.{is_set}
use Rattle.arr_bound.specs.Worth.{in_rows}
use Rattle.arr_bound.proofs.leaf.payers.Given as goal

abbrev pub invariant-loop-index : goal.invariant-loop-index
invariant-loop-index l = record {
  long : length l.set.items ≡ l.index;
  each : (g : ℕ) → g / 64 < l.index → is_set l.set.items g ≡ ((is_set l.class.readers.items g && in_rows l.width l.apart l.class.creator g) || (is_set l.class.writers.items g && in_rows l.width l.apart l.class.freer g));
}
