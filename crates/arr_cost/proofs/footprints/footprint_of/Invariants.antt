use Rattle.std.proofs.Common.{◌≡◌, ℕ, ◌<◌, get_or, length}
use Rattle.arr_cost.specs.Footprints.{blank}
use Rattle.arr_cost.proofs.Prints.{Tells}
use Rattle.arr_cost.proofs.footprints.footprint_of.Given as goal

abbrev pub invariant-loop-index : goal.invariant-loop-index
invariant-loop-index l = record {
  long : length l.rows.items ≡ l.index;
  tells : (k : ℕ) → k < l.index → Tells l.touches l.bases k (get_or l.rows.items k blank);
}
