use Rattle.std.proofs.Common.{◌≡◌, ℕ, ◌<◌, get_or, length}
use Rattle.arr_cost.specs.Footprints.{blank, join}
use Rattle.arr_cost.proofs.footprints.Footprint.joined.Given as goal

abbrev pub invariant-loop-index : goal.invariant-loop-index
invariant-loop-index l = record {
  long : length l.rows.items ≡ l.index;
  rows : (k : ℕ) → k < l.index → get_or l.rows.items k blank ≡ join (get_or l.self k blank) (get_or l.other k blank);
}
