use Rattle.std.proofs.Common.{◌≡◌, ℕ, ◌<◌, ◌||◌, false, get_or, length, take}
use Rattle.std.specs.List.{list_any}
use Rattle.arr_cost.specs.Touches.{makes_number, touched_by}
use Rattle.arr_cost.proofs.tally.mark_all_made.Given as goal

abbrev pub invariant-loop-place : goal.invariant-loop-place
invariant-loop-place l = record {
  long : length l.marked ≡ length l.fn.marked;
  each : (b : ℕ) → b < length l.fn.marked → get_or l.marked b false ≡ (get_or l.fn.marked b false || list_any (makes_number b) (touched_by l.table (take l.place l.block)));
}
