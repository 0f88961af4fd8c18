use Rattle.std.proofs.Common.{◌≡◌, ◌*◌, ◌≤◌, length, take}
use Rattle.std.specs.List.{flat_map}
use Rattle.arr_cost.specs.Touches.{Counted, kept, marks, touched_by}
use Rattle.arr_cost.proofs.tally.count_block.Given as goal

abbrev pub invariant-loop-place : goal.invariant-loop-place
invariant-loop-place l = record {
  long : length l.seen ≡ length l.fn.seen;
  small : l.sum ≤ marks l.seen * 8388608;
  counted : Counted (flat_map (kept l.made l.freed) (touched_by l.table (take l.place l.block))) l.seen l.sum;
}
