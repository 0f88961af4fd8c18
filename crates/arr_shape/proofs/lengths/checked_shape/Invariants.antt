use Rattle.std.proofs.Common.{◌≡◌, ◌≤◌, ◌*◌, take, drop}
use Rattle.arr_view.specs.Views.{positions}
use Rattle.arr_shape.proofs.lengths.checked_shape.Given as goal

abbrev pub invariant-loop-length : goal.invariant-loop-length
invariant-loop-length l = record {
  some : 1 ≤ l.count;
  few : l.count ≤ 1048576;
  value : l.count * positions (drop l.length-index l.lengths) ≡ positions l.lengths;
  so_far : l.shape.items ≡ take l.length-index l.lengths;
}
