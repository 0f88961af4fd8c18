use Rattle.std.proofs.Common.{◌≡◌, ◌≤◌, ◌++◌, drop, length}
use Rattle.arr_view.specs.Views.{positions, whole_strides}
use Rattle.arr_view.proofs.view.gapless_strides.Given as goal

abbrev pub invariant-loop-length : goal.invariant-loop-length
invariant-loop-length l = record {
  many : length l.strides.items ≡ l.length-index;
  size : l.rest ≡ positions (drop l.length-index l.lengths);
  few : l.rest ≤ 1048576;
  rest : l.strides.items ++ whole_strides (drop l.length-index l.lengths) ≡ whole_strides l.lengths;
}
