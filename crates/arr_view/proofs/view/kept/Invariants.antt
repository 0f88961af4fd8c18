use Rattle.std.proofs.Common.{◌≡◌, ◌++◌, drop, length}
use Rattle.arr_view.specs.Views.{kept_strides}
use Rattle.arr_view.proofs.view.kept.Given as goal

abbrev pub invariant-loop-axis : goal.invariant-loop-axis
invariant-loop-axis l = record {
  many : length l.kept.items ≡ l.axis;
  rest : l.kept.items ++ kept_strides (drop l.axis l.lengths) (drop l.axis l.strides) ≡ kept_strides l.lengths l.strides;
}
