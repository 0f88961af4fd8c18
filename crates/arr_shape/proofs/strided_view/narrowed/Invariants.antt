use Rattle.std.proofs.Common.{◌≡◌, ◌++◌, drop, length}
use Rattle.std.specs.List.{list_all}
use Rattle.arr_view.specs.Views.{kept_strides}
use Rattle.arr_shape.specs.Views.{is_narrow}
use Rattle.arr_shape.proofs.strided_view.narrowed.Given as goal

abbrev pub invariant-loop-axis : goal.invariant-loop-axis
invariant-loop-axis l = record {
  many : length l.kept.items ≡ l.axis;
  rest : l.kept.items ++ kept_strides (drop l.axis l.shape) (drop l.axis l.strides) ≡ kept_strides l.shape l.strides;
  narrow : list_all is_narrow (kept_strides (drop l.axis l.shape) (drop l.axis l.strides)) ≡ list_all is_narrow (kept_strides l.shape l.strides);
}
