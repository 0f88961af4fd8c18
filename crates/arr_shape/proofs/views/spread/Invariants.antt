use Rattle.std.proofs.Common.{◌≡◌, ◌++◌, drop, length}
use Rattle.arr_shape.specs.Shapes.{padded}
use Rattle.arr_shape.specs.Views.{all_spread, spread_strides, padded_strides}
use Rattle.arr_shape.proofs.views.spread.Given as goal

abbrev pub invariant-loop-axis : goal.invariant-loop-axis
invariant-loop-axis l = record {
  many : length l.strides.items ≡ l.axis;
  match : all_spread (drop l.axis l.shape) (drop l.axis (padded (length l.shape) l.view.lengths)) ≡ all_spread l.shape (padded (length l.shape) l.view.lengths);
  so_far :
      l.strides.items ++ spread_strides (drop l.axis l.shape) (drop l.axis (padded (length l.shape) l.view.lengths)) (drop l.axis (padded_strides (length l.shape) l.view.strides))
      ≡ spread_strides l.shape (padded (length l.shape) l.view.lengths) (padded_strides (length l.shape) l.view.strides);
}
