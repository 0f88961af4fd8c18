use Rattle.std.proofs.Common.{◌≡◌, ◌++◌, pos, drop, length, map}
use Rattle.arr_view.proofs.Places.{Inside}
use Rattle.arr_shape.specs.declared.bounds.Cut.{Cut}
use Rattle.arr_shape.specs.Slices.{scaled}
use Rattle.arr_shape.specs.Views.{place_at}
use Rattle.arr_shape.proofs.slices.cut_view.Given as goal

abbrev pub invariant-loop-axis : goal.invariant-loop-axis
invariant-loop-axis l = record {
  many : length l.lengths.items ≡ l.axis;
  many_strides : length l.strides.items ≡ l.axis;
  inside : Inside (drop l.axis l.view.lengths) (drop l.axis l.view.strides) l.start;
  place : place_at l.start (drop l.axis l.view.strides) (map (λ (c : Cut). c.first) (drop l.axis l.cuts)) ≡ place_at (pos l.view.start) l.view.strides (map (λ (c : Cut). c.first) l.cuts);
  lengths : l.lengths.items ++ map (λ (c : Cut). c.count) (drop l.axis l.cuts) ≡ map (λ (c : Cut). c.count) l.cuts;
  strides : l.strides.items ++ scaled (drop l.axis l.cuts) (drop l.axis l.view.strides) ≡ scaled l.cuts l.view.strides;
}
