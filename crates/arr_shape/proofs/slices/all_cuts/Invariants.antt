use Rattle.std.proofs.Common.{◌≡◌, drop, take, length}
use Rattle.arr_shape.specs.Slices.{all_cuts, AreCuts}
use Rattle.arr_shape.proofs.Joins.{after}
use Rattle.arr_shape.proofs.slices.all_cuts.Given as goal

abbrev pub invariant-loop-axis : goal.invariant-loop-axis
invariant-loop-axis l = record {
  many : length l.cuts.items ≡ l.axis;
  so_far : after l.cuts.items (all_cuts (drop l.axis l.lengths) (drop l.axis l.slices)) ≡ all_cuts l.lengths l.slices;
  lawful : AreCuts (take l.axis l.lengths) l.cuts.items;
}
