use Rattle.std.proofs.Common.{◌≡◌, ◌++◌, drop, length}
use Rattle.arr_shape.specs.Shapes.{padded, all_match, greater}
use Rattle.arr_shape.proofs.lengths.broadcast.Given as goal

abbrev pub invariant-loop-axis : goal.invariant-loop-axis
invariant-loop-axis l = record {
  many : length l.lengths.items ≡ l.axis;
  match : all_match (drop l.axis (padded l.rank l.left)) (drop l.axis (padded l.rank l.right)) ≡ all_match (padded l.rank l.left) (padded l.rank l.right);
  so_far : l.lengths.items ++ greater (drop l.axis (padded l.rank l.left)) (drop l.axis (padded l.rank l.right)) ≡ greater (padded l.rank l.left) (padded l.rank l.right);
}
