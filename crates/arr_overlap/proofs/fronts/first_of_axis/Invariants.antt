use Rattle.std.proofs.Common.{◌≡◌, ◌++◌, drop, length, set}
use Rattle.arr_overlap.proofs.fronts.first_of_axis.Given as goal

abbrev pub invariant-loop-dimension : goal.invariant-loop-dimension
invariant-loop-dimension l = record {
  many : length l.lengths.items ≡ l.dimension;
  rest : l.lengths.items ++ drop l.dimension (set l.view.lengths l.axis 1) ≡ set l.view.lengths l.axis 1;
}
