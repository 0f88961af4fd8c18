use Rattle.std.proofs.Common.{◌≡◌, ◌++◌, drop, length}
use Rattle.arr_overlap.specs.Filters.{row_lengths}
use Rattle.arr_overlap.proofs.fronts.first_row.Given as goal

abbrev pub invariant-loop-axis : goal.invariant-loop-axis
invariant-loop-axis l = record {
  many : length l.lengths.items ≡ l.axis;
  rest : l.lengths.items ++ row_lengths l.row (drop l.axis l.view.lengths) (drop l.axis l.view.strides) ≡ row_lengths l.row l.view.lengths l.view.strides;
}
