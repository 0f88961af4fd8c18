use Rattle.std.proofs.Common.{◌≤◌}
use Rattle.arr_overlap.proofs.filters.row_length.Given as goal

abbrev pub invariant-loop-stride : goal.invariant-loop-stride
invariant-loop-stride l = 1 ≤ l.row
