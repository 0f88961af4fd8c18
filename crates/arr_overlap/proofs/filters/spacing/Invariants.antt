use Rattle.arr_overlap.proofs.Spacing.{Divisor}
use Rattle.arr_overlap.proofs.filters.spacing.Given as goal

abbrev pub invariant-loop-stride : goal.invariant-loop-stride
invariant-loop-stride l = Divisor l.number l.strides l.stride-index l.divisor
