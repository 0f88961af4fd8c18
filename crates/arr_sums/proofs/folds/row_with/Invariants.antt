use Rattle.std.proofs.Common.{◌+◌}
use Rattle.arr_num.specs.Numbers.{value}
use Rattle.arr_native.specs.Entries.{entry}
use Rattle.arr_sums.specs.Kept.{StepsEach}
use Rattle.arr_sums.proofs.folds.row_with.Given as goal

abbrev pub invariant-loop-i : goal.invariant-loop-i
invariant-loop-i g l = StepsEach g.T.Native.elem (value l.fn._code g.T.Native.elem) l.fn.sums (λ j. entry g.T.Native.number l.source (l.from + j)) l.fn.at l.i l.sums
