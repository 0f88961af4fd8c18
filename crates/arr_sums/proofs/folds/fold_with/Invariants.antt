use Rattle.std.proofs.Common.{◌≡◌, ◌+◌}
use Rattle.arr_num.specs.Numbers.{value}
use Rattle.arr_native.specs.Entries.{entry}
use Rattle.arr_strips.specs.Columns.{fold_upto}
use Rattle.arr_sums.proofs.folds.fold_with.Given as goal

abbrev pub invariant-loop-i : goal.invariant-loop-i
invariant-loop-i g l =
    g.T.Native.number l.sum ≡ fold_upto (value l.fn._code g.T.Native.elem) (g.T.Native.number l.fn.start) (λ j. entry g.T.Native.number l.source (l.from + j)) l.i
