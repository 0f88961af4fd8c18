use Rattle.std.proofs.Common.{◌≡◌, ◌+◌, length}
use Rattle.arr_num.specs.Numbers.{value}
use Rattle.arr_native.specs.Entries.{entry}
use Rattle.arr_strips.specs.Columns.{fold_upto}
use Rattle.arr_sums.proofs.Turns.{RunDone}
use Rattle.arr_sums.proofs.folds.scan_with.Given as goal

abbrev pub invariant-loop-i : goal.invariant-loop-i
invariant-loop-i g l =
    record {
      long : length l.out ≡ length l.fn.out;
      sum : g.T.Native.number l.sum ≡ fold_upto (value l.fn._code g.T.Native.elem) (g.T.Native.number l.fn.start) (λ k. entry g.T.Native.number l.source (l.from + k)) l.i;
      done : RunDone g.T.Native.number (λ j. fold_upto (value l.fn._code g.T.Native.elem) (g.T.Native.number l.fn.start) (λ k. entry g.T.Native.number l.source (l.from + k)) (j + 1)) l.fn.out l.from l.i
          l.out;
    }
