use Rattle.std.proofs.Common.{◌≡◌, length}
use Rattle.arr_sums.specs.Kept.{kept_at}
use Rattle.arr_sums.proofs.Turns.{RunDone}
use Rattle.arr_sums.proofs.folds.copy.Given as goal

abbrev pub invariant-loop-i : goal.invariant-loop-i
invariant-loop-i g l = record { long : length l.out ≡ length l.fn.out; done : RunDone g.T.Native.number (kept_at l.sums l.from) l.fn.out l.at l.i l.out }
