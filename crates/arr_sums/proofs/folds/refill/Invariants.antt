use Rattle.std.proofs.Common.{pos}
use Rattle.arr_sums.specs.Kept.{StepsEach}
use Rattle.arr_sums.proofs.folds.refill.Given as goal

abbrev pub invariant-loop-i : goal.invariant-loop-i
invariant-loop-i g l = StepsEach g.T.Native.elem (λ s x. g.T.Native.number l.start) l.fn.sums (λ j. pos 0) l.fn.at l.i l.sums
