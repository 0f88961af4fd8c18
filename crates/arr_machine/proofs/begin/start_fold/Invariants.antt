use Rattle.std.proofs.Common.{pos}
use Rattle.arr_num.specs.Numbers.{fold_start}
use Rattle.arr_sums.specs.Kept.{StepsEach}
use Rattle.arr_machine.proofs.begin.start_fold.Given as goal

abbrev pub invariant-loop-i : goal.invariant-loop-i
invariant-loop-i l = StepsEach l.along.elem (λ s x. fold_start l.along.code l.along.elem) l.fn.numbers (λ j. pos 0) l.along.kept l.i l.numbers
