use Rattle.std.proofs.Common.{pos}
use Rattle.arr_num.specs.declared.elem.Elem.TheVariants.{I64}
use Rattle.arr_sums.specs.Kept.{StepsEach}
use Rattle.arr_machine.proofs.begin.clear.Given as goal

abbrev pub invariant-loop-i : goal.invariant-loop-i
invariant-loop-i l = StepsEach I64 (λ _ _. pos 0) l.fn.numbers (λ _. pos 0) 0 l.i l.numbers
