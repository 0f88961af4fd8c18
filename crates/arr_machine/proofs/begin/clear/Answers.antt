use Rattle.std.proofs.Common.{pos, arith}
use Rattle.arr_num.specs.declared.elem.Elem.TheVariants.{I64}
use Rattle.arr_sums.proofs.Kept.{steps_begin}
use Rattle.arr_machine.proofs.Begins.{zeros_more}
use Rattle.arr_machine.proofs.begin.clear.Goals as goal

pub loop-i-init : goal.loop-i-init
loop-i-init c = steps_begin I64 (λ _ _. pos 0) c.args.numbers.now (λ _. pos 0) 0

pub loop-i-preserved : goal.loop-i-preserved
loop-i-preserved c = zeros_more I64 c.args.numbers.now c.loop-i.numbers c.loop-i.i (omega (arith, c.loop-i-test.true, c.loop-i.invariant.long)) c.loop-i.invariant
