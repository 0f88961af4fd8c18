use Rattle.arr_run.proofs.Numerals.{Reading}
use Rattle.arr_run.proofs.words.number_up_to.Given as goal

abbrev pub invariant-loop-digit : goal.invariant-loop-digit
invariant-loop-digit l = Reading l.most l.digits l.digit-index l.number
