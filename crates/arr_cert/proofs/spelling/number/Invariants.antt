use Rattle.arr_cert.proofs.Decimals.{Reads}
use Rattle.arr_cert.proofs.spelling.number.Given as goal

abbrev pub invariant-loop-b : goal.invariant-loop-b
invariant-loop-b l = Reads l.value l.b-index l.others l.text
