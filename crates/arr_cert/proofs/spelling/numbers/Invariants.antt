use Rattle.std.proofs.Common.{◌-◌, length, decimal}
use Rattle.arr_cert.proofs.Joined.{Listed}
use Rattle.arr_cert.proofs.Numbers.{Narrow}
use Rattle.arr_cert.proofs.spelling.numbers.Given as goal

abbrev pub invariant-loop-at : goal.invariant-loop-at
invariant-loop-at l = Listed l.sign decimal Narrow l.text l.at l.found.items

abbrev pub decreases-loop-at : goal.decreases-loop-at
decreases-loop-at l = length l.text - l.at
