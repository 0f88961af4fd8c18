use Rattle.std.proofs.Common.{◌-◌, length}
use Rattle.arr_cert.proofs.Joined.{Listed}
use Rattle.arr_cert.proofs.Groups.{Good, bare}
use Rattle.arr_cert.proofs.spelling.groups.Given as goal

abbrev pub invariant-loop-at : goal.invariant-loop-at
invariant-loop-at l = Listed 32 bare Good l.text l.at l.found

abbrev pub decreases-loop-at : goal.decreases-loop-at
decreases-loop-at l = length l.text - l.at
