use Rattle.std.proofs.Common.{◌≡◌, false, take}
use Rattle.arr_heur.specs.Partitions.{lists_of, waits}
use Rattle.arr_heur.proofs.order.waits.Given as goal

abbrev pub invariant-loop-other : goal.invariant-loop-other
invariant-loop-other l = waits l.graph (lists_of l.blocks) (take l.other-index l.left) l.place ≡ false
