use Rattle.std.proofs.Common.{◌+◌, ◌/◌}
use Rattle.arr_bound.specs.Sets.{in_row}
use Rattle.arr_bound.specs.Picks.{IsNext}
use Rattle.arr_bound.proofs.Picked.{Looking, left}
use Rattle.arr_bound.proofs.picks.lead_of.Given as goal

abbrev pub invariant-loop-next : goal.invariant-loop-next
invariant-loop-next l = record {
  looking : Looking (in_row (l.count / 64 + 1) l.apart) l.set l.rest.items;
  next : IsNext l.rest.items l.next;
}

abbrev pub decreases-loop-next : goal.decreases-loop-next
decreases-loop-next l = left l.next
