use Rattle.std.proofs.Common.{◌≡◌, ◌+◌, ◌/◌, length}
use Rattle.arr_sets.specs.Bits.{is_set}
use Rattle.arr_bound.specs.Sets.{in_row}
use Rattle.arr_bound.specs.Picks.{IsNext, Picking, HasTwo}
use Rattle.arr_bound.proofs.Picked.{left}
use Rattle.arr_bound.proofs.picks.picks_of.Given as goal

abbrev pub invariant-loop-next : goal.invariant-loop-next
invariant-loop-next l = record {
  long : length l.set.items ≡ l.count / 64 + 1;
  picking : Picking (in_row (l.count / 64 + 1) l.apart) (is_set l.fn.set.items) l.set.items l.picks;
  two : HasTwo (in_row (l.count / 64 + 1) l.apart) (is_set l.fn.set.items) l.picks;
  next : IsNext l.set.items l.next;
}

abbrev pub decreases-loop-next : goal.decreases-loop-next
decreases-loop-next l = left l.next
