use Rattle.std.proofs.Common.{◌≡◌, ◌≤◌, length, take}
use Rattle.arr_state.proofs.known.drop_closed.Given as goal

abbrev pub invariant-loop-closed : goal.invariant-loop-closed
invariant-loop-closed l = record { kept : l.closed.items ≡ take (length l.closed.items) l.initial.closed.items; within : length l.closed.items ≤ length l.initial.closed.items }

abbrev pub decreases-loop-closed : goal.decreases-loop-closed
decreases-loop-closed l = length l.closed.items
