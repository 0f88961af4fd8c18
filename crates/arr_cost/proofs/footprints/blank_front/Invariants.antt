use Rattle.std.proofs.Common.{◌≡◌, ◌-◌, ◌<◌, ℕ, get_or, length}
use Rattle.arr_cost.specs.Footprints.{blank}
use Rattle.arr_cost.proofs.footprints.blank_front.Given as goal

abbrev pub invariant-loop-at : goal.invariant-loop-at
invariant-loop-at l = (i : ℕ) → i < l.at → get_or l.rows i blank ≡ blank

abbrev pub decreases-loop-at : goal.decreases-loop-at
decreases-loop-at l = length l.rows - l.at
