use Rattle.std.proofs.Common.{ℕ, ◌≤◌, ◌<◌, ◌-◌, ◌*◌, length}
use Rattle.arr_overlap.specs.Legs.{LeadTo}
use Rattle.arr_overlap.proofs.legs.+lead_on.Given as goal

abbrev pub decreases-lead_on : goal.decreases-lead_on
decreases-lead_on l = length l.legs.now

abbrev pub invariant-loop-count : goal.invariant-loop-count
invariant-loop-count l = (k : ℕ) → l.least ≤ k → k < l.count → LeadTo l.others (l.target - k * l.leg.step) → ⊥
