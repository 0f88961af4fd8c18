use Rattle.std.proofs.Common.{◌≡◌, ◌≤◌, ℕ, get_or, length}
use Rattle.arr_cost.specs.Footprints.{blank}
use Rattle.arr_cost.proofs.footprints.blank_rest.Given as goal

abbrev pub invariant-loop-end : goal.invariant-loop-end
invariant-loop-end l = record {
  inside : l.end ≤ length l.rows;
  behind : (i : ℕ) → l.end ≤ i → get_or l.rows i blank ≡ blank;
}

abbrev pub decreases-loop-end : goal.decreases-loop-end
decreases-loop-end l = l.end
