use Rattle.std.proofs.Common.{◌≡◌, ◌+◌, ◌-◌, ◌*◌, ◌/◌, ◌^◌, ◌≤◌}
use Rattle.arr_cost.specs.Footprints.{has_bit, span}
use Rattle.arr_cost.proofs.footprints.add_weights.Given as goal

abbrev pub invariant-loop-left : goal.invariant-loop-left
invariant-loop-left l = record {
  value : l.total ≡ l.sum + span l.weights l.first l.digit (has_bit l.word);
  small : l.total ≤ l.sum + l.digit * 8388608;
  left : l.left ≡ l.word / 2 ^ l.digit;
  inside : l.digit ≤ 64;
}

abbrev pub decreases-loop-left : goal.decreases-loop-left
decreases-loop-left l = 64 - l.digit
