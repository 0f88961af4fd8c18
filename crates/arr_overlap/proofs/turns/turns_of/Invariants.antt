use Rattle.std.proofs.Common.{◌≤◌}
use Rattle.arr_overlap.proofs.turns.turns_of.Given as goal

abbrev pub invariant-loop-rest : goal.invariant-loop-rest
invariant-loop-rest l = record {
  divisor : l.divisor ≤ 2147483648;
  rest : l.rest ≤ 2147483648;
  count : l.count ≤ 2147483648;
  next : l.next ≤ l.fn.other;
}

abbrev pub decreases-loop-rest : goal.decreases-loop-rest
decreases-loop-rest l = l.rest
