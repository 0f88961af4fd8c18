use Rattle.std.proofs.Common.{◌≡◌}
use Rattle.arr_search.proofs.gains.join_pairs.Given as goal

abbrev pub invariant-loop-g : goal.invariant-loop-g
invariant-loop-g l = l.state ≡ l.fn.state
