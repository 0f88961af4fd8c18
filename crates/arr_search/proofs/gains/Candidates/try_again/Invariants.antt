use Rattle.std.proofs.Common.{◌≡◌}
use Rattle.arr_search.proofs.gains.Candidates.try_again.Given as goal

abbrev pub invariant-loop-turn : goal.invariant-loop-turn
invariant-loop-turn l = l.state ≡ l.fn.state
