use Rattle.std.proofs.Common.{◌≡◌}
use Rattle.arr_search.proofs.gains.Candidates.find.Given as goal

abbrev pub invariant-loop-f : goal.invariant-loop-f
invariant-loop-f l = l.state ≡ l.fn.state
