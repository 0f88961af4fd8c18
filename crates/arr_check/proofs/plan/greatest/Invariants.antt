use Rattle.std.proofs.Common.{◌≡◌, take}
use Rattle.arr_law.specs.Plans.{greatest}
use Rattle.arr_check.proofs.plan.greatest.Given as goal

abbrev pub invariant-loop-at : goal.invariant-loop-at
invariant-loop-at l = l.most ≡ greatest (take l.at l.places)
