use Rattle.std.proofs.Common.{◌≡◌, ◌+◌, false, take}
use Rattle.std.specs.Prelude.{◌==◌}
use Rattle.std.specs.List.{list_any}
use Rattle.arr_check.proofs.plan.is_followed.Given as goal

abbrev pub invariant-loop-at : goal.invariant-loop-at
invariant-loop-at l = list_any (λ q. q + 1 == l.place) (take l.at l.places) ≡ false
