use Rattle.std.proofs.Common.{◌≡◌, ◌+◌, true, take}
use Rattle.std.specs.Prelude.{◌&&◌, ◌||◌, nat_le, ◌==◌}
use Rattle.std.specs.List.{list_all, list_any}
use Rattle.arr_check.proofs.plan.are_places.Given as goal

abbrev pub invariant-loop-at : goal.invariant-loop-at
invariant-loop-at l = list_all (λ p. nat_le 1 p && ((p == 1) || list_any (λ q. q + 1 == p) l.places)) (take l.at l.places) ≡ true
