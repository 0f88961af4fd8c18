use Rattle.std.proofs.Common.{◌≡◌, ◌≤◌, ◌+◌, ◌*◌, drop}
use Rattle.arr_overlap.specs.Legs.{reach}
use Rattle.arr_overlap.proofs.legs.reach.Given as goal

abbrev pub invariant-loop-leg : goal.invariant-loop-leg
invariant-loop-leg l = record {
  rest : l.reach + reach (drop l.leg-index l.legs) ≡ reach l.legs;
  small : l.reach ≤ l.leg-index * 36028797018963968;
}
