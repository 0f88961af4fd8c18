use Rattle.std.proofs.Common.{◌≡◌, take}
use Rattle.arr_law.proofs.charges.Charges.copied.Given as goal

abbrev pub invariant-loop-charge : goal.invariant-loop-charge
invariant-loop-charge l = l.charges.items ≡ take l.charge-index l.charge-items
