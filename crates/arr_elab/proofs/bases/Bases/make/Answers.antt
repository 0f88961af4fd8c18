use Rattle.std.proofs.Common.{arith}
use Rattle.arr_elab.proofs.Totals.{live_make}
use Rattle.arr_elab.proofs.bases.Bases.make.Goals as goal

pub invariant_of-self-2 : goal.invariant_of-self-2
invariant_of-self-2 c = grind (arith, live_make)
