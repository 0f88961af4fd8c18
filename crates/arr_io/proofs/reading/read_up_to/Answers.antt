use Rattle.std.proofs.Common.{arith, ℕ}
use Rattle.std.proofs.lemmas.List.{length-take}
use Rattle.arr_io.proofs.Pieces.{both_taken}
use Rattle.arr_io.proofs.reading.read_up_to.Goals as goal

pub returns-then-is_err-clause-taken : goal.returns-then-is_err-clause-taken
returns-then-is_err-clause-taken g c =
    both_taken _ _ _ _ _ _ c.loop-buffer.invariant.taken c.in-Ok.ensures.bytes.0 (omega (arith, length-take {A = ℕ}))
