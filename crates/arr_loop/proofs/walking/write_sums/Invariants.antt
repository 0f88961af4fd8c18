use Rattle.arr_loop.proofs.Summed.{Summed}
use Rattle.arr_loop.proofs.walking.write_sums.Given as goal

abbrev pub invariant-loop-place : goal.invariant-loop-place
invariant-loop-place l = Summed l.ops l.prepared.numbers l.place l.fn.store l.store
