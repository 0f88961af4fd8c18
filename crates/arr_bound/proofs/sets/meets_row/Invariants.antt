use Rattle.std.proofs.Common.{length}
use Rattle.arr_bound.proofs.Words.{Missed}
use Rattle.arr_bound.proofs.sets.meets_row.Given as goal

abbrev pub invariant-loop-index : goal.invariant-loop-index
invariant-loop-index l = Missed l.set l.rows (length l.set) l.f l.index
