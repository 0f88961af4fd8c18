use Rattle.arr_bound.proofs.Words.{NoneBetween}
use Rattle.arr_bound.proofs.sets.first_in.Given as goal

abbrev pub invariant-loop-index : goal.invariant-loop-index
invariant-loop-index l = NoneBetween l.set l.from l.index
