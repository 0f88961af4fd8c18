use Rattle.arr_ops.specs.Ops.{makes_base}
use Rattle.arr_bound.proofs.Tables.{NoneBefore}
use Rattle.arr_bound.proofs.classes.creator_of.Given as goal

abbrev pub invariant-loop-place : goal.invariant-loop-place
invariant-loop-place l = NoneBefore (λ op. makes_base op l.base) l.ops l.place
