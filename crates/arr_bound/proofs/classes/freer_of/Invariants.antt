use Rattle.arr_view.specs.Views.{has}
use Rattle.arr_ops.specs.Ops.{freed}
use Rattle.arr_bound.proofs.Tables.{NoneBefore}
use Rattle.arr_bound.proofs.classes.freer_of.Given as goal

abbrev pub invariant-loop-place : goal.invariant-loop-place
invariant-loop-place l = NoneBefore (λ op. has (freed op) l.base) l.ops l.place
