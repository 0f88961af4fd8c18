use Rattle.std.proofs.Common.{map}
use Rattle.arr_heur.proofs.Stretches.{Made}
use Rattle.arr_heur.proofs.plans.linear.Given as goal

abbrev pub invariant-loop-place : goal.invariant-loop-place
invariant-loop-place l = Made l.graph l.start l.place (map (λ b. b.items) l.blocks.items)
