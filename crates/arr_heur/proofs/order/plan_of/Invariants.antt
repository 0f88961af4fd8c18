use Rattle.std.proofs.Common.{◌≡◌, take}
use Rattle.arr_heur.specs.Partitions.{blocks_at, lists_of}
use Rattle.arr_heur.proofs.order.plan_of.Given as goal

abbrev pub invariant-loop-place : goal.invariant-loop-place
invariant-loop-place l = lists_of l.copies.items ≡ blocks_at l.blocks (take l.place-index l.places)
