use Rattle.std.proofs.Common.{◌≡◌, map, take}
use Rattle.arr_ops.specs.Costs.{block_cost}
use Rattle.arr_run.proofs.planning.costs_of.Given as goal

abbrev pub invariant-loop-block : goal.invariant-loop-block
invariant-loop-block l = l.all.items ≡ map (λ b. block_cost l.costs b.items) (take l.block-index l.block-items)
