use Rattle.std.proofs.Common.{◌≡◌, map, take}
use Rattle.arr_ops.proofs.plan.Plan.copied.Given as goal

abbrev pub invariant-loop-block : goal.invariant-loop-block
invariant-loop-block l = map (λ b. b.items) l.blocks.items ≡ map (λ b. b.items) (take l.block-index l.block-items)
