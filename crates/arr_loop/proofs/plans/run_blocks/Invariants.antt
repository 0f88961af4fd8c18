use Rattle.std.proofs.Common.{drop, map}
use Rattle.arr_loop.proofs.Planned.{Going}
use Rattle.arr_loop.proofs.plans.run_blocks.Given as goal

abbrev pub invariant-loop-block : goal.invariant-loop-block
invariant-loop-block l = Going l.ops l.fn.store l.store l.fn.slots l.slots (map (λ b. b.items) l.blocks) (map (λ b. b.items) (drop l.block-index l.blocks))
