use Rattle.std.proofs.Common.{◌≡◌, take, map}
use Rattle.arr_greedy.specs.Blocks.{live}
use Rattle.arr_greedy.proofs.plan.live_rows.Given as goal

abbrev pub invariant-loop-block : goal.invariant-loop-block
invariant-loop-block l = map (λ b. b.items) l.kept.items ≡ live (map (λ b. b.numbers.items) (take l.block-index l.blocks))
