use Rattle.std.proofs.Common.{◌≡◌, ◌∷◌, [], map}
use Rattle.std.specs.List.{All, range_with_len}
use Rattle.arr_cost.specs.Footprints.{IsFootprint}
use Rattle.arr_greedy.proofs.GreedyBlocks.{single}
use Rattle.arr_greedy.proofs.plan.single_blocks.Given as goal

abbrev pub invariant-loop-place : goal.invariant-loop-place
invariant-loop-place l = record {
  rows : map (λ b. b.numbers.items) l.blocks.items ≡ [] ∷ map single (range_with_len 1 l.place);
  printed : All (λ b. IsFootprint l.costs b.numbers.items b.print) l.blocks.items;
}
