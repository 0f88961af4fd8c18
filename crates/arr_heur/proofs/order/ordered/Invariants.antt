use Rattle.std.proofs.Common.{◌≡◌, ◌<◌, ◌-◌, length}
use Rattle.std.specs.List.{All}
use Rattle.arr_ops.specs.Order.{ordered, ordered_within}
use Rattle.arr_ops.specs.Plans.{numbered}
use Rattle.arr_heur.specs.Partitions.{blocks_at, lists_of}
use Rattle.arr_heur.proofs.OrderedBlocks.{placed_then}
use Rattle.arr_heur.proofs.order.ordered.Given as goal

abbrev pub invariant-loop-turn : goal.invariant-loop-turn
invariant-loop-turn l = record {
  left_in : All (λ k. k < length l.blocks) l.left.items;
  placed_in : All (λ k. k < length l.blocks) l.placed.items;
  same : placed_then (blocks_at l.blocks l.placed.items) (ordered_within (length l.blocks - l.turn) (numbered l.graph) (blocks_at l.blocks l.left.items)) ≡ ordered l.graph (lists_of l.blocks);
}
