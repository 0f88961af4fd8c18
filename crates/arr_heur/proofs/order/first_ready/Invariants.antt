use Rattle.std.proofs.Common.{◌≡◌, true, drop, length}
use Rattle.std.specs.Option.{option_map}
use Rattle.arr_ops.specs.Order.{first_block, is_ready}
use Rattle.arr_ops.specs.Plans.{numbered}
use Rattle.arr_heur.specs.Partitions.{block_in, blocks_at, first_ready, found_below, lists_of}
use Rattle.arr_heur.proofs.OrderedBlocks.{joined}
use Rattle.arr_heur.proofs.order.first_ready.Given as goal

abbrev pub invariant-loop-place : goal.invariant-loop-place
invariant-loop-place l = record {
  first : joined (option_map (block_in (lists_of l.blocks)) l.found) (first_block (is_ready (numbered l.graph) (blocks_at l.blocks l.left)) (blocks_at l.blocks (drop l.place-index l.left)))
      ≡ first_ready l.graph (blocks_at l.blocks l.left);
  below : found_below (length l.blocks) l.found ≡ true;
}
