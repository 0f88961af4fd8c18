use Rattle.std.proofs.Common.{◌∙◌, Vec, Global, ℕ, List, map}
use Rattle.arr_heur.proofs.OrderedBlocks.{found_more}
use Rattle.arr_heur.proofs.order.first_ready.Goals as goal

abbrev pub numbers_in : Vec ℕ Global → List ℕ
numbers_in b = b.items

pub loop-place-preserved : goal.loop-place-preserved
loop-place-preserved c =
    record {
      first = found_more c.args.graph.now (map numbers_in c.args.blocks.now) c.args.left.now c.loop-place.found c.earlier_ready-found.result c.loop-place.place-index c.loop-place-test.true c.earlier_ready-found.ensures.earlier
          ∙ c.loop-place.invariant.first;
      below = c.earlier_ready-found.ensures.below;
    }
