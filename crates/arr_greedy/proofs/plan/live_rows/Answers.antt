use Rattle.std.proofs.Common.{◌∙◌, ◌++◌, ◌∷◌, [], cond, take, map, ap, ap₂, sym}
use Rattle.std.proofs.lemmas.List.{take_more}
use Rattle.arr_ops.specs.Plans.{not_empty}
use Rattle.arr_heur.proofs.Stretches.{items_end}
use Rattle.arr_greedy.specs.Blocks.{live}
use Rattle.arr_greedy.proofs.GreedyBlocks.{live_more}
use Rattle.arr_greedy.proofs.Printed.{numbers_in}
use Rattle.arr_greedy.proofs.plan.live_rows.Goals as goal

pub loop-block-preserved : goal.loop-block-preserved
loop-block-preserved c =
    c.in_ok-push_live.ensures
    ∙ ap₂ (λ kept r. kept ++ cond (not_empty r) (r ∷ []) []) c.loop-block.invariant c.as_slice.ensures.value
    ∙ sym (ap (λ rs. live (map numbers_in rs)) (take_more c.args.blocks.now c.loop-block.block-index c.block-item.result c.loop-block-test.true ∙ ap (λ r. take c.loop-block.block-index c.args.blocks.now ++ r ∷ []) (sym c.block-item.is))
    ∙ ap live (items_end numbers_in (take c.loop-block.block-index c.args.blocks.now) c.block-item.result)
    ∙ live_more (map numbers_in (take c.loop-block.block-index c.args.blocks.now)) c.block-item.result.numbers.items)
