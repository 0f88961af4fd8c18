use Rattle.std.proofs.Common.{◌∙◌, ◌++◌, ◌∷◌, [], List, map, ap, ap₂, sym, subst}
use Rattle.std.specs.List.{All}
use Rattle.std.proofs.lemmas.List.Elements.{All-append, All-cons, All-nil}
use Rattle.arr_heur.proofs.Stretches.{items_end}
use Rattle.arr_greedy.specs.declared.merging.Block.{Block}
use Rattle.arr_greedy.proofs.GreedyBlocks.{one_more_single}
use Rattle.arr_greedy.specs.Standing.{IsPrinted}
use Rattle.arr_greedy.proofs.Printed.{numbers_in}
use Rattle.arr_greedy.proofs.plan.single_blocks.Goals as goal

pub loop-place-preserved : goal.loop-place-preserved
loop-place-preserved c =
    let block : Block = c.in_ok-one_block.field-0 in
    record {
      rows = ap (map numbers_in) c.in_ok-push-2.ensures.items ∙ items_end numbers_in c.loop-place.blocks.items block
          ∙ ap₂ (λ rs r. rs ++ r ∷ []) c.loop-place.invariant.rows c.in_ok-one_block.ensures.numbers
          ∙ ap (λ rs. [] ∷ rs) (sym (one_more_single c.loop-place.place));
      printed = subst (λ (bs : List Block). All (IsPrinted c.args.costs.now) bs) (sym c.in_ok-push-2.ensures.items)
          (All-append (IsPrinted c.args.costs.now) c.loop-place.blocks.items (block ∷ []) c.loop-place.invariant.printed (All-cons (IsPrinted c.args.costs.now) block [] c.in_ok-one_block.ensures.print (All-nil (IsPrinted c.args.costs.now))));
    }
