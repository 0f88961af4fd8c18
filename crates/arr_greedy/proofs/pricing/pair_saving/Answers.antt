use Rattle.std.proofs.Common.{◌≡◌, ◌<◌, ◌∙◌, ℕ, List, length, map, get_or, ap₂, sym, arith}
use Rattle.std.proofs.lemmas.List.{length-map}
use Rattle.arr_ops.specs.declared.op.Op.{Op}
use Rattle.arr_heur.specs.Planners.{saving}
use Rattle.arr_greedy.specs.declared.merging.Block.{Block}
use Rattle.arr_greedy.proofs.KeyedBlocks.{block_live, saving_is}
use Rattle.arr_greedy.proofs.Printed.{numbers_in, row_is}
use Rattle.arr_greedy.proofs.pricing.pair_saving.Goals as goal

pub returns : goal.returns
returns c =
    let rows : List (List ℕ) = map numbers_in c.args.blocks.now in
    let long : length rows ≡ length c.args.blocks.now = length-map c.args.blocks.now numbers_in in
    let left : c.args.left < length c.args.blocks.now = c.requires.left_in in
    let right : c.args.right < length c.args.blocks.now = c.requires.right_in in
    let left_in : c.args.left < length rows = omega arith in
    let right_in : c.args.right < length rows = omega arith in
    let list : List Op = c.args.costs.now in
    let a : Block = get_or c.args.blocks.now c.args.left c.index-blocks-left.result in
    let b : Block = get_or c.args.blocks.now c.args.right c.index-blocks-right.result in
    saving_is list a.numbers.items b.numbers.items c.joint_saving.result
    (c.joint_saving.ensures a.numbers.items b.numbers.items (c.requires.printed c.args.left c.index-blocks-left.result left) (c.requires.printed c.args.right c.index-blocks-right.result right))
    ∙ ap₂ (λ x y. saving list (x, y))
    (sym (row_is c.args.blocks.now c.args.left c.index-blocks-left.result left) ∙ sym (block_live rows c.args.left c.requires.keyed left_in))
    (sym (row_is c.args.blocks.now c.args.right c.index-blocks-right.result right) ∙ sym (block_live rows c.args.right c.requires.keyed right_in))
