use Rattle.std.proofs.Common.{◌∙◌, Vec, Global, ℕ, List, length, map, ap, sym}
use Rattle.std.specs.List.{list_all}
use Rattle.std.proofs.lemmas.List.{take_all}
use Rattle.std.proofs.lemmas.List.Folds.{list_all-map}
use Rattle.arr_ops.specs.Plans.{ascends}
use Rattle.arr_heur.specs.Partitions.{block_in}
use Rattle.arr_heur.proofs.OrderedBlocks.{all_ascend}
use Rattle.arr_heur.proofs.order.plan_of.Goals as goal

abbrev pub numbers_in : Vec ℕ Global → List ℕ
numbers_in b = b.items

pub invariant_of-result : goal.invariant_of-result
invariant_of-result c =
    let blocks : List (List ℕ) = map numbers_in c.args.blocks.now in
    sym (list_all-map ascends numbers_in c.loop-place.copies.items)
    ∙ ap (list_all ascends) (c.loop-place.invariant ∙ ap (map (block_in blocks)) (take_all c.loop-place.place-index c.args.places.now c.loop-place-test.false))
    ∙ all_ascend blocks (length c.args.blocks.now) c.args.places.now c.requires.places_in c.requires.ascending
