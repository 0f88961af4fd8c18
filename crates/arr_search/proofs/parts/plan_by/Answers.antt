use Rattle.std.proofs.Common.{◌≡◌, ◌∙◌, ◌<◌, ◌≤◌, Vec, Global, ℕ, List, length, map, ap, sym, subst, arith}
use Rattle.std.specs.List.{All}
use Rattle.std.proofs.lemmas.List.{length-map}
use Rattle.arr_ops.specs.Plans.{ascends}
use Rattle.arr_heur.specs.Partitions.{block_in}
use Rattle.arr_search.specs.Parts.{parts}
use Rattle.arr_search.proofs.Partitions.{parts_ascend, parts_inside}
use Rattle.arr_search.proofs.parts.plan_by.Goals as goal

abbrev pub numbers_in : Vec ℕ Global → List ℕ
numbers_in b = b.items

pub parts-requires : goal.parts-requires
parts-requires c = omega (arith, c.requires, c.is_together.ensures.few)

pub ordered-requires-clause-inside : goal.ordered-requires-clause-inside
ordered-requires-clause-inside c k l =
    let same : map numbers_in c.as_slice.result.now ≡ parts c.args.labels.now = ap (map numbers_in) c.as_slice.ensures.value ∙ c.in_ok-blocks.ensures in
    let long : length c.as_slice.result.now ≡ length (parts c.args.labels.now) = sym (length-map c.as_slice.result.now numbers_in) ∙ ap length same in
    subst (λ bs. All (λ i. (0 < i) × (i ≤ length c.args.graph.now)) (block_in bs k)) (sym same) (parts_inside c.args.labels.now (length c.args.graph.now) k c.requires (omega arith))

pub ordered-requires-clause-ascending : goal.ordered-requires-clause-ascending
ordered-requires-clause-ascending c k l =
    let same : map numbers_in c.as_slice.result.now ≡ parts c.args.labels.now = ap (map numbers_in) c.as_slice.ensures.value ∙ c.in_ok-blocks.ensures in
    let long : length c.as_slice.result.now ≡ length (parts c.args.labels.now) = sym (length-map c.as_slice.result.now numbers_in) ∙ ap length same in
    ap (λ bs. ascends (block_in bs k)) same ∙ parts_ascend c.args.labels.now k (omega arith)
