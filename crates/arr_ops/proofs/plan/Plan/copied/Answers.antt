use Rattle.std.proofs.Common.{map, ap, sym, ◌∙◌}
use Rattle.std.specs.List.{list_all}
use Rattle.std.proofs.lemmas.List.{take_all}
use Rattle.std.proofs.lemmas.List.Folds.{list_all-map}
use Rattle.arr_ops.specs.Plans.{ascends}
use Rattle.arr_ops.proofs.plan.Plan.copied.Goals as goal

pub invariant_of-result : goal.invariant_of-result
invariant_of-result c =
    let same = c.loop-block.invariant ∙ ap (map (λ b. b.items)) (take_all c.loop-block.block-index c.deref-block-items.result.now c.loop-block-test.false ∙ c.deref-block-items.ensures.value) in
    sym (list_all-map ascends (λ b. b.items) c.loop-block.blocks.items) ∙ ap (list_all ascends) same ∙ list_all-map ascends (λ b. b.items) c.self.inside.blocks.items ∙ c.self.invariant
