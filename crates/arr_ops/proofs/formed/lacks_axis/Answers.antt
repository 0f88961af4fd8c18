use Rattle.std.proofs.Common.{drop, ◌+◌, ap, ap₂, sym, ◌∙◌, ◌&&◌}
use Rattle.std.proofs.lemmas.List.{take_rest}
use Rattle.arr_view.specs.Views.{same_lists}
use Rattle.arr_ops.proofs.Parts.{lacks, lacks_not}
use Rattle.arr_ops.proofs.formed.lacks_axis.Goals as goal

pub returns-then-shape-whole : goal.returns-then-shape-whole
returns-then-shape-whole c = lacks_not c.args.shape.now c.args.whole.now c.args.axis c.if-shape-whole.true c.requires c.if-whole-eq1.false

pub returns-then-same_lists : goal.returns-then-same_lists
returns-then-same_lists c =
    c.same_lists-then-same_lists.ensures ∙ ap₂ same_lists (take_rest c.args.shape.now c.args.axis) (take_rest c.args.whole.now (c.args.axis + 1))
    ∙ ap (λ b. b && same_lists (drop c.args.axis c.args.shape.now) (drop (c.args.axis + 1) c.args.whole.now)) (sym c.if-same_lists.true ∙ c.same_lists-2.ensures)
    ∙ sym (lacks c.args.shape.now c.args.whole.now c.args.axis c.if-shape-whole.false c.requires c.if-whole-eq1.false)

pub returns-else-same_lists : goal.returns-else-same_lists
returns-else-same_lists c =
    c.if-same_lists.false
    ∙ ap (λ b. b && same_lists (drop c.args.axis c.args.shape.now) (drop (c.args.axis + 1) c.args.whole.now)) (sym c.if-same_lists.false ∙ c.same_lists-2.ensures)
    ∙ sym (lacks c.args.shape.now c.args.whole.now c.args.axis c.if-shape-whole.false c.requires c.if-whole-eq1.false)
