use Rattle.std.proofs.Common.{◌∙◌, ◌≤◌, length, ap, sym, subst}
use Rattle.arr_check.specs.Classed.{overlaps_of}
use Rattle.arr_check.proofs.Numbered.{views_few}
use Rattle.arr_check.proofs.classes.Classes.of.Goals as goal

pub invariant_of-result : goal.invariant_of-result
invariant_of-result c = (subst (λ vs. length vs ≤ 768) (sym c.in_ok-views.ensures) (views_few c.args.ops.now c.requires), c.in_ok-meets.ensures ∙ ap overlaps_of c.deref.ensures.value)
