use Rattle.std.proofs.Common.{◌≡◌, ◌∙◌, ap, sym, subst, true}
use Rattle.arr_shape.specs.Shapes.{is_shape, dropped_axis}
use Rattle.arr_elab.proofs.Shaped.{view_shape, dropped_shape}
use Rattle.arr_elab.proofs.shape.ArrayShape.without_axis.Goals as goal

pub invariant_of-result : goal.invariant_of-result
invariant_of-result c =
    let view = c.args.view.now in
    let is : c.without_axis.result ≡ dropped_axis c.args.axis view.lengths =
    c.without_axis.ensures ∙ ap (λ axis. dropped_axis axis c.shape.result.now) c.from.ensures ∙ ap (dropped_axis c.args.axis) c.shape.ensures.value in
    subst (λ ns. is_shape ns ≡ true) (sym is) (dropped_shape c.args.axis view.lengths c.requires (view_shape view c.shape.ensures.lawful))
