use Rattle.std.proofs.Common.{◌≡◌, ◌∙◌, ap, sym}
use Rattle.std.specs.Prelude.{Ok}
use Rattle.arr_shape.specs.Shapes.{broadcast}
use Rattle.arr_elab.proofs.Shaped.{view_shape, broadcast_shape}
use Rattle.arr_elab.proofs.shape.ArrayShape.of_both.Goals as goal

pub invariant_of-result : goal.invariant_of-result
invariant_of-result c =
    let left = c.args.left.now in
    let right = c.args.right.now in
    let is : Ok c.in_ok-lengths.lengths ≡ broadcast left.lengths right.lengths =
    c.in_ok-lengths.ensures ∙ ap (λ x. broadcast x c.shape-2.result.now) c.shape.ensures.value ∙ ap (λ y. broadcast left.lengths y) c.shape-2.ensures.value in
    broadcast_shape left.lengths right.lengths c.in_ok-lengths.lengths (view_shape left c.shape.ensures.lawful) (view_shape right c.shape-2.ensures.lawful) (sym is)
