use Rattle.std.proofs.Common.{◌∙◌, ap, refl, sym, subst, length}
use Rattle.arr_view.proofs.Checks.{same_rank}
use Rattle.arr_rows.specs.Rows.{HasRows}
use Rattle.arr_rows.proofs.Far.{far_seen, has_rows}
use Rattle.arr_rows.proofs.rows.Rows.of.Goals as goal

pub last_as_one-left-requires-clause-same_rank : goal.last_as_one-left-requires-clause-same_rank
last_as_one-left-requires-clause-same_rank c =
    ap length c.strides.ensures.value ∙ same_rank c.args.view.now c.shape.ensures.lawful ∙ sym (ap length c.shape.ensures.value)

pub last_as_one-outer-requires-clause-same_rank : goal.last_as_one-outer-requires-clause-same_rank
last_as_one-outer-requires-clause-same_rank c =
    ap length c.strides-2.ensures.value ∙ same_rank c.args.view.now c.shape.ensures.lawful ∙ sym (ap length c.shape-3.ensures.value)

pub invariant_of-result : goal.invariant_of-result
invariant_of-result c =
    subst (λ w. HasRows w c.last_as_one-left.result.0 c.last_as_one-outer.result.0) (sym c.copied.ensures.value)
    (has_rows c.args.view.now c.last_as_one-left.result.0 c.last_as_one-outer.result.0 c.last_as_one-left.result.1 c.last_as_one-outer.result.1 c.shape.ensures.lawful
    c.last_as_one-left.ensures.some c.last_as_one-outer.ensures.some
    (far_seen c.shape.result.now c.args.view.now.lengths c.strides.result.now c.args.view.now.strides (length c.shape-2.result.now) (length c.args.view.now.lengths) c.last_as_one-left.result.1 c.last_as_one-left.result.0
    c.shape.ensures.value c.strides.ensures.value (ap length c.shape-2.ensures.value) c.last_as_one-left.ensures.far)
    (far_seen c.shape-3.result.now c.args.view.now.lengths c.strides-2.result.now c.args.view.now.strides c.last_as_one-left.result.1 c.last_as_one-left.result.1 c.last_as_one-outer.result.1 c.last_as_one-outer.result.0
    c.shape-3.ensures.value c.strides-2.ensures.value refl c.last_as_one-outer.ensures.far))
