use Rattle.std.proofs.Common.{◌∙◌, ap, ap₂, refl}
use Rattle.std.specs.Cmp.Lexicographic.{pointwise}
use Rattle.std.specs.Ordering.{int_eq}
use Rattle.arr_view.specs.Views.{whole_strides}
use Rattle.arr_view.proofs.Gapless.{strides_decide}
use Rattle.arr_view.proofs.view.View.is_gapless.Goals as goal

pub returns-clause-value : goal.returns-clause-value
returns-clause-value c =
    c.eq.ensures
    ∙ ap₂ (pointwise int_eq) c.strides.ensures.value refl
    ∙ strides_decide c.args.self.now c.as_slice.result.now c.shape.ensures.lawful (c.as_slice.ensures.value ∙ c.gapless_strides-strides.ensures ∙ ap whole_strides c.shape.ensures.value)
