use Rattle.std.proofs.Common.{◌∙◌, ap, ap₂, sym, length}
use Rattle.std.specs.Cmp.Lexicographic.{pointwise}
use Rattle.std.specs.Ordering.{int_eq}
use Rattle.arr_view.specs.Views.{same_lists}
use Rattle.arr_view.proofs.Checks.{same_rank}
use Rattle.arr_shift.specs.Shifts.{rises}
use Rattle.arr_shift.proofs.Shifting.{shift_from}
use Rattle.arr_shift.proofs.shifts.is_shift.Goals as goal

pub rises-requires-clause-same_rank : goal.rises-requires-clause-same_rank
rises-requires-clause-same_rank c = ap length c.strides-3.ensures.value ∙ same_rank c.args.out.now c.shape-3.ensures.lawful ∙ sym (ap length c.shape-3.ensures.value)

pub returns : goal.returns
returns c =
    let out = c.args.out.now in
    let input = c.args.input.now in
    c.rises.ensures ∙ ap₂ rises c.shape-3.ensures.value c.strides-3.ensures.value
    ∙ shift_from out input (sym c.base.ensures.value ∙ c.if-base.false ∙ c.base-2.ensures.value)
    (sym (ap₂ same_lists c.shape.ensures.value c.shape-2.ensures.value) ∙ sym c.same_lengths.ensures ∙ c.if-not-same_lengths.false)
    (sym (ap₂ (pointwise int_eq) c.strides.ensures.value c.strides-2.ensures.value) ∙ sym c.same_strides.ensures ∙ c.if-not-same_strides.false)
