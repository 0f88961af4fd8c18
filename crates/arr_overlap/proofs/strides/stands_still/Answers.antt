use Rattle.std.proofs.Common.{◌≡◌, ◌<◌, ℤ, length, get_or, pos, to_z, w32, rules, subst, sym, ◌∙◌, ap, arith}
use Rattle.std.proofs.lemmas.Int.{to_z-of_z}
use mir.Val.{SFits}
use Rattle.arr_view.specs.Strided.{Strided}
use Rattle.arr_view.proofs.Checks.{same_rank}
use Rattle.arr_overlap.proofs.Steps.{still_repeats}
use Rattle.arr_overlap.proofs.strides.stands_still.Goals as goal

pub bounds-strides-axis : goal.bounds-strides-axis
bounds-strides-axis c =
    let v : Strided = c.args.view.now in
    let same : length v.strides ≡ length v.lengths = same_rank v c.strides-strides.ensures.lawful in
    let a : length c.shape-length-items.result.now ≡ length v.lengths = ap length c.shape-length-items.ensures.value in
    let b : length c.strides-strides.result.now ≡ length v.strides = ap length c.strides-strides.ensures.value in
    omega arith

pub returns-then-strides-axis-eq0 : goal.returns-then-strides-axis-eq0
returns-then-strides-axis-eq0 c told =
    let v : Strided = c.args.view.now in
    let s : ℤ = get_or c.strides-strides.result.now c.loop-axis.axis (pos 0) in
    let fits : SFits w32 s = search rules in
    let below : c.loop-axis.axis < length v.lengths = subst (λ xs. c.loop-axis.axis < length xs) c.shape-length-items.ensures.value c.loop-axis-test.true in
    let long : 1 < get_or v.lengths c.loop-axis.axis 0 = subst (λ xs. 1 < get_or xs c.loop-axis.axis 0) c.shape-length-items.ensures.value c.if-length-gt1.true in
    let none : s ≡ pos 0 = sym (to_z-of_z w32 s fits) ∙ ap (to_z w32) c.if-strides-axis-eq0.true in
    let still : get_or v.strides c.loop-axis.axis (pos 0) ≡ pos 0 = sym (ap (λ xs. get_or xs c.loop-axis.axis (pos 0)) c.strides-strides.ensures.value) ∙ none in
    still_repeats v c.loop-axis.axis c.strides-strides.ensures.lawful below long still
