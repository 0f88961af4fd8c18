use Rattle.std.proofs.Common.{◌≡◌, ◌<◌, ℤ, pos, length, get_or, w32, ap, sym, ◌∙◌, subst, arith, rules}
use Rattle.std.proofs.lemmas.Int.{ints}
use mir.Val.{SFits}
use Rattle.arr_view.specs.Strided.{Strided}
use Rattle.arr_view.proofs.Checks.{same_rank}
use Rattle.arr_overlap.proofs.meeting.marked.Goals as goal

pub marked_in_runs-requires-clause-axis : goal.marked_in_runs-requires-clause-axis
marked_in_runs-requires-clause-axis c =
    let v : Strided = c.args.view.now in
    let same : length v.strides ≡ length v.lengths = same_rank v c.strides-stride-items.ensures.lawful in
    let below : c.loop-axis.axis < length v.strides = subst (λ xs. c.loop-axis.axis < length xs) c.strides-stride-items.ensures.value c.loop-axis-test.true in
    omega arith

pub marked_in_runs-requires-clause-stride : goal.marked_in_runs-requires-clause-stride
marked_in_runs-requires-clause-stride c =
    let s : ℤ = get_or c.strides-stride-items.result.now c.loop-axis.axis (pos 0) in
    let fits : SFits w32 s = search rules in
    let one : s ≡ pos 1 = omega (arith, ints) in
    sym (ap (λ ss. get_or ss c.loop-axis.axis (pos 0)) c.strides-stride-items.ensures.value) ∙ one
