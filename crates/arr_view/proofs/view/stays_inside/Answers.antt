use Rattle.std.proofs.Common.{ℕ, ◌-◌, ◌*ℤ◌, ap, ◌∙◌, arith, inl, inr, ◌≡◌, pos, get_or, to_z, w64, w32, rules, ℤ}
use Rattle.std.proofs.lemmas.Int.{ints, to_z-of_z}
use mir.Val.{SFits}
use Rattle.arr_view.proofs.Places.{starts_high, span_turns, span_fails, Turned, reach}
use Rattle.arr_view.proofs.view.stays_inside.Goals as goal
use Rattle.arr_view.proofs.view.stays_inside.Goals.{then-stride-lt0, else-stride-lt0, then-least-lt0-via-then-least-lt0, then-least-lt0-via-else-least-lt0+then-greatest-from}

pub returns-then-start-ge-MOST_ELEMENTS : goal.returns-then-start-ge-MOST_ELEMENTS
returns-then-start-ge-MOST_ELEMENTS c = starts_high c.args.lengths.now c.args.strides.now c.args.start c.requires.same_rank c.requires.lengths c.if-start-ge-MOST_ELEMENTS.true

pub returns-then-least-lt0 : goal.returns-then-least-lt0
returns-then-least-lt0 c =
    let n : ℕ = get_or c.args.lengths.now c.loop-axis.axis 0 in
    let s : ℤ = get_or c.args.strides.now c.loop-axis.axis (pos 0) in
    let low : ℤ = to_z w64 c.loop-axis.least-bits in
    let high : ℤ = to_z w64 c.loop-axis.greatest-bits in
    let fits : SFits w32 s = search rules in
    let far : c.offset-reach.result ≡ reach n s = c.offset-reach.ensures.value ∙ ap (λ y. pos (n - 1) *ℤ y) (to_z-of_z w32 s fits) in
    let turned : Turned s c.offset-reach.result low high (to_z w64 c.if-stride-lt0.least-bits) (to_z w64 c.if-stride-lt0.greatest-bits) =
    elim c.if-stride-lt0.branch [ then-stride-lt0 w ↦ inl (omega (arith, ints), omega (arith, ints), w.greatest-is) | else-stride-lt0 w ↦ inr (omega (arith, ints), w.least-is, omega (arith, ints)) ] in
    span_fails c.args.lengths.now c.args.strides.now (pos c.args.start) c.loop-axis.axis low high c.offset-reach.result (to_z w64 c.if-stride-lt0.least-bits) (to_z w64 c.if-stride-lt0.greatest-bits)
    c.requires.same_rank c.requires.lengths c.loop-axis-test.true c.loop-axis.invariant far turned
    (elim c.then-least-lt0.branch [ then-least-lt0-via-then-least-lt0 w ↦ inl (omega (arith, ints)) | then-least-lt0-via-else-least-lt0+then-greatest-from w ↦ inr (omega (arith, ints)) ])

pub loop-axis-preserved : goal.loop-axis-preserved
loop-axis-preserved c =
    let n : ℕ = get_or c.args.lengths.now c.loop-axis.axis 0 in
    let s : ℤ = get_or c.args.strides.now c.loop-axis.axis (pos 0) in
    let low : ℤ = to_z w64 c.loop-axis.least-bits in
    let high : ℤ = to_z w64 c.loop-axis.greatest-bits in
    let fits : SFits w32 s = search rules in
    let far : c.offset-reach.result ≡ reach n s = c.offset-reach.ensures.value ∙ ap (λ y. pos (n - 1) *ℤ y) (to_z-of_z w32 s fits) in
    let turned : Turned s c.offset-reach.result low high (to_z w64 c.if-stride-lt0.least-bits) (to_z w64 c.if-stride-lt0.greatest-bits) =
    elim c.if-stride-lt0.branch [ then-stride-lt0 w ↦ inl (omega (arith, ints), omega (arith, ints), w.greatest-is) | else-stride-lt0 w ↦ inr (omega (arith, ints), w.least-is, omega (arith, ints)) ] in
    span_turns c.args.lengths.now c.args.strides.now (pos c.args.start) c.loop-axis.axis low high c.offset-reach.result (to_z w64 c.if-stride-lt0.least-bits) (to_z w64 c.if-stride-lt0.greatest-bits)
    c.requires.same_rank c.requires.lengths c.loop-axis-test.true c.loop-axis.invariant far turned (omega (arith, ints)) (omega (arith, ints))
