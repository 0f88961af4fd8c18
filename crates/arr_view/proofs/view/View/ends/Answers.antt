use Rattle.std.proofs.Common.{◌≡◌, ℕ, ℤ, ◌-◌, ◌*ℤ◌, ◌≤ℤ◌, ◌<ℤ◌, ◌<◌, ◌≤◌, pos, length, get_or, to_z, of_z, w32, w64, ap, sym, ◌∙◌, subst, arith, rules, inl, inr, true}
use Rattle.std.specs.Prelude.{unsigned_abs}
use Rattle.std.proofs.lemmas.Int.{ints, to_z-of_z}
use mir.Val.{SFits}
use Rattle.arr_view.specs.Strided.{Strided}
use Rattle.arr_view.specs.Views.{is_place}
use Rattle.arr_view.proofs.Checks.{lawful, same_rank}
use Rattle.arr_view.proofs.Places.{Turned, begins_inside, place_high, reach}
use Rattle.arr_view.proofs.Ends.{Ends, ends_all, ends_are, ends_start, ends_turn}
use Rattle.arr_view.proofs.view.View.ends.Goals as goal
use Rattle.arr_view.proofs.view.View.ends.Goals.{then-stride-lt0, else-stride-lt0}

pub bounds-strides-axis : goal.bounds-strides-axis
bounds-strides-axis c =
    let v : Strided = c.args.self.now in
    let same : length v.strides ≡ length v.lengths = same_rank v c.start.ensures.lawful in
    let a : length c.shape-length-items.result.now ≡ length v.lengths = ap length c.shape-length-items.ensures.value in
    let b : length c.strides-strides.result.now ≡ length v.strides = ap length c.strides-strides.ensures.value in
    omega arith

pub loop-axis-init : goal.loop-axis-init
loop-axis-init c =
    let v : Strided = c.args.self.now in
    let first : is_place (pos v.start) ≡ true =
    begins_inside v.lengths v.strides (pos v.start) (lawful v c.start.ensures.lawful).lengths (same_rank v c.start.ensures.lawful) (lawful v c.start.ensures.lawful).inside in
    let low : pos v.start <ℤ pos 1048576 = place_high (pos v.start) first in
    let start : c.start.result ≡ v.start = c.start.ensures.value in
    let same : to_z w64 (of_z w64 c.from-least.result) ≡ pos v.start = omega (arith, ints) in
    subst (λ z. Ends v.lengths v.strides (pos v.start) 0 z z) (sym same) (ends_start v.lengths v.strides v.start (omega (arith, ints)))

pub loop-axis-preserved : goal.loop-axis-preserved
loop-axis-preserved c =
    let v : Strided = c.args.self.now in
    let lengths : c.shape-length-items.result.now ≡ v.lengths = c.shape-length-items.ensures.value in
    let strides : c.strides-strides.result.now ≡ v.strides = c.strides-strides.ensures.value in
    let n : ℕ = get_or c.shape-length-items.result.now c.loop-axis.axis 0 in
    let s : ℤ = get_or c.strides-strides.result.now c.loop-axis.axis (pos 0) in
    let low : ℤ = to_z w64 c.loop-axis.least-bits in
    let high : ℤ = to_z w64 c.loop-axis.greatest-bits in
    let fits : SFits w32 s = search rules in
    let far : c.offset-reach.result ≡ reach n s = c.offset-reach.ensures.value ∙ ap (λ y. pos (n - 1) *ℤ y) (to_z-of_z w32 s fits) in
    let turned : Turned s c.offset-reach.result low high (to_z w64 c.if-stride-lt0.least-bits) (to_z w64 c.if-stride-lt0.greatest-bits) =
    elim c.if-stride-lt0.branch [ then-stride-lt0 w ↦ inl (omega (arith, ints), omega (arith, ints), w.greatest-is) | else-stride-lt0 w ↦ inr (omega (arith, ints), w.least-is, omega (arith, ints)) ] in
    let n_is : n ≡ get_or v.lengths c.loop-axis.axis 0 = ap (λ xs. get_or xs c.loop-axis.axis 0) lengths in
    let s_is : s ≡ get_or v.strides c.loop-axis.axis (pos 0) = ap (λ xs. get_or xs c.loop-axis.axis (pos 0)) strides in
    let below : c.loop-axis.axis < length v.lengths = subst (λ xs. c.loop-axis.axis < length xs) lengths c.loop-axis-test.true in
    ends_turn v.lengths v.strides (pos v.start) c.loop-axis.axis low high c.offset-reach.result (to_z w64 c.if-stride-lt0.least-bits) (to_z w64 c.if-stride-lt0.greatest-bits)
    (same_rank v c.start.ensures.lawful) (lawful v c.start.ensures.lawful).lengths below (lawful v c.start.ensures.lawful).inside c.loop-axis.invariant
    (far ∙ ap (λ k. reach k s) n_is ∙ ap (reach (get_or v.lengths c.loop-axis.axis 0)) s_is)
    (subst (λ y. Turned y c.offset-reach.result low high (to_z w64 c.if-stride-lt0.least-bits) (to_z w64 c.if-stride-lt0.greatest-bits)) s_is turned)

pub returns : goal.returns
returns c =
    let v : Strided = c.args.self.now in
    let low : ℤ = to_z w64 c.loop-axis.least-bits in
    let high : ℤ = to_z w64 c.loop-axis.greatest-bits in
    let from : pos 0 ≤ℤ low = c.loop-axis.invariant.span.from in
    let order : low ≤ℤ high = c.loop-axis.invariant.span.order in
    let low_is : low ≡ pos (unsigned_abs low) = omega (arith, ints) in
    let high_is : high ≡ pos (unsigned_abs high) = omega (arith, ints) in
    let done : length v.lengths ≤ c.loop-axis.axis = subst (λ xs. length xs ≤ c.loop-axis.axis) c.shape-length-items.ensures.value c.loop-axis-test.false in
    let both = ends_are v c.loop-axis.axis low high (unsigned_abs low) (unsigned_abs high) done c.loop-axis.invariant low_is high_is in
    record {
      all = ends_all v c.loop-axis.axis low high (unsigned_abs low) (unsigned_abs high) c.start.ensures.lawful done c.loop-axis.invariant low_is high_is;
      least = both.0;
      greatest = both.1;
      lawful = c.start.ensures.lawful;
    }
