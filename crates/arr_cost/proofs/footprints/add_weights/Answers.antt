use Rattle.std.proofs.Common.{◌≡◌, ◌∙◌, sym, arith, w64}
use Rattle.std.specs.Int.{trailing_zeros}
use Rattle.arr_cost.specs.Footprints.{has_bit, span}
use Rattle.arr_cost.proofs.Digits.{lowest_left, shifted, span_end, span_none, span_step}
use Rattle.arr_cost.proofs.footprints.add_weights.Goals as goal

pub loop-left-init : goal.loop-left-init
loop-left-init c =
    let none : span c.args.weights.now c.args.first 0 (has_bit c.args.word) ≡ 0 = span_none c.args.weights.now c.args.first 0 (has_bit c.args.word) (λ i l. absurd (omega arith)) in
    record { value = omega arith; small = omega arith; left = omega arith; inside = omega arith }

pub returns-clause-value : goal.returns-clause-value
returns-clause-value c =
    let so_far = c.loop-left.invariant.value in
    let end = span_end c.args.weights.now c.args.first c.args.word c.loop-left.digit c.loop-left.invariant.inside (sym c.loop-left.invariant.left ∙ c.loop-left-test.false) in
    omega arith

pub loop-left-preserved : goal.loop-left-preserved
loop-left-preserved c =
    let so_far = c.loop-left.invariant.value in
    let low = c.loop-left.invariant.small in
    let small = c.weight_of-total.ensures.small in
    let weight = c.weight_of-total.ensures.value in
    let z = lowest_left c.args.word c.loop-left.digit c.loop-left.left c.ranges.word.fits c.loop-left.invariant.left (omega (arith, c.loop-left-test.true)) in
    let below = z.0 in
    let next = span_step c.args.weights.now c.args.first c.args.word c.loop-left.digit c.loop-left.left c.ranges.word.fits c.loop-left.invariant.left (omega (arith, c.loop-left-test.true)) in
    record { value = omega arith; small = omega arith; left = shifted c.args.word c.loop-left.digit c.loop-left.left (trailing_zeros w64 c.loop-left.left) c.loop-left.invariant.left; inside = omega arith }

pub loop-left-smaller : goal.loop-left-smaller
loop-left-smaller c =
    let z = lowest_left c.args.word c.loop-left.digit c.loop-left.left c.ranges.word.fits c.loop-left.invariant.left (omega (arith, c.loop-left-test.true)) in
    let below = z.0 in
    omega arith
