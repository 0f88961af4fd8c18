use Rattle.std.proofs.Common.{◌≡◌, ℤ, pos, get_or, w32, ap, ◌∙◌, subst, rules}
use Rattle.std.specs.Prelude.{unsigned_abs}
use Rattle.std.specs.Int.{IsGcd}
use Rattle.std.proofs.lemmas.Int.{to_z-of_z}
use mir.Val.{SFits}
use Rattle.arr_overlap.proofs.Spacing.{divisor_end, divisor_start, divisor_turn}
use Rattle.arr_overlap.proofs.filters.spacing.Goals as goal

pub loop-stride-init : goal.loop-stride-init
loop-stride-init c = divisor_start c.args.number c.args.strides.now

pub loop-stride-preserved : goal.loop-stride-preserved
loop-stride-preserved c =
    let s : ℤ = get_or c.args.strides.now c.loop-stride.stride-index (pos 0) in
    let fits : SFits w32 s = search rules in
    let size : c.unsigned_abs.result ≡ unsigned_abs s = c.unsigned_abs.ensures.value ∙ ap unsigned_abs (to_z-of_z w32 s fits) in
    divisor_turn c.args.number c.args.strides.now c.loop-stride.stride-index c.loop-stride.divisor c.common_divisor-divisor.result c.loop-stride-test.true c.loop-stride.invariant
    (subst (λ n. IsGcd c.loop-stride.divisor n c.common_divisor-divisor.result) size c.common_divisor-divisor.ensures)

pub returns-clause-number : goal.returns-clause-number
returns-clause-number c = (divisor_end c.args.number c.args.strides.now c.loop-stride.stride-index c.loop-stride.divisor c.loop-stride-test.false c.loop-stride.invariant).0

pub returns-clause-strides : goal.returns-clause-strides
returns-clause-strides c = (divisor_end c.args.number c.args.strides.now c.loop-stride.stride-index c.loop-stride.divisor c.loop-stride-test.false c.loop-stride.invariant).1

pub returns-clause-greatest : goal.returns-clause-greatest
returns-clause-greatest c d a b = (c.loop-stride.invariant.greatest d a b).0
