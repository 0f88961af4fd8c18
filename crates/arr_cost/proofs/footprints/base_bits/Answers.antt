use Rattle.std.proofs.Common.{◌∙◌, ◌+◌, ◌||◌, ◌&&◌, ap₂}
use Rattle.std.specs.Prelude.{◌==◌}
use Rattle.arr_cost.specs.Footprints.{base_bit}
use Rattle.arr_cost.proofs.Prints.{next_below}
use Rattle.arr_cost.proofs.footprints.base_bits.Goals as goal

pub loop-digit-preserved : goal.loop-digit-preserved
loop-digit-preserved c = λ i l.
    c.with_bit-word.ensures i l
    ∙ ap₂ (λ a b. a || (b && (c.loop-digit.digit == i))) (c.loop-digit.invariant i l) c.is_based.ensures
    ∙ next_below (λ k. base_bit c.args.bases.now c.args.base (c.args.first + k)) c.loop-digit.digit i
