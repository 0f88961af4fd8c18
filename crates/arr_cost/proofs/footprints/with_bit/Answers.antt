use Rattle.std.proofs.Common.{◌≡◌, ◌∙◌, ◌||◌, ◌&&◌, Bool, true, false, ap, sym, refl}
use Rattle.std.specs.Prelude.{◌==◌}
use Rattle.arr_cost.specs.Footprints.{has_bit}
use Rattle.arr_cost.proofs.Digits.{more_bit}
use Rattle.arr_cost.proofs.footprints.with_bit.Goals as goal

pub returns-then-set : goal.returns-then-set
returns-then-set c = λ i l. more_bit c.args.word c.args.digit i c.requires l ∙ sym (ap (λ b. has_bit c.args.word i || (b && (c.args.digit == i))) c.if-set.true)

pub returns : goal.returns
returns c = λ i l. sym (ap (λ b. has_bit c.args.word i || (b && (c.args.digit == i))) c.if-set.false ∙ none (has_bit c.args.word i))
  where
    none : (b : Bool) → (b || false) ≡ b
    none true = refl
    none false = refl
