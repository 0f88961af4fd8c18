use Rattle.std.proofs.Common.{◌≡◌, ◌∙◌, pos, arith, ap, FitsSigned}
use Rattle.std.specs.Prelude.{unsigned_abs}
use Rattle.std.specs.Int.{w128}
use Rattle.std.proofs.lemmas.Int.{ints}
use Rattle.arr_num.specs.Numbers.{wrap, digits}
use Rattle.arr_num.specs.declared.code.Code.TheVariants.{Absolute, Invert, Identity}
use Rattle.arr_num.proofs.Wrapping.{digits_below}
use Rattle.arr_num.proofs.Reading.{read, answer}
use Rattle.arr_num.proofs.value.unary.Goals as goal

pub returns-in-Absolute : goal.returns-in-Absolute
returns-in-Absolute c =
    let fits : FitsSigned w128 c.wrap.result = omega arith in
    let fits_too : FitsSigned w128 c.abs.result = omega arith in
    answer c.args.code Absolute c.args.to c.args.number (pos 0) c.wrap.result _ c.in-Absolute.is fits c.wrap.ensures (ap (wrap c.args.to) (read c.abs.result fits_too ∙ c.abs.ensures.value ∙ ap (λ z. pos (unsigned_abs z)) (read c.args.number c.ranges.number)))

pub returns-in-Invert : goal.returns-in-Invert
returns-in-Invert c =
    let fits : FitsSigned w128 c.wrap-in-Invert.result = omega arith in
    let left : c.digits.result ≡ digits c.args.to c.args.number = c.digits.ensures ∙ ap (digits c.args.to) (read c.args.number c.ranges.number) in
    let below = digits_below c.args.to c.args.number in
    answer c.args.code Invert c.args.to c.args.number (pos 0) c.wrap-in-Invert.result _ c.in-Invert.is fits c.wrap-in-Invert.ensures (ap (wrap c.args.to) (omega (arith, ints, left, c.size.ensures, below)))

pub returns-in-Identity : goal.returns-in-Identity
returns-in-Identity c =
    let fits : FitsSigned w128 c.wrap-in-Identity.result = omega arith in
    answer c.args.code Identity c.args.to c.args.number (pos 0) c.wrap-in-Identity.result _ c.in-Identity.is fits c.wrap-in-Identity.ensures (ap (wrap c.args.to) (read c.args.number c.ranges.number))
