use Rattle.std.proofs.Common.{◌≡◌, pos, ◌∙◌, arith, to_z, of_z, ap, ap₂, ◌-ℤ◌}
use Rattle.std.specs.Int.{w128}
use Rattle.std.proofs.lemmas.Int.{to_z-of_z, ints}
use Rattle.arr_num.specs.Numbers.{digits, size, wrap}
use Rattle.arr_num.proofs.elem.Elem.wrap.Goals as goal
use Rattle.arr_num.proofs.Wrapping.{wrap_low, wrap_high, in_type_wrap, fits_of_type}

pub returns-then-digits-greatest : goal.returns-then-digits-greatest
returns-then-digits-greatest c =
    let read : to_z w128 c.digits-digits.result ≡ pos c.digits-digits.result = omega (arith, ints) in
    let number : to_z w128 c.digits-digits.result ≡ pos (digits c.args.self c.args.value) = read ∙ ap pos (c.digits-digits.ensures ∙ ap (digits c.args.self) (to_z-of_z w128 c.args.value c.ranges.value)) in
    number ∙ wrap_low c.args.self c.args.value (omega (arith, ints, c.greatest.ensures))

pub returns-else-digits-greatest : goal.returns-else-digits-greatest
returns-else-digits-greatest c =
    let read : to_z w128 c.digits-digits.result ≡ pos c.digits-digits.result = omega (arith, ints) in
    let number : to_z w128 c.digits-digits.result ≡ pos (digits c.args.self c.args.value) = read ∙ ap pos (c.digits-digits.ensures ∙ ap (digits c.args.self) (to_z-of_z w128 c.args.value c.ranges.value)) in
    let whole : to_z w128 (of_z w128 c.size.result) ≡ pos (size c.args.self) = omega (arith, ints, c.size.ensures) in
    ap (λ z. to_z w128 (of_z w128 z)) (ap₂ (λ y z. y -ℤ z) number whole ∙ wrap_high c.args.self c.args.value (omega (arith, ints, c.greatest.ensures)))
    ∙ to_z-of_z w128 (wrap c.args.self c.args.value) (fits_of_type c.args.self (wrap c.args.self c.args.value) (in_type_wrap c.args.self c.args.value))
