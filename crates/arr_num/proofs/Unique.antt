-- The wrapped number is the one of its type that differs from the number by a multiple of the size.
use Rattle.std.proofs.Common.{◌≡◌, ℕ, ◌+◌, ◌-◌, ◌*◌, ◌/◌, ◌%◌, ◌<◌, suc, ℤ, pos, negsuc, true, false, cond, ap, sym, ◌∙◌, arith, ◌+ℤ◌}
use Rattle.std.proofs.lemmas.Int.{ints}
use Rattle.std.proofs.Math.Nat.{add-mul-mod_self_right, div-add-mod}
use Rattle.std.specs.Prelude.{nat_lt}
use Rattle.arr_num.specs.Numbers.{size, upper, digits, wrap}
use Rattle.arr_num.specs.Laws.{IsCongruent, WrapsInto, WrapsToOne}
use Rattle.arr_num.specs.declared.elem.Elem.{Elem}
use Rattle.arr_num.proofs.Wrapping.{size_more, digits_below, in_type_wrap, wrap_same, wrap_by_digits}
use Rattle.arr_num.proofs.Products.{Lift, lift, digits_lift}

at_low : (s : ℕ) (z : ℤ) (l : Lift s z) (d : ℕ) → d ≡ l.over % s → IsCongruent s z (pos d)
at_low s z l d e =
    let whole : s * (l.over / s) + d ≡ l.over = ap (λ k. s * (l.over / s) + k) e ∙ div-add-mod l.over s in
    record { more = l.times; less = l.over / s; same = omega (arith, ints, l.lifted) }

at_high : (s : ℕ) (z : ℤ) (l : Lift s z) (d : ℕ) → d ≡ l.over % s → d < s → IsCongruent s z (negsuc (s - suc d))
at_high s z l d e h =
    let whole : s * (l.over / s) + d ≡ l.over = ap (λ k. s * (l.over / s) + k) e ∙ div-add-mod l.over s in
    record { more = l.times; less = l.over / s + 1; same = omega (arith, ints, l.lifted) }

congruent_wrap : (t : Elem) (z : ℤ) → IsCongruent (size t) z (wrap t z)
unfolding wrap
congruent_wrap t z =
    let l : Lift (size t) z = lift (size t) z (size_more t) in
    elim (nat_lt (digits t z) (upper t)) as (λ b. IsCongruent (size t) z (cond b (pos (digits t z)) (negsuc (size t - suc (digits t z))))) [
      | true ↦ at_low (size t) z l (digits t z) (digits_lift t z l)
      | false ↦ at_high (size t) z l (digits t z) (digits_lift t z l) (digits_below t z)
    ]

pub wraps_into : WrapsInto
wraps_into t z = record { inside = in_type_wrap t z; congruent = congruent_wrap t z }

other_lift : (s : ℕ) (z w : ℤ) (c : IsCongruent s z w) (l : Lift s z) → w +ℤ pos ((c.less + l.times) * s) ≡ pos (l.over + c.more * s)
other_lift s z w c l = omega (arith, ints, l.lifted, c.same)

pub wraps_to_one : WrapsToOne
wraps_to_one t z w is =
    let c : IsCongruent (size t) z w = is.congruent in
    let l : Lift (size t) z = lift (size t) z (size_more t) in
    sym (wrap_same t w is.inside)
    ∙ wrap_by_digits t w z (
    digits_lift t w (record { times = c.less + l.times; over = l.over + c.more * size t; lifted = other_lift (size t) z w c l })
    ∙ add-mul-mod_self_right l.over c.more (size t)
    ∙ sym (digits_lift t z l))
