-- A number of 128 bits that wraps has kept its digits in each type.
use Rattle.std.proofs.Common.{◌≡◌, ℕ, ◌+◌, ◌-◌, ◌*◌, ◌^◌, ◌%◌, ◌≤◌, ◌<◌, suc, ℤ, pos, negsuc, true, false, cond, refl, ap, sym, ◌∙◌, arith, to_z}
use Rattle.std.proofs.lemmas.Bool.{ltb-false}
use Rattle.std.proofs.lemmas.Int.{ints, int_rem_euclid_is}
use Rattle.std.proofs.Math.Pow.{mod-mod-pow}
use Rattle.std.proofs.Math.Nat.{mod-lt}
use Rattle.std.specs.Int.{int_wrap, int_rem_euclid, w128}
use Rattle.std.specs.Prelude.{◌+ℤ◌, unsigned_abs, nat_lt}
use Rattle.arr_num.specs.Numbers.{bits, size, digits, wrap}
use Rattle.arr_num.specs.declared.elem.Elem.{Elem}
use Rattle.arr_num.specs.declared.elem.Elem.TheVariants.{U8, I32, I64, U64}
use Rattle.arr_num.proofs.Wrapping.{wrap_by_digits}
use Rattle.arr_num.proofs.Products.{Lift, lift, digits_lift}

-- the digits that a word has beyond the type's
spare : Elem → ℕ
spare U8 = 120
spare I32 = 96
spare I64 = 64
spare U64 = 64

whole_word : (t : Elem) → 2 ^ spare t * size t ≡ 2 ^ 128
unfolding spare
whole_word U8 = refl
whole_word I32 = refl
whole_word I64 = refl
whole_word U64 = refl

all_bits : (t : Elem) → spare t + bits t ≡ 128
unfolding spare
all_bits U8 = refl
all_bits I32 = refl
all_bits I64 = refl
all_bits U64 = refl

lifted_by : (t : Elem) (z : ℤ) (k m : ℕ) → z +ℤ pos (k * 2 ^ 128) ≡ pos m → digits t z ≡ m % size t
lifted_by t z k m e =
    digits_lift t z (record { times = k * 2 ^ spare t; over = m; lifted = ap (λ n. z +ℤ pos n) (grouped k (2 ^ spare t) (size t) ∙ ap (λ n. k * n) (whole_word t)) ∙ e })
  where
    grouped : (a b c : ℕ) → a * b * c ≡ a * (b * c)
    grouped a b c = omega arith

digits_to_z : (t : Elem) (n : ℕ) → n < 2 ^ 128 → digits t (to_z w128 n) ≡ n % size t
digits_to_z t n h =
    elim (nat_lt n (2 ^ 127)) as (λ b. nat_lt n (2 ^ 127) ≡ b → digits t (cond b (pos n) (negsuc (2 ^ 128 - suc n))) ≡ n % size t) [
      | true ↦ λ e. refl
      | false ↦ λ e. let l : 2 ^ 127 ≤ n = ltb-false n (2 ^ 127) e in lifted_by t (negsuc (2 ^ 128 - suc n)) 1 n (omega (arith, ints))
    ] refl

pub digits_word : (t : Elem) (z : ℤ) → digits t (int_wrap w128 z) ≡ digits t z
unfolding int_wrap
digits_word t z =
    let l : Lift (2 ^ 128) z = lift (2 ^ 128) z (omega arith) in
    let d : unsigned_abs (int_rem_euclid z (pos (2 ^ 128))) ≡ l.over % 2 ^ 128 = ap unsigned_abs (int_rem_euclid_is z (pos (2 ^ 128)) (2 ^ 128) l.times l.over (omega arith) refl l.lifted) in
    let below : l.over % 2 ^ 128 < 2 ^ 128 = mod-lt l.over (omega arith) in
    ap (λ n. digits t (to_z w128 n)) d ∙ digits_to_z t (l.over % 2 ^ 128) below
    ∙ ap (λ n. l.over % 2 ^ n % size t) (sym (all_bits t)) ∙ mod-mod-pow l.over (spare t) (bits t) ∙ sym (lifted_by t z l.times l.over l.lifted)

pub wrap_word : (t : Elem) (z : ℤ) → wrap t (int_wrap w128 z) ≡ wrap t z
wrap_word t z = wrap_by_digits t (int_wrap w128 z) z (digits_word t z)
