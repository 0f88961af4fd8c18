-- Constants that alone decide a value.
use Rattle.std.proofs.Common.{◌≡◌, ℕ, ◌-◌, ◌^◌, ◌%◌, ◌/◌, ◌<◌, suc, ℤ, pos, negsuc, Bool, true, false, cond, ◌||◌, refl, ap, sym, ◌∙◌, arith, Some, inl, inr}
use Rattle.std.proofs.lemmas.Bool.{cases_lt}
use Rattle.std.proofs.lemmas.Int.{ints}
use Rattle.std.proofs.lemmas.Nat.Bits.{same_from_bits, bit_at_or, bit_at_ones, bit_at_ones_above, bit_at_above}
use Rattle.std.specs.Int.Bits.{and_zero_r, and_comm, or_comm}
use Rattle.std.specs.Prelude.{◌*ℤ◌, bit_and, bit_or}
use Rattle.std.specs.Int.{int_shr, bit_at}
use Rattle.std.specs.Int.RustNames.{int_div, int_rem}
use Rattle.arr_num.specs.Numbers.{bits, in_type, digits, wrap, same, ones, least, greatest, shift, quotient, remainder, value}
use Rattle.arr_num.specs.declared.elem.Elem.{Elem}
use Rattle.arr_num.specs.declared.elem.Elem.TheVariants.{U8, I32, I64, U64}
use Rattle.arr_num.specs.declared.code.Code.{Code}
use Rattle.arr_num.specs.declared.code.Code.TheVariants.{Multiply, Divide, Mod, Maximum, Minimum, BitwiseAnd, BitwiseOr, LeftShift, RightShift}
use Rattle.arr_num.proofs.Wrapping.{digits_below, same_is}
use Rattle.arr_ops.proofs.Tests.{or_cases}
use Rattle.arr_ops.proofs.Typed.{zero_in}
use Rattle.arr_rewrite.specs.Rules.{fixed_right, fixed_left}
use Rattle.arr_rewrite.proofs.Options.{at_value}
use Rattle.arr_rewrite.proofs.Scalars.{kept, digits_zero, digits_ones, digits_kept, least_least, greatest_greatest, max_left, max_right, min_left, min_right}

-- f gives z, a number of the type
abbrev pub Gives : Elem → ℤ → ℤ → Type 0
Gives t y z = (y ≡ z) × (in_type t z ≡ true)

ones_in : (t : Elem) → in_type t (ones t) ≡ true
ones_in U8 = refl
ones_in I32 = refl
ones_in I64 = refl
ones_in U64 = refl

greatest_in : (t : Elem) → in_type t (greatest t) ≡ true
greatest_in U8 = refl
greatest_in I32 = refl
greatest_in I64 = refl
greatest_in U64 = refl

least_in : (t : Elem) → in_type t (least t) ≡ true
least_in U8 = refl
least_in I32 = refl
least_in I64 = refl
least_in U64 = refl

mul_zero : (x : ℤ) → x *ℤ pos 0 ≡ pos 0
mul_zero x = omega (arith, ints)

zero_mul : (x : ℤ) → pos 0 *ℤ x ≡ pos 0
zero_mul x = omega (arith, ints)

mod_one : (x : ℤ) → int_rem x (pos 1) ≡ pos 0
mod_one (pos n) = ap pos (omega arith)
mod_one (negsuc n) = let e : suc n % 1 ≡ 0 = omega arith in omega (arith, ints)

mod_less_one : (x : ℤ) → int_rem x (negsuc 0) ≡ pos 0
mod_less_one (pos n) = ap pos (omega arith)
mod_less_one (negsuc n) = let e : suc n % 1 ≡ 0 = omega arith in omega (arith, ints)

either : (b : Bool) (z : ℤ) → cond b z z ≡ z
either true z = refl
either false z = refl

zero_over : (y : ℤ) → int_div (pos 0) y ≡ pos 0
zero_over (pos n) = ap pos (omega arith)
zero_over (negsuc n) = let e : 0 / suc n ≡ 0 = omega arith in omega (arith, ints)

zero_divided : (y : ℤ) → quotient (pos 0) y ≡ pos 0
zero_divided y = ap (cond (same y (pos 0)) (pos 0)) (zero_over y) ∙ either (same y (pos 0)) (pos 0)

zero_left : (y : ℤ) → int_rem (pos 0) y ≡ pos 0
zero_left (pos n) = ap pos (omega arith)
zero_left (negsuc n) = ap pos (omega arith)

zero_rest : (y : ℤ) → remainder (pos 0) y ≡ pos 0
zero_rest y = ap (cond (same y (pos 0)) (pos 0)) (zero_left y) ∙ either (same y (pos 0)) (pos 0)

zero_shifted : (k : ℕ) → int_shr (pos 0) k ≡ pos 0
zero_shifted k = ap pos (omega arith)

or_ones : (n k : ℕ) → n < 2 ^ k → bit_or n (2 ^ k - 1) ≡ 2 ^ k - 1
or_ones n k h =
    same_from_bits (bit_or n (2 ^ k - 1)) (2 ^ k - 1)
    (λ i. elim (cases_lt i k) as (λ w. bit_at (bit_or n (2 ^ k - 1)) i ≡ bit_at (2 ^ k - 1) i) [
      | inl l ↦ let a : bit_at n i < 2 = omega arith in omega (arith, bit_at_or n (2 ^ k - 1) i, bit_at_ones k i l)
      | inr l ↦ omega (arith, bit_at_or n (2 ^ k - 1) i, bit_at_ones_above k i l, bit_at_above n k i h l)
    ])

or_all : (t : Elem) (x : ℤ) → bit_or (digits t x) (digits t (ones t)) ≡ digits t (ones t)
or_all t x = ap (bit_or (digits t x)) (digits_ones t) ∙ or_ones (digits t x) (bits t) (digits_below t x) ∙ sym (digits_ones t)

-- ---- the values

pub fixed_right_law : (code : Code) (t : Elem) (x c z : ℤ) → in_type t x ≡ true → fixed_right code t c ≡ Some z → Gives t (value code t x c) z
unfolding value
fixed_right_law Multiply t x c z h e =
    at_value (Gives t (value Multiply t x c)) _ _ z e (λ k. (ap (λ y. wrap t (x *ℤ y)) (same_is c _ k) ∙ kept t (pos 0) _ (zero_in t) (mul_zero x), zero_in t))
fixed_right_law BitwiseAnd t x c z h e =
    at_value (Gives t (value BitwiseAnd t x c)) _ _ z e
    (λ k. (digits_kept t (pos 0) _ (zero_in t) (ap (λ y. bit_and (digits t x) (digits t y)) (same_is c _ k) ∙ ap (bit_and (digits t x)) (digits_zero t) ∙ and_zero_r (digits t x) ∙ sym (digits_zero t)), zero_in t))
fixed_right_law Divide t x c z h e =
    at_value (Gives t (value Divide t x c)) _ _ z e (λ k. (ap (λ y. wrap t (quotient x y)) (same_is c _ k) ∙ kept t (pos 0) _ (zero_in t) refl, zero_in t))
fixed_right_law Mod t x c z h e =
    at_value (Gives t (value Mod t x c)) _ _ z e
    (λ k. (
      or_cases (same c (pos 0)) (same c (pos 1) || same c (negsuc 0)) k
          (λ a. ap (λ y. wrap t (remainder x y)) (same_is c _ a) ∙ kept t (pos 0) _ (zero_in t) refl)
          (λ b. or_cases (same c (pos 1)) (same c (negsuc 0)) b
          (λ a. ap (λ y. wrap t (remainder x y)) (same_is c _ a) ∙ kept t (pos 0) _ (zero_in t) (mod_one x))
          (λ a. ap (λ y. wrap t (remainder x y)) (same_is c _ a) ∙ kept t (pos 0) _ (zero_in t) (mod_less_one x))),
      zero_in t,
    ))
fixed_right_law BitwiseOr t x c z h e =
    at_value (Gives t (value BitwiseOr t x c)) _ _ z e
    (λ k. let o : c ≡ ones t = same_is c _ k in
    (ap (value BitwiseOr t x) o ∙ digits_kept t (ones t) _ (ones_in t) (or_all t x) ∙ sym o, ap (in_type t) o ∙ ones_in t))
fixed_right_law Maximum t x c z h e =
    at_value (Gives t (value Maximum t x c)) _ _ z e
    (λ k. let o : c ≡ greatest t = same_is c _ k in
    (ap (value Maximum t x) o ∙ kept t (greatest t) _ (greatest_in t) (max_right (greatest t) x (greatest_greatest t x h)) ∙ sym o, ap (in_type t) o ∙ greatest_in t))
fixed_right_law Minimum t x c z h e =
    at_value (Gives t (value Minimum t x c)) _ _ z e
    (λ k. let o : c ≡ least t = same_is c _ k in
    (ap (value Minimum t x) o ∙ kept t (least t) _ (least_in t) (min_right (least t) x (least_least t x h)) ∙ sym o, ap (in_type t) o ∙ least_in t))
fixed_right_law _ t x c z h e = absurd (cc)

pub fixed_left_law : (code : Code) (t : Elem) (x c z : ℤ) → in_type t x ≡ true → fixed_left code t c ≡ Some z → Gives t (value code t c x) z
unfolding value
fixed_left_law Multiply t x c z h e =
    at_value (Gives t (value Multiply t c x)) _ _ z e (λ k. (ap (λ y. wrap t (y *ℤ x)) (same_is c _ k) ∙ kept t (pos 0) _ (zero_in t) (zero_mul x), zero_in t))
fixed_left_law BitwiseAnd t x c z h e =
    at_value (Gives t (value BitwiseAnd t c x)) _ _ z e
    (λ k. (
      digits_kept t (pos 0) _ (zero_in t)
          (and_comm (digits t c) (digits t x) ∙ ap (λ y. bit_and (digits t x) (digits t y)) (same_is c _ k) ∙ ap (bit_and (digits t x)) (digits_zero t) ∙ and_zero_r (digits t x) ∙ sym (digits_zero t)),
      zero_in t,
    ))
fixed_left_law Divide t x c z h e =
    at_value (Gives t (value Divide t c x)) _ _ z e (λ k. (ap (λ y. wrap t (quotient y x)) (same_is c _ k) ∙ kept t (pos 0) _ (zero_in t) (zero_divided x), zero_in t))
fixed_left_law Mod t x c z h e =
    at_value (Gives t (value Mod t c x)) _ _ z e (λ k. (ap (λ y. wrap t (remainder y x)) (same_is c _ k) ∙ kept t (pos 0) _ (zero_in t) (zero_rest x), zero_in t))
fixed_left_law LeftShift t x c z h e =
    at_value (Gives t (value LeftShift t c x)) _ _ z e
    (λ k. (ap (λ y. wrap t (y *ℤ pos (2 ^ shift t x))) (same_is c _ k) ∙ kept t (pos 0) _ (zero_in t) (zero_mul (pos (2 ^ shift t x))), zero_in t))
fixed_left_law RightShift t x c z h e =
    at_value (Gives t (value RightShift t c x)) _ _ z e (λ k. (ap (λ y. wrap t (int_shr y (shift t x))) (same_is c _ k) ∙ kept t (pos 0) _ (zero_in t) (zero_shifted (shift t x)), zero_in t))
fixed_left_law BitwiseOr t x c z h e =
    at_value (Gives t (value BitwiseOr t c x)) _ _ z e
    (λ k. let o : c ≡ ones t = same_is c _ k in
    (ap (λ y. value BitwiseOr t y x) o ∙ digits_kept t (ones t) _ (ones_in t) (or_comm (digits t (ones t)) (digits t x) ∙ or_all t x) ∙ sym o, ap (in_type t) o ∙ ones_in t))
fixed_left_law Maximum t x c z h e =
    at_value (Gives t (value Maximum t c x)) _ _ z e
    (λ k. let o : c ≡ greatest t = same_is c _ k in
    (ap (λ y. value Maximum t y x) o ∙ kept t (greatest t) _ (greatest_in t) (max_left (greatest t) x (greatest_greatest t x h)) ∙ sym o, ap (in_type t) o ∙ greatest_in t))
fixed_left_law Minimum t x c z h e =
    at_value (Gives t (value Minimum t c x)) _ _ z e
    (λ k. let o : c ≡ least t = same_is c _ k in
    (ap (λ y. value Minimum t y x) o ∙ kept t (least t) _ (least_in t) (min_left (least t) x (least_least t x h)) ∙ sym o, ap (in_type t) o ∙ least_in t))
fixed_left_law _ t x c z h e = absurd (cc)
