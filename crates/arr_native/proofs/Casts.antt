-- Native numbers, read back from an `i128` or from bits.
use Rattle.std.proofs.Common.{◌≡◌, ℕ, ◌-◌, ◌<◌, ◌^◌, suc, ℤ, pos, negsuc, cond, true, refl, ap, sym, ◌∙◌, subst, arith, Fits, FitsSigned, to_z, of_z}
use Rattle.std.proofs.lemmas.Bool.{ltb-true, lt-ltb}
use Rattle.std.proofs.lemmas.Int.{to_z-of_z}
use Rattle.std.specs.Int.{Width, w8, w32, w64, w128}
use lib.Dec.{T}
use lib.Signed.{non_neg}
use lib.IntN.{nat_abs}
use Rattle.arr_num.specs.Numbers.{in_type, wrap, whole, value, size, upper, digits, from_digits}
use Rattle.arr_num.specs.declared.elem.Elem.{Elem}
use Rattle.arr_num.specs.declared.elem.Elem.TheVariants.{U8, I32, I64, U64}
use Rattle.arr_num.specs.declared.code.Code.{Code}
use Rattle.arr_num.proofs.Wrapping.{in_type_wrap, fits_of_type, digits_below}

pub typed : (code : Code) (t : Elem) (x y : ℤ) → in_type t (value code t x y) ≡ true
unfolding value
typed code t x y = in_type_wrap t (whole code t x y)

fits64 : (z : ℤ) → in_type I64 z ≡ true → FitsSigned w64 z
fits64 (pos n) h = let l : n < 2 ^ 63 = ltb-true n (2 ^ 63) h in omega arith
fits64 (negsuc n) h = let l : n < 2 ^ 63 = ltb-true n (2 ^ 63) h in omega arith

fits128 : (z : ℤ) → in_type I64 z ≡ true → FitsSigned w128 z
fits128 (pos n) h = let l : n < 2 ^ 63 = ltb-true n (2 ^ 63) h in omega arith
fits128 (negsuc n) h = let l : n < 2 ^ 63 = ltb-true n (2 ^ 63) h in omega arith

pub cast64 : (r v : ℤ) → r ≡ v → in_type I64 v ≡ true → FitsSigned w64 (to_z w128 (of_z w128 r))
cast64 r v e h =
    subst (FitsSigned w64) (sym (ap (λ z. to_z w128 (of_z w128 z)) e ∙ to_z-of_z w128 v (fits128 v h))) (fits64 v h)

pub back64 : (r v : ℤ) → r ≡ v → in_type I64 v ≡ true → to_z w64 (of_z w64 (to_z w128 (of_z w128 r))) ≡ v
back64 r v e h =
    ap (λ z. to_z w64 (of_z w64 z)) (ap (λ z. to_z w128 (of_z w128 z)) e ∙ to_z-of_z w128 v (fits128 v h)) ∙ to_z-of_z w64 v (fits64 v h)

-- ---- the other types

fits32 : (z : ℤ) → in_type I32 z ≡ true → FitsSigned w32 z
fits32 (pos n) h = let l : n < 2 ^ 31 = ltb-true n (2 ^ 31) h in omega arith
fits32 (negsuc n) h = let l : n < 2 ^ 31 = ltb-true n (2 ^ 31) h in omega arith

pub cast32 : (r v : ℤ) → r ≡ v → in_type I32 v ≡ true → FitsSigned w32 (to_z w128 (of_z w128 r))
cast32 r v e h = subst (FitsSigned w32) (sym (ap (λ z. to_z w128 (of_z w128 z)) e ∙ to_z-of_z w128 v (fits_of_type I32 v h))) (fits32 v h)

pub back32 : (r v : ℤ) → r ≡ v → in_type I32 v ≡ true → to_z w32 (of_z w32 (to_z w128 (of_z w128 r))) ≡ v
back32 r v e h =
    ap (λ z. to_z w32 (of_z w32 z)) (ap (λ z. to_z w128 (of_z w128 z)) e ∙ to_z-of_z w128 v (fits_of_type I32 v h)) ∙ to_z-of_z w32 v (fits32 v h)

abbrev pub IsNatural : Width → ℤ → Type 0
IsNatural w z = T (non_neg z) × Fits w (nat_abs z)

byte_fit : (v : ℤ) → in_type U8 v ≡ true → IsNatural w8 v
byte_fit (pos n) h = (tt, (let l : n < 2 ^ 8 = ltb-true n (2 ^ 8) h in omega arith))
byte_fit (negsuc n) h = let l : n < 0 = ltb-true n 0 h in absurd (omega arith)

natural_fit : (v : ℤ) → in_type U64 v ≡ true → IsNatural w64 v
natural_fit (pos n) h = (tt, (let l : n < 2 ^ 64 = ltb-true n (2 ^ 64) h in omega arith))
natural_fit (negsuc n) h = let l : n < 0 = ltb-true n 0 h in absurd (omega arith)

kept : (t : Elem) (r v : ℤ) → r ≡ v → in_type t v ≡ true → to_z w128 (of_z w128 r) ≡ v
kept t r v e h = ap (λ z. to_z w128 (of_z w128 z)) e ∙ to_z-of_z w128 v (fits_of_type t v h)

pub cast_byte : (r v : ℤ) → r ≡ v → in_type U8 v ≡ true → IsNatural w8 (to_z w128 (of_z w128 r))
cast_byte r v e h = subst (IsNatural w8) (sym (kept U8 r v e h)) (byte_fit v h)

pub cast_natural : (r v : ℤ) → r ≡ v → in_type U64 v ≡ true → IsNatural w64 (to_z w128 (of_z w128 r))
cast_natural r v e h = subst (IsNatural w64) (sym (kept U64 r v e h)) (natural_fit v h)

byte_back : (v : ℤ) → in_type U8 v ≡ true → pos (nat_abs v) ≡ v
byte_back (pos n) h = refl
byte_back (negsuc n) h = let l : n < 0 = ltb-true n 0 h in absurd (omega arith)

natural_back : (v : ℤ) → in_type U64 v ≡ true → pos (nat_abs v) ≡ v
natural_back (pos n) h = refl
natural_back (negsuc n) h = let l : n < 0 = ltb-true n 0 h in absurd (omega arith)

pub back_byte : (r v : ℤ) → r ≡ v → in_type U8 v ≡ true → pos (nat_abs (to_z w128 (of_z w128 r))) ≡ v
back_byte r v e h = ap (λ z. pos (nat_abs z)) (kept U8 r v e h) ∙ byte_back v h

pub back_natural : (r v : ℤ) → r ≡ v → in_type U64 v ≡ true → pos (nat_abs (to_z w128 (of_z w128 r))) ≡ v
back_natural r v e h = ap (λ z. pos (nat_abs z)) (kept U64 r v e h) ∙ natural_back v h

-- ---- from the last bits

pub signed_bits : (t : Elem) (z : ℤ) (n : ℕ) → n ≡ digits t z → from_digits t n ≡ wrap t z
unfolding wrap
signed_bits t z n h = ap (from_digits t) h

pub natural_bits : (t : Elem) (z : ℤ) (n : ℕ) → upper t ≡ size t → n ≡ digits t z → pos n ≡ wrap t z
natural_bits t z n all h =
    let l : n < size t = subst (λ k. k < size t) (sym h) (digits_below t z) in
    let b : n < upper t = subst (λ k. n < k) (sym all) l in
    ap (λ c. cond c (pos n) (negsuc (size t - suc n))) (sym (lt-ltb n (upper t) b)) ∙ signed_bits t z n h
