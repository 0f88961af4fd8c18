-- The digits of sums and products are those of the sums and products of digits.
use Rattle.std.proofs.Common.{◌≡◌, ℕ, ◌+◌, ◌-◌, ◌*◌, ◌%◌, ◌≤◌, ◌<◌, suc, zero, ℤ, pos, negsuc, refl, ap, ap₂, sym, ◌∙◌, arith}
use Rattle.std.proofs.lemmas.Bool.{leb-true}
use Rattle.std.proofs.lemmas.Int.{ints, int_rem_euclid_is}
use Rattle.std.proofs.lemmas.Nat.{mul-mod}
use Rattle.std.proofs.Math.Nat.{add-mod}
use Rattle.std.proofs.Math.IntN.{pos-*ℤ-pos, pos-*ℤ-negsuc, negsuc-*ℤ-pos, negsuc-*ℤ-negsuc, neg_ℤ}
use Rattle.std.specs.Prelude.{◌+ℤ◌, ◌*ℤ◌, unsigned_abs}
use Rattle.arr_num.specs.Numbers.{size, digits}
use Rattle.arr_num.specs.declared.elem.Elem.{Elem}
use Rattle.arr_num.specs.declared.elem.Elem.TheVariants.{U8, I32, I64, U64}
use Rattle.arr_num.proofs.Wrapping.{size_more}

-- a number and a multiple of s are a natural number
pub record Lift (s : ℕ) (z : ℤ) : Type 0 where
  pub times : ℕ
  pub over : ℕ
  pub lifted : z +ℤ pos (times * s) ≡ pos over

pub lift : (s : ℕ) (z : ℤ) → 0 < s → Lift s z
lift s (pos n) h = record { times = 0; over = n; lifted = omega (arith, ints) }
lift zero (negsuc n) h = absurd (omega arith)
lift (suc r) (negsuc n) h = record { times = suc n; over = suc n * r; lifted = omega (arith, ints) }

pub digits_lift : (t : Elem) (z : ℤ) (l : Lift (size t) z) → digits t z ≡ l.over % size t
digits_lift t z l = ap unsigned_abs (int_rem_euclid_is z (pos (size t)) (size t) l.times l.over (size_more t) refl l.lifted)

pub digits_add : (t : Elem) (x y : ℤ) → digits t (x +ℤ y) ≡ (digits t x + digits t y) % size t
digits_add t x y =
    let a : Lift (size t) x = lift (size t) x (size_more t) in
    let b : Lift (size t) y = lift (size t) y (size_more t) in
    digits_lift t (x +ℤ y) (record { times = a.times + b.times; over = a.over + b.over; lifted = sum (size t) x y a b })
    ∙ add-mod a.over b.over (size t)
    ∙ sym (ap₂ (λ p q. (p + q) % size t) (digits_lift t x a) (digits_lift t y b))
  where
    sum : (s : ℕ) (x y : ℤ) (a : Lift s x) (b : Lift s y) → (x +ℤ y) +ℤ pos ((a.times + b.times) * s) ≡ pos (a.over + b.over)
    sum s x y a b = omega (arith, ints, a.lifted, b.lifted)

-- ---- products: q is the size less 2

over : ℕ → ℤ → ℕ
over q (pos n) = n
over q (negsuc n) = suc n * suc q

two_more : (t : Elem) → 2 ≤ size t
two_more U8 = leb-true _ _ refl
two_more I32 = leb-true _ _ refl
two_more I64 = leb-true _ _ refl
two_more U64 = leb-true _ _ refl

lift_negative : (q n : ℕ) → neg_ℤ (pos n) +ℤ pos (n * suc (suc q)) ≡ pos (n * suc q)
lift_negative q zero = omega (arith, ints)
lift_negative q (suc n) = omega (arith, ints)

digits_negative : (t : Elem) (q n : ℕ) → size t ≡ suc (suc q) → digits t (neg_ℤ (pos n)) ≡ (n * suc q) % size t
digits_negative t q n e =
    digits_lift t (neg_ℤ (pos n)) (record { times = n; over = n * suc q; lifted = ap (λ s. neg_ℤ (pos n) +ℤ pos (n * s)) e ∙ lift_negative q n })

digits_over : (t : Elem) (q : ℕ) (z : ℤ) → size t ≡ suc (suc q) → digits t z ≡ over q z % size t
unfolding over
digits_over t q (pos n) e = refl
digits_over t q (negsuc n) e = digits_negative t q (suc n) e

square : (q k : ℕ) → pos k +ℤ pos ((k * q) * suc (suc q)) ≡ pos (k * (suc q * suc q))
square q k = omega (arith, ints)

digits_times : (t : Elem) (q : ℕ) (x y : ℤ) → size t ≡ suc (suc q) → digits t (x *ℤ y) ≡ (over q x * over q y) % size t
unfolding over
digits_times t q (pos a) (pos b) e = ap (digits t) (pos-*ℤ-pos a b)
digits_times t q (pos a) (negsuc b) e =
    ap (digits t) (pos-*ℤ-negsuc a b) ∙ digits_negative t q (a * suc b) e ∙ ap (λ k. k % size t) (let h : a * suc b * suc q ≡ a * (suc b * suc q) = omega arith in h)
digits_times t q (negsuc a) (pos b) e =
    ap (digits t) (negsuc-*ℤ-pos a b) ∙ digits_negative t q (suc a * b) e ∙ ap (λ k. k % size t) (let h : suc a * b * suc q ≡ (suc a * suc q) * b = omega arith in h)
digits_times t q (negsuc a) (negsuc b) e =
    let k : ℕ = suc a * suc b in
    ap (digits t) (negsuc-*ℤ-negsuc a b)
    ∙ digits_lift t (pos (suc a * suc b)) (record { times = suc a * suc b * q; over = suc a * suc b * (suc q * suc q); lifted = ap (λ s. pos (suc a * suc b) +ℤ pos ((suc a * suc b * q) * s)) e ∙ square q (suc a * suc b) })
    ∙ ap (λ j. j % size t) (let h : suc a * suc b * (suc q * suc q) ≡ (suc a * suc q) * (suc b * suc q) = omega arith in h)

pub digits_multiply : (t : Elem) (x y : ℤ) → digits t (x *ℤ y) ≡ (digits t x * digits t y) % size t
digits_multiply t x y =
    let two : 2 ≤ size t = two_more t in
    let q : ℕ = size t - 2 in
    let e : size t ≡ suc (suc (size t - 2)) = omega arith in
    digits_times t (size t - 2) x y e
    ∙ mul-mod (over (size t - 2) x) (over (size t - 2) y) (size t)
    ∙ sym (ap₂ (λ a b. (a * b) % size t) (digits_over t (size t - 2) x e) (digits_over t (size t - 2) y e))
