-- How many steps of one size leave a multiple of another size.
use Rattle.std.proofs.Common.{◌≡◌, ℕ, zero, suc, ◌+◌, ◌-◌, ◌*◌, ◌/◌, ◌%◌, ◌<◌, ◌≤◌, List, [], ◌∷◌, length, get_or, ap, ap₂, sym, ◌∙◌, refl, arith}
use Rattle.std.proofs.Math.Nat.{add-mul-mod_self_left, add-mul-mod_self_right, div-mul-le_self, mod-add-div, mod-add-div', mod-eq_of_lt, mod-le, mod-lt, mul-le-mul_right, mul-mod_left, zero-mul}
use Rattle.std.proofs.lemmas.Nat.{mul-mod_second}
use Rattle.arr_overlap.specs.Legs.{LeadTo}
use Rattle.arr_overlap.specs.declared.legs.Leg.{Leg}

pub steps_within : (t s k : ℕ) → k ≤ t / s → k * s ≤ t
steps_within t s k h =
    let up : k * s ≤ (t / s) * s = mul-le-mul_right s h in
    let down : (t / s) * s ≤ t = div-mul-le_self t s in
    omega arith

-- what multiples leave of a greater multiple
mod_times : (k p d : ℕ) → 0 < p → 0 < d → (k * d) % (p * d) ≡ (k % p) * d
mod_times k p d some more =
    let r : ℕ = k % p in
    let q : ℕ = k / p in
    let whole : r + q * p ≡ k = mod-add-div' k p in
    let below : r < p = mod-lt k some in
    let small : (r + 1) * d ≤ p * d = mul-le-mul_right d (let o : r + 1 ≤ p = omega arith in o) in
    let spread : (r + 1) * d ≡ r * d + d = omega arith in
    let less : r * d < p * d = omega arith in
    ap (λ x. (x * d) % (p * d)) (sym whole) ∙ ap (λ x. x % (p * d)) (let o : (r + q * p) * d ≡ r * d + q * (p * d) = omega arith in o) ∙ add-mul-mod_self_right (r * d) q (p * d) ∙ mod-eq_of_lt less

positive : (p d o : ℕ) → 0 < o → o ≡ p * d → 0 < p
positive zero d o more e = absurd (let n : 0 * d ≡ 0 = zero-mul d in omega arith)
positive (suc p) d o more e = omega arith

pub period_some : (o d : ℕ) → 0 < d → 0 < o → o % d ≡ 0 → 0 < o / d
period_some o d some more goes =
    let whole : o % d + (o / d) * d ≡ o = mod-add-div' o d in
    positive (o / d) d o more (omega arith)

-- the remainder of a count is told by the remainder of a multiple of the target
pub turned : (u d s o t k j : ℕ) → 0 < d → 0 < o → o % d ≡ 0 → (u * s) % o ≡ d % o → t ≡ k * s + j * o → (u * (t % o)) % o ≡ (k % (o / d)) * d
turned u d s o t k j some more goes leaves sum =
    let p : ℕ = o / d in
    let whole : o % d + p * d ≡ o = mod-add-div' o d in
    let o_is : o ≡ p * d = omega arith in
    let moves : 0 < p = period_some o d some more goes in
    let spread : u * t ≡ k * (u * s) + (u * j) * o = ap (λ x. u * x) sum ∙ (let e : u * (k * s + j * o) ≡ k * (u * s) + (u * j) * o = omega arith in e) in
    mul-mod_second u t o ∙ ap (λ x. x % o) spread ∙ add-mul-mod_self_right (k * (u * s)) (u * j) o ∙ sym (mul-mod_second k (u * s) o) ∙ ap (λ x. (k * x) % o) leaves ∙ mul-mod_second k d o
    ∙ ap (λ x. (k * d) % x) o_is ∙ mod_times k p d moves some

-- a divisor of both steps divides what they lead to
pub divided : (d s o t k j : ℕ) → s % d ≡ 0 → o % d ≡ 0 → t ≡ k * s + j * o → t % d ≡ 0
divided d s o t k j first second sum =
    let a : s % d + (s / d) * d ≡ s = mod-add-div' s d in
    let b : o % d + (o / d) * d ≡ o = mod-add-div' o d in
    let s_is : s ≡ (s / d) * d = omega arith in
    let o_is : o ≡ (o / d) * d = omega arith in
    let whole : t ≡ (k * (s / d) + j * (o / d)) * d =
    sum ∙ ap₂ (λ x y. k * x + j * y) s_is o_is ∙ (let e : k * ((s / d) * d) + j * ((o / d) * d) ≡ (k * (s / d) + j * (o / d)) * d = omega arith in e) in
    ap (λ x. x % d) whole ∙ mul-mod_left (k * (s / d) + j * (o / d)) d

-- a count with a given remainder, from another count on
pub first_after : (p l k : ℕ) → 0 < p → l ≤ k → l + (k % p + (p - l % p)) % p ≤ k
first_after p l k some more =
    let y : ℕ = p - l % p in
    let k_is : k % p + p * (k / p) ≡ k = mod-add-div k p in
    let l_is : l % p + p * (l / p) ≡ l = mod-add-div l p in
    let below : l % p < p = mod-lt l some in
    let sum : (k % p + y) + p * (k / p) ≡ (k - l) + p * (l / p + 1) = omega arith in
    let same : (k % p + y) % p ≡ (k - l) % p =
    sym (add-mul-mod_self_left (k % p + y) p (k / p)) ∙ ap (λ x. x % p) sum ∙ add-mul-mod_self_left (k - l) p (l / p + 1) in
    let small : (k - l) % p ≤ k - l = mod-le (k - l) p in
    omega arith

-- two legs
pub two_lead : (leg : Leg) (others : List Leg) (d : Leg) (t k : ℕ) → length others ≡ 1 → k < leg.places → k * leg.step ≤ t → (t - k * leg.step) % (get_or others 0 d).step ≡ 0
    → (t - k * leg.step) / (get_or others 0 d).step < (get_or others 0 d).places → LeadTo (leg ∷ others) t
two_lead leg [] d t k one few within goes enough = absurd (omega arith)
two_lead leg (other ∷ []) d t k one few within goes enough =
    let left : ℕ = t - k * leg.step in
    let whole : left % other.step + (left / other.step) * other.step ≡ left = mod-add-div' left other.step in
    record {
      count = k;
      few = few;
      left = left;
      sum = (let o : t ≡ k * leg.step + left = omega arith in o);
      on = record { count = left / other.step; few = enough; left = 0; sum = (let o : left ≡ (left / other.step) * other.step + 0 = omega arith in o); on = refl };
    }
two_lead leg (other ∷ (more ∷ rest)) d t k one few within goes enough = absurd (omega arith)
