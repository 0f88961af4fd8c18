-- Elements that lie a multiple of one number from each other.
use Rattle.std.proofs.Common.{◌≡◌, ℕ, zero, suc, ◌+◌, ◌*◌, ◌/◌, ◌%◌, ◌<◌, ◌≤◌, ℤ, pos, negsuc, ◌+ℤ◌, List, [], ◌∷◌, true, length, drop, get_or, refl, ap, sym, ◌∙◌, subst, arith}
use Rattle.std.specs.Prelude.{◌&&◌, unsigned_abs}
use Rattle.std.specs.List.{list_all}
use Rattle.std.specs.Int.{IsGcd}
use Rattle.std.proofs.Math.Nat.{div-add-mod, add-mul-mod_self_right}
use Rattle.std.proofs.lemmas.Int.{ints}
use Rattle.std.proofs.lemmas.Bool.{and_parts, and_from, eqb-true, eq-eqb, false≢true}
use Rattle.std.proofs.lemmas.List.{drop_more, drop_all}
use Rattle.std.proofs.lemmas.List.Folds.{list_all-map}
use Rattle.std.proofs.lemmas.Nat.Gcd.{dvd_of_mod-eq-zero, dvd_refl, dvd_trans, mod-eq-zero_of_dvd}
use Prim.Native.Nat.{◌∣◌}
use Rattle.arr_view.specs.Strided.{Strided}
use Rattle.arr_view.specs.Views.{elements, is_place, is_view, places, to_place}
use Rattle.arr_view.proofs.Checks.{lawful}
use Rattle.arr_view.proofs.Places.{Inside, in_steps, out_steps, steps}
use Rattle.arr_overlap.specs.Filters.{divides, in_step, is_spaced}

-- ---- divisors

divides-true : (d n : ℕ) → divides d n ≡ true → d ∣ n
divides-true d n e = dvd_of_mod-eq-zero d (eqb-true (n % d) 0 e)

pub divides-from : (d n : ℕ) → d ∣ n → divides d n ≡ true
divides-from d n h = eq-eqb (n % d) 0 (mod-eq-zero_of_dvd d h)

-- what divides the greatest common divisor divides both, and the other way round
gcd_parts : (x y g d : ℕ) → IsGcd x y g → divides d g ≡ true → (divides d x ≡ true) × (divides d y ≡ true)
gcd_parts x y g d h e = (divides-from d x (dvd_trans d (divides-true d g e) h.0), divides-from d y (dvd_trans d (divides-true d g e) h.1))

gcd_from : (x y g d : ℕ) → IsGcd x y g → divides d x ≡ true → divides d y ≡ true → divides d g ≡ true
gcd_from x y g d h a b = divides-from d g (h.2 d (divides-true d x a) (divides-true d y b))

pub spaced_by : (d g : ℕ) (ss : List ℤ) → divides d g ≡ true → is_spaced g ss ≡ true → is_spaced d ss ≡ true
spaced_by d g [] e h = refl
spaced_by d g (s ∷ ss) e h =
    let parts = and_parts (divides g (unsigned_abs s)) (is_spaced g ss) h in
    and_from (divides d (unsigned_abs s)) (is_spaced d ss) (divides-from d (unsigned_abs s) (dvd_trans d (divides-true d g e) (divides-true g (unsigned_abs s) parts.0))) (spaced_by d g ss e parts.1)

-- ---- the divisor of the strides before i

pub record Divisor (number : ℕ) (ss : List ℤ) (i g : ℕ) : Type 0 where
  pub common : (d : ℕ) → divides d g ≡ true → is_spaced d (drop i ss) ≡ true → (divides d number ≡ true) × (is_spaced d ss ≡ true)
  pub greatest : (d : ℕ) → divides d number ≡ true → is_spaced d ss ≡ true → (divides d g ≡ true) × (is_spaced d (drop i ss) ≡ true)

pub divisor_start : (number : ℕ) (ss : List ℤ) → Divisor number ss 0 number
divisor_start number ss = record { common = λ d a b. (a, b); greatest = λ d a b. (a, b) }

pub divisor_turn : (number : ℕ) (ss : List ℤ) (i g h : ℕ) → i < length ss → Divisor number ss i g → IsGcd g (unsigned_abs (get_or ss i (pos 0))) h → Divisor number ss (i + 1) h
divisor_turn number ss i g h l divisor gcd =
    let n : ℕ = unsigned_abs (get_or ss i (pos 0)) in
    let next : (d : ℕ) → is_spaced d (drop i ss) ≡ (divides d n && is_spaced d (drop (i + 1) ss)) = λ d. ap (is_spaced d) (drop_more ss i (pos 0) l) in
    record {
      common = λ d a b.
          let both = gcd_parts g n h d gcd a in
          divisor.common d both.0 (next d ∙ and_from (divides d n) (is_spaced d (drop (i + 1) ss)) both.1 b);
      greatest = λ d a b.
          let before = divisor.greatest d a b in
          let parts = and_parts (divides d n) (is_spaced d (drop (i + 1) ss)) (sym (next d) ∙ before.1) in
          (gcd_from g n h d gcd before.0 parts.0, parts.1);
    }

pub divisor_end : (number : ℕ) (ss : List ℤ) (i g : ℕ) → length ss ≤ i → Divisor number ss i g → (divides g number ≡ true) × (is_spaced g ss ≡ true)
divisor_end number ss i g done divisor =
    divisor.common g (divides-itself g) (ap (is_spaced g) (drop_all i ss done))
  where
    divides-itself : (n : ℕ) → divides n n ≡ true
    divides-itself n = divides-from n n (dvd_refl n)

-- ---- places in step

-- multiples of d added to both make them equal
pub record Alike (d : ℕ) (y z : ℤ) : Type 0 where
  pub more : ℕ
  pub less : ℕ
  pub same : y +ℤ pos (more * d) ≡ z +ℤ pos (less * d)

one_step : (d : ℕ) (s y z : ℤ) → divides d (unsigned_abs s) ≡ true → Alike d y z → Alike d (y +ℤ s) z
one_step d (pos n) y z e h =
    let q : ℕ = n / d in
    let none : n % d ≡ 0 = eqb-true (n % d) 0 e in
    let whole : d * q + n % d ≡ n = div-add-mod n d in
    let same : y +ℤ pos (h.more * d) ≡ z +ℤ pos (h.less * d) = h.same in
    record { more = h.more; less = h.less + q; same = omega (arith, ints) }
one_step d (negsuc n) y z e h =
    let q : ℕ = suc n / d in
    let none : suc n % d ≡ 0 = eqb-true (suc n % d) 0 e in
    let whole : d * q + suc n % d ≡ suc n = div-add-mod (suc n) d in
    let same : y +ℤ pos (h.more * d) ≡ z +ℤ pos (h.less * d) = h.same in
    record { more = h.more + q; less = h.less; same = omega (arith, ints) }

pub many_steps : (d i : ℕ) (s y z : ℤ) → divides d (unsigned_abs s) ≡ true → Alike d y z → Alike d (y +ℤ steps i s) z
many_steps d zero s y z e h =
    let same : y ≡ y +ℤ pos 0 = omega (arith, ints) in
    subst (λ x. Alike d x z) same h
many_steps d (suc i) s y z e h =
    let same : (y +ℤ s) +ℤ steps i s ≡ y +ℤ (s +ℤ steps i s) = omega (arith, ints) in
    subst (λ x. Alike d x z) same (many_steps d i s (y +ℤ s) z e (one_step d s y z e h))

alike_in_step : (d w : ℕ) (y : ℤ) → is_place y ≡ true → Alike d y (pos w) → in_step d w (to_place y) ≡ true
alike_in_step d w (pos n) inside h =
    let whole : pos n +ℤ pos (h.more * d) ≡ pos w +ℤ pos (h.less * d) = h.same in
    let same : n + h.more * d ≡ w + h.less * d = omega (arith, ints) in
    eq-eqb (n % d) (w % d) (sym (add-mul-mod_self_right n h.more d) ∙ ap (λ x. x % d) same ∙ add-mul-mod_self_right w h.less d)
alike_in_step d w (negsuc n) inside h = absurd (false≢true inside)

all_in_step : (d w : ℕ) (ns : List ℕ) (ss : List ℤ) (z : ℤ) → is_spaced d ss ≡ true → Alike d z (pos w) → Inside ns ss z → list_all (λ y. in_step d w (to_place y)) (places ns ss z) ≡ true
all_in_step d w [] ss z spaced h inside = and_from (in_step d w (to_place z)) true (alike_in_step d w z (and_parts (is_place z) true inside).0 h) refl
all_in_step d w (n ∷ ns) [] z spaced h inside = refl
all_in_step d w (n ∷ ns) (s ∷ ss) z spaced h inside =
    let parts = and_parts (divides d (unsigned_abs s)) (is_spaced d ss) spaced in
    in_steps (λ y. in_step d w (to_place y)) (places ns ss) n s z (λ i k.
    all_in_step d w ns ss (z +ℤ steps i s) parts.1 (many_steps d i s z (pos w) parts.0 h) (out_steps is_place (places ns ss) n s z inside i k))

-- the elements of a view whose strides are multiples of d
pub elements_in_step : (v : Strided) (d : ℕ) → is_view v ≡ true → is_spaced d v.strides ≡ true → list_all (in_step d v.start) (elements v) ≡ true
unfolding elements
elements_in_step v d law spaced =
    list_all-map (in_step d v.start) to_place (places v.lengths v.strides (pos v.start))
    ∙ all_in_step d v.start v.lengths v.strides (pos v.start) spaced (record { more = 0; less = 0; same = refl }) (lawful v law).inside

-- no number is in step with two starts that differ
pub steps_apart : (d m n : ℕ) → ((m % d) ≡ (n % d) → ⊥) → (x : ℕ) → in_step d m x ≡ true → in_step d n x ≡ true → ⊥
steps_apart d m n differ x a b = differ (sym (eqb-true (x % d) (m % d) a) ∙ eqb-true (x % d) (n % d) b)
