-- A bit set or cleared in rows of words changes one bit.
use Rattle.std.proofs.Common.{◌≡◌, ◌≢◌, ℕ, zero, suc, ◌+◌, ◌*◌, ◌/◌, ◌%◌, ◌<◌, ◌≤◌, List, length, get_or, get_or-set_other, get_or-set_same, length-set, Bool, true, false, ◌&&◌, ◌||◌, refl, sym, ap, ◌∙◌, subst, arith, ⊎_elim, ◌⊎◌, inl, inr, w64}
use Rattle.std.specs.Prelude.{◌==◌, replicate}
use Rattle.std.proofs.lemmas.List.{length-replicate}
use Rattle.std.specs.Int.{bit_at}
use Rattle.std.proofs.lemmas.Nat.Bits.{bit_at_set_same, bit_at_set_other, bit_at_clear_same, bit_at_clear_other, bit_at-zero}
use Rattle.std.proofs.lemmas.Bool.{and_parts, and_from, or_left, true≢false, eqb-true, eq-eqb, cases_eq, cases_lt}
use Rattle.std.proofs.Math.Nat.{mul-le-mul_left}
use Rattle.arr_ops.proofs.Tests.{or_cases}
use Rattle.arr_law.specs.declared.fact.Fact.{Fact}
use Rattle.arr_law.specs.declared.fact.Fact.TheVariants.{Same, Apart, Before}
use Rattle.arr_law.specs.Facts.{Facts, is_fact, with_fact}
use Rattle.arr_law.specs.Floor.{IsSymmetric}
use Rattle.arr_state.specs.Known.{first, second}
use Rattle.arr_state.specs.Opening.{no_facts, no_test}
use Rattle.arr_state.specs.Rows.{bit, word_of, all_words, put_in, put, rows_with, said, bit_of, AreRowed}
use Rattle.arr_state.proofs.Basics.{by_bool}
use Rattle.arr_state.proofs.Spelled.{is_fact-same, same_or_turned, turned_is}

unique_le : (n a b c d : ℕ) → b < n → d < n → a * n + b ≡ c * n + d → a < c → ⊥
unique_le n a b c d lb ld e l =
    let m : n * (a + 1) ≤ n * c = mul-le-mul_left n (let k : a + 1 ≤ c = omega arith in k) in
    absurd (omega (arith, m, e, lb, ld))

unique : (n a b c d : ℕ) → b < n → d < n → a * n + b ≡ c * n + d → (a ≡ c) × (b ≡ d)
unique n a b c d lb ld e =
    let same : a ≡ c = ⊎_elim (λ (l : a < c). absurd (unique_le n a b c d lb ld e l)) (λ (l : c ≤ a). ⊎_elim (λ (k : c < a). absurd (unique_le n c d a b ld lb (sym e) k)) (λ (k : a ≤ c). omega arith) (cases_lt c a)) (cases_lt a c) in
    (same, omega (arith, e, ap (λ k. k * n) same))

pub put_in-same : (old k : ℕ) (v : Bool) → k < 64 → bit_at (put_in old k v) k ≡ bit v
put_in-same old k true l = bit_at_set_same w64 old k l
put_in-same old k false l = bit_at_clear_same w64 old k l

pub put_in-other : (old k i : ℕ) (v : Bool) → k < 64 → i < 64 → i ≢ k → bit_at (put_in old k v) i ≡ bit_at old i
put_in-other old k i true l m ne = bit_at_set_other w64 old k l i ne
put_in-other old k i false l m ne = bit_at_clear_other w64 old k l i m ne

pub below_all : (a b m w : ℕ) → a < m → b < w → a * w + b < m * w
below_all a b m w la lb =
    let h : w * (a + 1) ≤ w * m = mul-le-mul_left w (let k : a + 1 ≤ m = omega arith in k) in
    omega (arith, h, lb)

pub row_below : (n p f : ℕ) → p < 6 → f ≤ n → p * (n + 1) + f < 6 * (n + 1)
row_below n p f lp lf = below_all p f 6 (n + 1) lp (omega arith)

pub word_below : (n p f g : ℕ) → p < 6 → f ≤ n → g / 64 ≤ n / 64 → word_of n p f g < all_words n
word_below n p f g lp lf lg = below_all (p * (n + 1) + f) (g / 64) (6 * (n + 1)) (n / 64 + 1) (row_below n p f lp lf) (omega (arith, lg))

-- three numbers are three others
abbrev Keys : ℕ → ℕ → ℕ → ℕ → ℕ → ℕ → Type 0
Keys p f g q h j = (p ≡ q) × (f ≡ h) × (g ≡ j)

word_unique : (n p f g q h j : ℕ) → f ≤ n → g / 64 ≤ n / 64 → h ≤ n → j / 64 ≤ n / 64 → word_of n p f g ≡ word_of n q h j → g % 64 ≡ j % 64 → Keys p f g q h j
word_unique n p f g q h j lf lg lh lj e m =
    let u = unique (n / 64 + 1) (p * (n + 1) + f) (g / 64) (q * (n + 1) + h) (j / 64) (omega (arith, lg)) (omega (arith, lj)) e in
    let v = unique (n + 1) p f q h (omega arith) (omega arith) u.0 in
    (v.0, v.1, omega (arith, u.1, m))

put-same : (n p f g : ℕ) (v : Bool) (rows : List ℕ) → word_of n p f g < length rows → bit_of n (put n p f g v rows) p f g ≡ bit v
put-same n p f g v rows l =
    ap (λ w. bit_at w (g % 64)) (get_or-set_same rows (word_of n p f g) (put_in (get_or rows (word_of n p f g) 0) (g % 64) v) 0 l)
    ∙ put_in-same (get_or rows (word_of n p f g) 0) (g % 64) v (omega arith)

put-other : (n p f g q h j : ℕ) (v : Bool) (rows : List ℕ) → word_of n p f g < length rows → f ≤ n → g / 64 ≤ n / 64 → h ≤ n → j / 64 ≤ n / 64 → (Keys q h j p f g → ⊥) → bit_of n (put n p f g v rows) q h j ≡ bit_of n rows q h j
put-other n p f g q h j v rows l lf lg lh lj ne =
    ⊎_elim
    (λ (e : word_of n q h j ≡ word_of n p f g).
    let k : j % 64 ≢ g % 64 = λ s. ne (word_unique n q h j p f g lh lj lf lg e s) in
    subst (λ w. bit_at (get_or (put n p f g v rows) w 0) (j % 64) ≡ bit_at (get_or rows w 0) (j % 64)) (sym e)
    (ap (λ w. bit_at w (j % 64)) (get_or-set_same rows (word_of n p f g) (put_in (get_or rows (word_of n p f g) 0) (g % 64) v) 0 l)
    ∙ put_in-other (get_or rows (word_of n p f g) 0) (g % 64) (j % 64) v (omega arith) (omega arith) k))
    (λ (d : word_of n q h j ≢ word_of n p f g). ap (λ w. bit_at w (j % 64)) (get_or-set_other rows (word_of n p f g) (word_of n q h j) (put_in (get_or rows (word_of n p f g) 0) (g % 64) v) 0 d))
    (cases_eq (word_of n q h j) (word_of n p f g))

-- the two places of a fact
abbrev pub plane1 : Fact → ℕ
plane1 (Same f g) = 0
plane1 (Apart f g) = 1
plane1 (Before f g) = 2

abbrev pub plane2 : Fact → ℕ
plane2 (Same f g) = 0
plane2 (Apart f g) = 1
plane2 (Before f g) = 3

abbrev pub both_put : ℕ → Fact → Bool → List ℕ → List ℕ
both_put n x v rows = put n (plane2 x) (second x) (first x) v (put n (plane1 x) (first x) (second x) v rows)

both_is : (n : ℕ) (x : Fact) (v : Bool) (rows : List ℕ) → rows_with n x v rows ≡ both_put n x v rows
both_is n (Same f g) v rows = refl
both_is n (Apart f g) v rows = refl
both_is n (Before f g) v rows = refl

plane1_small : (x : Fact) → plane1 x < 6
plane1_small (Same f g) = omega arith
plane1_small (Apart f g) = omega arith
plane1_small (Before f g) = omega arith

plane2_small : (x : Fact) → plane2 x < 6
plane2_small (Same f g) = omega arith
plane2_small (Apart f g) = omega arith
plane2_small (Before f g) = omega arith

-- whether a bit is one of a fact's
abbrev hits : Fact → ℕ → ℕ → ℕ → Bool
hits x zero f g = is_fact x (Same f g)
hits x (suc zero) f g = is_fact x (Apart f g)
hits x (suc (suc zero)) f g = is_fact x (Before f g)
hits x (suc (suc (suc zero))) f g = is_fact x (Before g f)
hits x (suc (suc (suc (suc p)))) f g = false

said_with : (test : ℕ → ℕ → Bool) (facts : Facts) (x : Fact) (p f g : ℕ) → said test (with_fact x facts) p f g ≡ (hits x p f g || said test facts p f g)
said_with test facts x zero f g = refl
said_with test facts x (suc zero) f g = refl
said_with test facts x (suc (suc zero)) f g = refl
said_with test facts x (suc (suc (suc zero))) f g = refl
said_with test facts x (suc (suc (suc (suc zero)))) f g = refl
said_with test facts x (suc (suc (suc (suc (suc p))))) f g = refl

-- a fact's bits are said of the fact alone
hit_gone : (test : ℕ → ℕ → Bool) (facts : Facts) (x : Fact) (p f g : ℕ) → ((y : Fact) → is_fact x y ≡ true → facts y ≡ false) → hits x p f g ≡ true → said test facts p f g ≡ false
hit_gone test facts x zero f g gone e = gone (Same f g) e
hit_gone test facts x (suc zero) f g gone e = gone (Apart f g) e
hit_gone test facts x (suc (suc zero)) f g gone e = gone (Before f g) e
hit_gone test facts x (suc (suc (suc zero))) f g gone e = gone (Before g f) e
hit_gone test facts x (suc (suc (suc (suc p)))) f g gone e = absurd (true≢false (sym e))

-- the fact stands at its places
hit1 : (x : Fact) → hits x (plane1 x) (first x) (second x) ≡ true
hit1 (Same f g) = is_fact-same (Same f g)
hit1 (Apart f g) = is_fact-same (Apart f g)
hit1 (Before f g) = is_fact-same (Before f g)

hit2 : (x : Fact) → hits x (plane2 x) (second x) (first x) ≡ true
hit2 (Same f g) = turned_is (Same g f)
hit2 (Apart f g) = turned_is (Apart g f)
hit2 (Before f g) = is_fact-same (Before f g)

-- and at no other
places : (x : Fact) (p f g : ℕ) → hits x p f g ≡ true → Keys p f g (plane1 x) (first x) (second x) ⊎ Keys p f g (plane2 x) (second x) (first x)
places (Same a b) zero f g e =
    or_cases ((a == f) && (b == g)) ((a == g) && (b == f)) e
    (λ h. let k = and_parts (a == f) (b == g) h in inl (refl, sym (eqb-true a f k.0), sym (eqb-true b g k.1)))
    (λ h. let k = and_parts (a == g) (b == f) h in inr (refl, sym (eqb-true b f k.1), sym (eqb-true a g k.0)))
places (Same a b) (suc zero) f g e = absurd (true≢false (sym e))
places (Same a b) (suc (suc zero)) f g e = absurd (true≢false (sym e))
places (Same a b) (suc (suc (suc zero))) f g e = absurd (true≢false (sym e))
places (Same a b) (suc (suc (suc (suc p)))) f g e = absurd (true≢false (sym e))
places (Apart a b) zero f g e = absurd (true≢false (sym e))
places (Apart a b) (suc zero) f g e =
    or_cases ((a == f) && (b == g)) ((a == g) && (b == f)) e
    (λ h. let k = and_parts (a == f) (b == g) h in inl (refl, sym (eqb-true a f k.0), sym (eqb-true b g k.1)))
    (λ h. let k = and_parts (a == g) (b == f) h in inr (refl, sym (eqb-true b f k.1), sym (eqb-true a g k.0)))
places (Apart a b) (suc (suc zero)) f g e = absurd (true≢false (sym e))
places (Apart a b) (suc (suc (suc zero))) f g e = absurd (true≢false (sym e))
places (Apart a b) (suc (suc (suc (suc p)))) f g e = absurd (true≢false (sym e))
places (Before a b) zero f g e = absurd (true≢false (sym e))
places (Before a b) (suc zero) f g e = absurd (true≢false (sym e))
places (Before a b) (suc (suc zero)) f g e = let k = and_parts (a == f) (b == g) e in inl (refl, sym (eqb-true a f k.0), sym (eqb-true b g k.1))
places (Before a b) (suc (suc (suc zero))) f g e = let k = and_parts (a == g) (b == f) e in inr (refl, sym (eqb-true b f k.1), sym (eqb-true a g k.0))
places (Before a b) (suc (suc (suc (suc p)))) f g e = absurd (true≢false (sym e))

module _ (n : ℕ) (x : Fact) (v : Bool) (rows : List ℕ) (lf : first x ≤ n) (ls : second x ≤ n) (long : length rows ≡ all_words n) where
  lg : second x / 64 ≤ n / 64
  lg = omega (arith, ls)

  lh : first x / 64 ≤ n / 64
  lh = omega (arith, lf)

  in1 : word_of n (plane1 x) (first x) (second x) < length rows
  in1 = let h : word_of n (plane1 x) (first x) (second x) < all_words n = word_below n (plane1 x) (first x) (second x) (plane1_small x) lf lg in subst (λ m. word_of n (plane1 x) (first x) (second x) < m) (sym long) h

  in2 : word_of n (plane2 x) (second x) (first x) < length (put n (plane1 x) (first x) (second x) v rows)
  in2 = let h : word_of n (plane2 x) (second x) (first x) < all_words n = word_below n (plane2 x) (second x) (first x) (plane2_small x) ls lh in subst (λ m. word_of n (plane2 x) (second x) (first x) < m) (sym (length-set rows (word_of n (plane1 x) (first x) (second x)) (put_in (get_or rows (word_of n (plane1 x) (first x) (second x)) 0) (second x % 64) v) ∙ long)) h

  put_long : length (both_put n x v rows) ≡ all_words n
  put_long = length-set (put n (plane1 x) (first x) (second x) v rows) _ _ ∙ (length-set rows _ _ ∙ long)

  at2 : bit_of n (both_put n x v rows) (plane2 x) (second x) (first x) ≡ bit v
  at2 = put-same n (plane2 x) (second x) (first x) v (put n (plane1 x) (first x) (second x) v rows) in2

  at1 : bit_of n (both_put n x v rows) (plane1 x) (first x) (second x) ≡ bit v
  at1 =
      by_bool ((plane1 x == plane2 x) && ((first x == second x) && (second x == first x)))
      (λ e. let h = and_parts (plane1 x == plane2 x) ((first x == second x) && (second x == first x)) e in
      let k = and_parts (first x == second x) (second x == first x) h.1 in
      subst (λ p. bit_of n (both_put n x v rows) p (first x) (second x) ≡ bit v) (sym (eqb-true (plane1 x) (plane2 x) h.0))
      (subst (λ s. bit_of n (both_put n x v rows) (plane2 x) s (second x) ≡ bit v) (sym (eqb-true (first x) (second x) k.0))
      (subst (λ s. bit_of n (both_put n x v rows) (plane2 x) (second x) s ≡ bit v) (sym (eqb-true (second x) (first x) k.1)) at2)))
      (λ e. put-other n (plane2 x) (second x) (first x) (plane1 x) (first x) (second x) v (put n (plane1 x) (first x) (second x) v rows) in2 ls lh lf lg
      (λ k. true≢false (sym (and_from (plane1 x == plane2 x) ((first x == second x) && (second x == first x)) (eq-eqb (plane1 x) (plane2 x) k.0) (and_from (first x == second x) (second x == first x) (eq-eqb (first x) (second x) k.1) (eq-eqb (second x) (first x) k.2))) ∙ e))
      ∙ put-same n (plane1 x) (first x) (second x) v rows in1)

  marked : (p f g : ℕ) → hits x p f g ≡ true → bit_of n (both_put n x v rows) p f g ≡ bit v
  marked p f g e =
      ⊎_elim
      (λ (k : Keys p f g (plane1 x) (first x) (second x)). move p f g (plane1 x) (first x) (second x) k at1)
      (λ (k : Keys p f g (plane2 x) (second x) (first x)). move p f g (plane2 x) (second x) (first x) k at2)
      (places x p f g e)
    where
      move : (p f g q h j : ℕ) → Keys p f g q h j → bit_of n (both_put n x v rows) q h j ≡ bit v → bit_of n (both_put n x v rows) p f g ≡ bit v
      move p f g q h j k t =
          subst (λ a. bit_of n (both_put n x v rows) a f g ≡ bit v) (sym k.0)
          (subst (λ b. bit_of n (both_put n x v rows) q b g ≡ bit v) (sym k.1)
          (subst (λ c. bit_of n (both_put n x v rows) q h c ≡ bit v) (sym k.2) t))

  unmarked : (p f g : ℕ) → f ≤ n → g / 64 ≤ n / 64 → hits x p f g ≡ false → bit_of n (both_put n x v rows) p f g ≡ bit_of n rows p f g
  unmarked p f g lf' lg' e =
      put-other n (plane2 x) (second x) (first x) p f g v (put n (plane1 x) (first x) (second x) v rows) in2 ls lh lf' lg'
      (λ k. true≢false (sym (here (plane2 x) (second x) (first x) k (hit2 x)) ∙ e))
      ∙ put-other n (plane1 x) (first x) (second x) p f g v rows in1 lf lg lf' lg'
      (λ k. true≢false (sym (here (plane1 x) (first x) (second x) k (hit1 x)) ∙ e))
    where
      here : (q h j : ℕ) → Keys p f g q h j → hits x q h j ≡ true → hits x p f g ≡ true
      here q h j k t =
          subst (λ a. hits x a f g ≡ true) (sym k.0) (subst (λ b. hits x q b g ≡ true) (sym k.1) (subst (λ c. hits x q h c ≡ true) (sym k.2) t))

pub rows_add : (n : ℕ) (test : ℕ → ℕ → Bool) (rows rows' : List ℕ) (facts : Facts) (x : Fact) → first x ≤ n → second x ≤ n → rows' ≡ rows_with n x true rows → AreRowed n test rows facts → AreRowed n test rows' (with_fact x facts)
rows_add n test rows rows' facts x a b is r =
    subst (λ t. AreRowed n test t (with_fact x facts)) (sym (is ∙ both_is n x true rows))
    (record {
      long = put_long n x true rows a b r.long;
      right = λ p f g l of og. by_bool (hits x p f g)
          (λ e. marked n x true rows a b r.long p f g e ∙ ap bit (sym (said_with test facts x p f g ∙ or_left (hits x p f g) (said test facts p f g) e)))
          (λ e. unmarked n x true rows a b r.long p f g of og e ∙ (r.right p f g l of og ∙ ap bit (sym (said_with test facts x p f g ∙ ap (λ t. t || said test facts p f g) e))));
    })

pub rows_drop : (n : ℕ) (test : ℕ → ℕ → Bool) (rows rows' : List ℕ) (facts : Facts) (x : Fact) → first x ≤ n → second x ≤ n → facts x ≡ false → IsSymmetric facts → rows' ≡ rows_with n x false rows → AreRowed n test rows (with_fact x facts) → AreRowed n test rows' facts
rows_drop n test rows rows' facts x a b isnt s is r =
    subst (λ t. AreRowed n test t facts) (sym (is ∙ both_is n x false rows))
    (record {
      long = put_long n x false rows a b r.long;
      right = λ p f g l of og. by_bool (hits x p f g)
          (λ e. marked n x false rows a b r.long p f g e ∙ ap bit (sym (hit_gone test facts x p f g gone e)))
          (λ e. unmarked n x false rows a b r.long p f g of og e ∙ (r.right p f g l of og ∙ ap bit (said_with test facts x p f g ∙ ap (λ t. t || said test facts p f g) e)));
    })
  where
    back : (y : Fact) → is_fact x y ≡ true → is_fact y x ≡ true
    back y e = same_or_turned x y e (is_fact y x ≡ true) (λ s. subst (λ z. is_fact z x ≡ true) (sym s) (is_fact-same x)) (λ s. subst (λ z. is_fact z x ≡ true) (sym s) (turned_is x))

    gone : (y : Fact) → is_fact x y ≡ true → facts y ≡ false
    gone y e = by_bool (facts y) (λ t. absurd (true≢false (sym (s y x (back y e) t) ∙ isnt))) (λ f. f)

-- the bits of two operations of which the second ends a base of which the first has a view
pub user_rows : (n : ℕ) (test : ℕ → ℕ → Bool) (rows : List ℕ) (facts : Facts) (u g : ℕ) → u ≤ n → g ≤ n → AreRowed n test rows facts → AreRowed n (λ f h. ((u == f) && (g == h)) || test f h) (put n 5 g u true (put n 4 u g true rows)) facts
user_rows n test rows facts u g lu lg r =
    record {
      long = length-set (put n 4 u g true rows) _ _ ∙ (length-set rows _ _ ∙ r.long);
      right = at;
    }
  where
    gu : u / 64 ≤ n / 64
    gu = omega (arith, lu)

    gg : g / 64 ≤ n / 64
    gg = omega (arith, lg)

    in4 : word_of n 4 u g < length rows
    in4 = subst (λ m. word_of n 4 u g < m) (sym r.long) (word_below n 4 u g (omega arith) lu gg)

    in5 : word_of n 5 g u < length (put n 4 u g true rows)
    in5 = subst (λ m. word_of n 5 g u < m) (sym (length-set rows (word_of n 4 u g) (put_in (get_or rows (word_of n 4 u g) 0) (g % 64) true) ∙ r.long)) (word_below n 5 g u (omega arith) lg gu)

    past5 : (p f h : ℕ) → f ≤ n → h / 64 ≤ n / 64 → (Keys p f h 5 g u → ⊥) → bit_of n (put n 5 g u true (put n 4 u g true rows)) p f h ≡ bit_of n (put n 4 u g true rows) p f h
    past5 p f h a b ne = put-other n 5 g u p f h true (put n 4 u g true rows) in5 lg gu a b ne

    past4 : (p f h : ℕ) → f ≤ n → h / 64 ≤ n / 64 → (Keys p f h 4 u g → ⊥) → bit_of n (put n 4 u g true rows) p f h ≡ bit_of n rows p f h
    past4 p f h a b ne = put-other n 4 u g p f h true rows in4 lu gg a b ne

    past : (p f h : ℕ) → p < 4 → f ≤ n → h / 64 ≤ n / 64 → bit_of n (put n 5 g u true (put n 4 u g true rows)) p f h ≡ bit_of n rows p f h
    past p f h l a b = past5 p f h a b (λ k. absurd (omega (arith, l, k.0))) ∙ past4 p f h a b (λ k. absurd (omega (arith, l, k.0)))

    new : (b c : Bool) → b ≡ true → bit true ≡ bit (b || c)
    new b c e = ap bit (sym (or_left b c e))

    old : (b c : Bool) → b ≡ false → bit c ≡ bit (b || c)
    old b c e = ap bit (sym (ap (λ t. t || c) e))

    at4 : (f h : ℕ) → f ≤ n → h / 64 ≤ n / 64 → bit_of n (put n 5 g u true (put n 4 u g true rows)) 4 f h ≡ bit (((u == f) && (g == h)) || test f h)
    at4 f h a b =
        past5 4 f h a b (λ k. absurd (omega (arith, k.0)))
        ∙ by_bool ((u == f) && (g == h))
        (λ e. let k = and_parts (u == f) (g == h) e in
        subst (λ x. bit_of n (put n 4 u g true rows) 4 x h ≡ bit true) (eqb-true u f k.0) (subst (λ y. bit_of n (put n 4 u g true rows) 4 u y ≡ bit true) (eqb-true g h k.1) (put-same n 4 u g true rows in4)) ∙ new ((u == f) && (g == h)) (test f h) e)
        (λ e. past4 4 f h a b (λ k. true≢false (sym (and_from (u == f) (g == h) (eq-eqb u f (sym k.1)) (eq-eqb g h (sym k.2))) ∙ e)) ∙ (r.right 4 f h (omega arith) a b ∙ old ((u == f) && (g == h)) (test f h) e))

    at5 : (f h : ℕ) → f ≤ n → h / 64 ≤ n / 64 → bit_of n (put n 5 g u true (put n 4 u g true rows)) 5 f h ≡ bit (((u == h) && (g == f)) || test h f)
    at5 f h a b =
        by_bool ((u == h) && (g == f))
        (λ e. let k = and_parts (u == h) (g == f) e in
        subst (λ x. bit_of n (put n 5 g u true (put n 4 u g true rows)) 5 x h ≡ bit true) (eqb-true g f k.1) (subst (λ y. bit_of n (put n 5 g u true (put n 4 u g true rows)) 5 g y ≡ bit true) (eqb-true u h k.0) (put-same n 5 g u true (put n 4 u g true rows) in5)) ∙ new ((u == h) && (g == f)) (test h f) e)
        (λ e. past5 5 f h a b (λ k. true≢false (sym (and_from (u == h) (g == f) (eq-eqb u h (sym k.2)) (eq-eqb g f (sym k.1))) ∙ e)) ∙ (past4 5 f h a b (λ k. absurd (omega (arith, k.0))) ∙ (r.right 5 f h (omega arith) a b ∙ old ((u == h) && (g == f)) (test h f) e)))

    at : (p f h : ℕ) → p < 6 → f ≤ n → h / 64 ≤ n / 64 → bit_of n (put n 5 g u true (put n 4 u g true rows)) p f h ≡ bit (said (λ f h. ((u == f) && (g == h)) || test f h) facts p f h)
    at zero f h l a b = past 0 f h (omega arith) a b ∙ r.right 0 f h (omega arith) a b
    at (suc zero) f h l a b = past 1 f h (omega arith) a b ∙ r.right 1 f h (omega arith) a b
    at (suc (suc zero)) f h l a b = past 2 f h (omega arith) a b ∙ r.right 2 f h (omega arith) a b
    at (suc (suc (suc zero))) f h l a b = past 3 f h (omega arith) a b ∙ r.right 3 f h (omega arith) a b
    at (suc (suc (suc (suc zero)))) f h l a b = at4 f h a b
    at (suc (suc (suc (suc (suc zero))))) f h l a b = at5 f h a b
    at (suc (suc (suc (suc (suc (suc p)))))) f h l a b = absurd (omega (arith, l))

-- rows of zeros know nothing
pub no_rows : (n : ℕ) (rows : List ℕ) → rows ≡ replicate (all_words n) 0 → AreRowed n no_test rows no_facts
no_rows n rows is =
    record {
      long = ap length is ∙ length-replicate (all_words n) 0;
      right = λ p f g l a b. ap (λ xs. bit_of n xs p f g) is ∙ (ap (λ w. bit_at w (g % 64)) (zeros (all_words n) (word_of n p f g)) ∙ (bit_at-zero (g % 64) ∙ nothing p f g));
    }
  where
    zeros : (m i : ℕ) → ◌≡◌ {A = ℕ} (get_or (replicate m 0) i 0) 0
    zeros zero i = refl
    zeros (suc m) zero = refl
    zeros (suc m) (suc i) = zeros m i

    nothing : (p f g : ℕ) → ◌≡◌ {A = ℕ} 0 (bit (said no_test no_facts p f g))
    nothing zero f g = refl
    nothing (suc zero) f g = refl
    nothing (suc (suc zero)) f g = refl
    nothing (suc (suc (suc zero))) f g = refl
    nothing (suc (suc (suc (suc zero)))) f g = refl
    nothing (suc (suc (suc (suc (suc p))))) f g = refl
