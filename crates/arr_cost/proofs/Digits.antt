-- The bits of words, and sums of weights.
use Rattle.std.proofs.Common.{◌≡◌, ℕ, zero, suc, ◌+◌, ◌-◌, ◌*◌, ◌/◌, ◌%◌, ◌^◌, ◌<◌, ◌≤◌, List, [], ◌∷◌, Bool, true, false, cond, not, ◌&&◌, ◌||◌, length, get_or, min, max, refl, ap, ap₂, sym, ◌∙◌, arith, w64, eq-eqb}
use Rattle.std.specs.Prelude.{◌==◌, bit_and, bit_or, nat_lt}
use Rattle.std.specs.Int.{bit_at, trailing_zeros}
use Rattle.std.proofs.lemmas.Bool.{eqb-true, false≢true, ltb-false, ltb-true, ne_eqb}
use Rattle.std.proofs.lemmas.Nat.{div-add-mod', mod_below, pow_pos, shr-shr, shr_le}
use Rattle.std.proofs.lemmas.Nat.Bits.{bit_at-lt, bit_at-zero, bit_at-trailing_zeros, bit_at_above, bit_at_cat_high, bit_at_and, bit_at_not, bit_at_or, bit_at_set_other, bit_at_set_same}
use Rattle.arr_cost.specs.Footprints.{has_bit, span}

-- ---- bits

least_one : (x y : ℕ) → x < 2 → y < 2 → (min x y == 1) ≡ ((x == 1) && (y == 1))
least_one zero y a b = ap (λ n. n == 1) (let e : min zero y ≡ 0 = omega arith in e)
least_one (suc zero) zero a b = ap (λ n. n == 1) (let e : min 1 0 ≡ 0 = omega arith in e)
least_one (suc zero) (suc zero) a b = ap (λ n. n == 1) (let e : min 1 1 ≡ 1 = omega arith in e)
least_one (suc zero) (suc (suc y)) a b = absurd (omega arith)
least_one (suc (suc x)) y a b = absurd (omega arith)

most_one : (x y : ℕ) → x < 2 → y < 2 → (max x y == 1) ≡ ((x == 1) || (y == 1))
most_one zero y a b = ap (λ n. n == 1) (let e : max zero y ≡ y = omega arith in e)
most_one (suc zero) y a b = ap (λ n. n == 1) (let e : max 1 y ≡ 1 = omega arith in e)
most_one (suc (suc x)) y a b = absurd (omega arith)

other_one : (x : ℕ) → x < 2 → (1 - x == 1) ≡ not (x == 1)
other_one zero a = refl
other_one (suc zero) a = refl
other_one (suc (suc x)) a = absurd (omega arith)

pub and_bit : (a b i : ℕ) → has_bit (bit_and a b) i ≡ (has_bit a i && has_bit b i)
and_bit a b i = ap (λ n. n == 1) (bit_at_and a b i) ∙ least_one (bit_at a i) (bit_at b i) (bit_at-lt a i) (bit_at-lt b i)

pub or_bit : (a b i : ℕ) → has_bit (bit_or a b) i ≡ (has_bit a i || has_bit b i)
or_bit a b i = ap (λ n. n == 1) (bit_at_or a b i) ∙ most_one (bit_at a i) (bit_at b i) (bit_at-lt a i) (bit_at-lt b i)

pub not_bit : (n i : ℕ) → n < 2 ^ 64 → i < 64 → has_bit (18446744073709551615 - n) i ≡ not (has_bit n i)
not_bit n i l h = ap (λ k. k == 1) (bit_at_not w64 n i l h) ∙ other_one (bit_at n i) (bit_at-lt n i)

pub no_bit : (i : ℕ) → has_bit 0 i ≡ false
no_bit i = ap (λ n. n == 1) (bit_at-zero i)

-- a word with one bit more
pub more_bit : (w k i : ℕ) → k < 64 → i < 64 → has_bit (bit_or w (1 * 2 ^ k % 2 ^ 64)) i ≡ (has_bit w i || (k == i))
more_bit w k i l h =
    elim (k == i) as (λ b. (k == i) ≡ b → has_bit (bit_or w (1 * 2 ^ k % 2 ^ 64)) i ≡ (has_bit w i || b)) [
      | true ↦ λ e. ap (has_bit (bit_or w (1 * 2 ^ k % 2 ^ 64))) (sym (eqb-true k i e)) ∙ ap (λ n. n == 1) (bit_at_set_same w64 w k l) ∙ sym (or_true (has_bit w i))
      | false ↦ λ e. ap (λ n. n == 1) (bit_at_set_other w64 w k l i (λ z. let z' : i ≡ k = z in false≢true (sym e ∙ eq-eqb k i (omega arith)))) ∙ sym (or_false (has_bit w i))
    ] refl
  where
    or_true : (b : Bool) → (b || true) ≡ true
    or_true true = refl
    or_true false = refl

    or_false : (b : Bool) → (b || false) ≡ b
    or_false true = refl
    or_false false = refl

pub one_bit : (k i : ℕ) → k < 64 → i < 64 → has_bit (1 * 2 ^ k % 2 ^ 64) i ≡ (k == i)
one_bit k i l h = sym (ap (λ b. b || has_bit (1 * 2 ^ k % 2 ^ 64) i) (no_bit i)) ∙ sym (or_bit 0 (1 * 2 ^ k % 2 ^ 64) i) ∙ more_bit 0 k i l h ∙ ap (λ b. b || (k == i)) (no_bit i)

-- ---- sums

pub span_alike : (ws : List ℕ) (first n : ℕ) (p q : ℕ → Bool) → ((i : ℕ) → i < n → p i ≡ q i) → span ws first n p ≡ span ws first n q
unfolding span
span_alike ws first zero p q h = refl
span_alike ws first (suc n) p q h = ap₂ (λ s b. s + cond b (get_or ws (first + n) 0) 0) (span_alike ws first n p q (λ i l. h i (omega arith))) (h n (omega arith))

pub span_none : (ws : List ℕ) (first n : ℕ) (p : ℕ → Bool) → ((i : ℕ) → i < n → p i ≡ false) → span ws first n p ≡ 0
unfolding span
span_none ws first zero p h = refl
span_none ws first (suc n) p h = ap₂ (λ s b. s + cond b (get_or ws (first + n) 0) 0) (span_none ws first n p (λ i l. h i (omega arith))) (h n (omega arith)) ∙ (let e : 0 + 0 ≡ 0 = omega arith in e)

pub span_more : (ws : List ℕ) (a n : ℕ) (p : ℕ → Bool) → span ws 0 (a + n) p ≡ span ws 0 a p + span ws a n (λ i. p (a + i))
unfolding span
span_more ws a zero p =
    let e : a + 0 ≡ a = omega arith in
    ap (λ k. span ws 0 k p) e ∙ (let z : span ws 0 a p ≡ span ws 0 a p + 0 = omega arith in z)
span_more ws a (suc n) p =
    let e : a + suc n ≡ suc (a + n) = omega arith in
    let ih : span ws 0 (a + n) p ≡ span ws 0 a p + span ws a n (λ i. p (a + i)) = span_more ws a n p in
    let same : cond (p (a + n)) (get_or ws (0 + (a + n)) 0) 0 ≡ cond (p (a + n)) (get_or ws (a + n) 0) 0 = ap (λ k. cond (p (a + n)) (get_or ws k 0) 0) (let z : 0 + (a + n) ≡ a + n = omega arith in z) in
    ap (λ k. span ws 0 k p) e ∙ omega arith

-- places that don't pass add nothing
pub span_rest : (ws : List ℕ) (first n m : ℕ) (p : ℕ → Bool) → ((i : ℕ) → n ≤ i → i < n + m → p i ≡ false) → span ws first (n + m) p ≡ span ws first n p
unfolding span
span_rest ws first n zero p h = ap (λ k. span ws first k p) (let e : n + 0 ≡ n = omega arith in e)
span_rest ws first n (suc m) p h =
    let e : n + suc m ≡ suc (n + m) = omega arith in
    let before : span ws first (n + m) p ≡ span ws first n p = span_rest ws first n m p (λ i a b. h i a (omega arith)) in
    let none : cond (p (n + m)) (get_or ws (first + (n + m)) 0) 0 ≡ 0 = ap (λ b. cond b (get_or ws (first + (n + m)) 0) 0) (h (n + m) (omega arith) (omega arith)) in
    ap (λ k. span ws first k p) e ∙ (let z : span ws first (n + m) p + cond (p (n + m)) (get_or ws (first + (n + m)) 0) 0 ≡ span ws first n p = omega arith in z)

-- the bits of a word that is shifted
pub bit_behind : (word d j : ℕ) → bit_at word (d + j) ≡ bit_at (word / 2 ^ d) j
bit_behind word d j =
    ap (λ n. bit_at n (d + j)) (sym (div-add-mod' word (2 ^ d)))
    ∙ bit_at_cat_high (word / 2 ^ d) d (word % 2 ^ d) (d + j) (mod_below word (2 ^ d) (pow_pos d)) (omega arith)
    ∙ ap (bit_at (word / 2 ^ d)) (let e : d + j - d ≡ j = omega arith in e)

pub span_small : (ws : List ℕ) (first n : ℕ) (p : ℕ → Bool) → ((c : ℕ) → get_or ws c 0 ≤ 8388608) → span ws first n p ≤ n * 8388608
unfolding span
span_small ws first zero p h = omega arith
span_small ws first (suc n) p h =
    let ih : span ws first n p ≤ n * 8388608 = span_small ws first n p h in
    let w : get_or ws (first + n) 0 ≤ 8388608 = h (first + n) in
    elim (p n) as (λ b. span ws first n p + cond b (get_or ws (first + n) 0) 0 ≤ suc n * 8388608) [ true ↦ omega arith | false ↦ omega arith ]

past_end : (ws : List ℕ) (c : ℕ) → length ws ≤ c → get_or ws c 0 ≡ 0
past_end [] c l = refl
past_end (w ∷ ws) zero l = absurd (omega arith)
past_end (w ∷ ws) (suc c) l = past_end ws c (omega arith)

-- what stands past the weights adds nothing
pub span_within : (ws : List ℕ) (n : ℕ) (p q : ℕ → Bool) → ((i : ℕ) → i < length ws → p i ≡ q i) → span ws 0 n p ≡ span ws 0 n q
unfolding span
span_within ws zero p q h = refl
span_within ws (suc n) p q h =
    let ih : span ws 0 n p ≡ span ws 0 n q = span_within ws n p q h in
    elim (nat_lt n (length ws)) as (λ b. nat_lt n (length ws) ≡ b → span ws 0 (suc n) p ≡ span ws 0 (suc n) q) [
      | true ↦ λ e. ap₂ (λ s b. s + cond b (get_or ws (0 + n) 0) 0) ih (h n (ltb n (length ws) e))
      | false ↦ λ e.
          let none : get_or ws (0 + n) 0 ≡ 0 = past_end ws (0 + n) (let l : length ws ≤ n = lfb n (length ws) e in omega arith) in
          let a : cond (p n) (get_or ws (0 + n) 0) 0 ≡ 0 = nothing (p n) (get_or ws (0 + n) 0) none in
          let b : cond (q n) (get_or ws (0 + n) 0) 0 ≡ 0 = nothing (q n) (get_or ws (0 + n) 0) none in
          ap₂ (λ s k. s + k) ih (a ∙ sym b)
    ] refl
  where
    nothing : (b : Bool) (w : ℕ) → w ≡ 0 → cond b w 0 ≡ 0
    nothing true w e = e
    nothing false w e = refl

    ltb : (a b : ℕ) → nat_lt a b ≡ true → a < b
    ltb a b e = ltb-true a b e

    lfb : (a b : ℕ) → nat_lt a b ≡ false → b ≤ a
    lfb a b e = ltb-false a b e

pub span_longer : (ws : List ℕ) (n : ℕ) (p : ℕ → Bool) → length ws ≤ n → span ws 0 n p ≡ span ws 0 (length ws) p
unfolding span
span_longer ws n p l =
    let m : ℕ = n - length ws in
    let e : n ≡ length ws + m = omega arith in
    let none : span ws (length ws) m (λ i. p (length ws + i)) ≡ 0 = rest m in
    ap (λ k. span ws 0 k p) e ∙ span_more ws (length ws) m p ∙ omega arith
  where
    rest : (m : ℕ) → span ws (length ws) m (λ i. p (length ws + i)) ≡ 0
    rest zero = refl
    rest (suc m) =
        let ih : span ws (length ws) m (λ i. p (length ws + i)) ≡ 0 = rest m in
        let none : get_or ws (length ws + m) 0 ≡ 0 = past_end ws (length ws + m) (omega arith) in
        elim (p (length ws + m)) as (λ b. span ws (length ws) m (λ i. p (length ws + i)) + cond b (get_or ws (length ws + m) 0) 0 ≡ 0) [ true ↦ omega arith | false ↦ omega arith ]

-- what two save as one
pub span_saved : (ws : List ℕ) (n : ℕ) (s t u : ℕ → Bool) → ((i : ℕ) → i < length ws → u i ≡ true → (s i || t i) ≡ true)
    → span ws 0 n u + (span ws 0 n (λ i. s i && t i) + span ws 0 n (λ i. (s i || t i) && not (u i))) ≡ span ws 0 n s + span ws 0 n t
unfolding span
span_saved ws zero s t u h = refl
span_saved ws (suc n) s t u h =
    let ih : span ws 0 n u + (span ws 0 n (λ i. s i && t i) + span ws 0 n (λ i. (s i || t i) && not (u i))) ≡ span ws 0 n s + span ws 0 n t = span_saved ws n s t u h in
    let w : ℕ = get_or ws (0 + n) 0 in
    let here : cond (u n) w 0 + (cond (s n && t n) w 0 + cond ((s n || t n) && not (u n)) w 0) ≡ cond (s n) w 0 + cond (t n) w 0 = elim (nat_lt n (length ws)) as (λ b. nat_lt n (length ws) ≡ b → cond (u n) w 0 + (cond (s n && t n) w 0 + cond ((s n || t n) && not (u n)) w 0) ≡ cond (s n) w 0 + cond (t n) w 0) [
      | true ↦ λ e. one w (s n) (t n) (u n) (h n (ltb-true n (length ws) e))
      | false ↦ λ e. zeros w (s n) (t n) (u n) (past_end ws (0 + n) (let l : length ws ≤ n = ltb-false n (length ws) e in omega arith))
    ] refl in
    omega arith
  where
    one : (w : ℕ) (a b c : Bool) → (c ≡ true → (a || b) ≡ true) → cond c w 0 + (cond (a && b) w 0 + cond ((a || b) && not c) w 0) ≡ cond a w 0 + cond b w 0
    one w true true true h = omega arith
    one w true true false h = omega arith
    one w true false true h = omega arith
    one w true false false h = omega arith
    one w false true true h = omega arith
    one w false true false h = omega arith
    one w false false true h = absurd (false≢true (h refl))
    one w false false false h = omega arith

    zeros : (w : ℕ) (a b c : Bool) → w ≡ 0 → cond c w 0 + (cond (a && b) w 0 + cond ((a || b) && not c) w 0) ≡ cond a w 0 + cond b w 0
    zeros w true true true h = omega arith
    zeros w true true false h = omega arith
    zeros w true false true h = omega arith
    zeros w true false false h = omega arith
    zeros w false true true h = omega arith
    zeros w false true false h = omega arith
    zeros w false false true h = omega arith
    zeros w false false false h = omega arith

-- one class taken out
pub span_pick : (ws : List ℕ) (n k : ℕ) (p g : ℕ → Bool) → k < n → span ws 0 n (λ c. p c && ((k == c) || g c)) ≡ cond (p k) (get_or ws k 0) 0 + span ws 0 n (λ c. (not (k == c) && p c) && g c)
unfolding span
span_pick ws zero k p g l = absurd (omega arith)
span_pick ws (suc n) k p g l =
    elim (k == n) as (λ b. (k == n) ≡ b → span ws 0 (suc n) (λ c. p c && ((k == c) || g c)) ≡ cond (p k) (get_or ws k 0) 0 + span ws 0 (suc n) (λ c. (not (k == c) && p c) && g c)) [
      | true ↦ λ e.
          let same : k ≡ n = eqb-true k n e in
          let below : span ws 0 n (λ c. p c && ((k == c) || g c)) ≡ span ws 0 n (λ c. (not (k == c) && p c) && g c) = span_alike ws 0 n (λ c. p c && ((k == c) || g c)) (λ c. (not (k == c) && p c) && g c) (λ c m. apart c (omega arith)) in
          let left : cond (p n && ((k == n) || g n)) (get_or ws (0 + n) 0) 0 ≡ cond (p k) (get_or ws k 0) 0
          = ap (λ b. cond (p n && (b || g n)) (get_or ws (0 + n) 0) 0) e ∙ ap (λ b. cond b (get_or ws (0 + n) 0) 0) (and_true (p n)) ∙ ap₂ (λ i j. cond (p i) (get_or ws j 0) 0) (sym same) (let z : 0 + n ≡ k = omega arith in z) in
          let right : cond ((not (k == n) && p n) && g n) (get_or ws (0 + n) 0) 0 ≡ 0 = ap (λ b. cond ((not b && p n) && g n) (get_or ws (0 + n) 0) 0) e in
          omega arith
      | false ↦ λ e.
          let less : k < n = lesser k n l e in
          let ih : span ws 0 n (λ c. p c && ((k == c) || g c)) ≡ cond (p k) (get_or ws k 0) 0 + span ws 0 n (λ c. (not (k == c) && p c) && g c) = span_pick ws n k p g less in
          let here : cond (p n && ((k == n) || g n)) (get_or ws (0 + n) 0) 0 ≡ cond ((not (k == n) && p n) && g n) (get_or ws (0 + n) 0) 0
          = ap (λ b. cond (p n && (b || g n)) (get_or ws (0 + n) 0) 0) e ∙ sym (ap (λ b. cond ((not b && p n) && g n) (get_or ws (0 + n) 0) 0) e) in
          omega arith
    ] refl
  where
    and_true : (b : Bool) → (b && true) ≡ b
    and_true true = refl
    and_true false = refl

    lesser : (a b : ℕ) → a < suc b → (a == b) ≡ false → a < b
    lesser a b m e = elim (nat_lt a b) as (λ t. nat_lt a b ≡ t → a < b) [
      | true ↦ λ f. ltb-true a b f
      | false ↦ λ f. absurd (let h : b ≤ a = ltb-false a b f in false≢true (sym e ∙ eq-eqb a b (omega arith)))
    ] refl

    apart : (c : ℕ) → c < k → (p c && ((k == c) || g c)) ≡ ((not (k == c) && p c) && g c)
    apart c m =
        let e : (k == c) ≡ false = ne_eqb k c (λ z. let y : k ≡ c = z in absurd (omega arith)) in
        ap (λ a. p c && (a || g c)) e ∙ sym (ap (λ a. (not a && p c) && g c) e)

pub span_next : (ws : List ℕ) (first n : ℕ) (p : ℕ → Bool) → span ws first (n + 1) p ≡ span ws first n p + cond (p n) (get_or ws (first + n) 0) 0
unfolding span
span_next ws first n p = ap (λ k. span ws first k p) (let e : n + 1 ≡ suc n = omega arith in e)

pub span_zero : (ws : List ℕ) (p q : ℕ → Bool) → 0 ≡ span ws 0 0 p + span ws 0 0 q
unfolding span
span_zero ws p q = let e : 0 ≡ 0 + 0 = omega arith in e

-- the lowest bit that is left: below it there is none
pub lowest_left : (word d left : ℕ) → word < 2 ^ 64 → left ≡ word / 2 ^ d → 0 < left
    → (d + trailing_zeros w64 left < 64) × (has_bit word (d + trailing_zeros w64 left) ≡ true) × ((i : ℕ) → d ≤ i → i < d + trailing_zeros w64 left → has_bit word i ≡ false)
lowest_left word d left small is some =
    let fits : left < 2 ^ 64 = (let a : word / 2 ^ d ≤ word = shr_le word d in omega arith) in
    let z = bit_at-trailing_zeros w64 left some fits in
    let one : bit_at word (d + trailing_zeros w64 left) ≡ 1 = bit_behind word d (trailing_zeros w64 left) ∙ ap (λ n. bit_at n (trailing_zeros w64 left)) (sym is) ∙ z.1 in (
      elim (nat_lt (d + trailing_zeros w64 left) 64) as (λ b. nat_lt (d + trailing_zeros w64 left) 64 ≡ b → d + trailing_zeros w64 left < 64) [
        | true ↦ λ e. ltb-true (d + trailing_zeros w64 left) 64 e
        | false ↦ λ e. let none : bit_at word (d + trailing_zeros w64 left) ≡ 0 = bit_at_above word 64 (d + trailing_zeros w64 left) small (ltb-false (d + trailing_zeros w64 left) 64 e) in absurd (omega arith)
      ] refl,
      ap (λ n. n == 1) one,
      λ i low high.
          ap (λ n. n == 1)
          (ap (bit_at word) (let e : i ≡ d + (i - d) = omega arith in e) ∙ bit_behind word d (i - d) ∙ ap (λ n. bit_at n (i - d)) (sym is) ∙ z.2 (i - d) (omega arith)),
    )

-- the sum goes on to the lowest bit that is left
pub span_step : (ws : List ℕ) (first word d left : ℕ) → word < 2 ^ 64 → left ≡ word / 2 ^ d → 0 < left
    → span ws first (d + (trailing_zeros w64 left + 1)) (has_bit word) ≡ span ws first d (has_bit word) + get_or ws (first + d + trailing_zeros w64 left) 0
span_step ws first word d left small is some =
    let z = lowest_left word d left small is some in
    ap (λ n. span ws first n (has_bit word)) (let e : d + (trailing_zeros w64 left + 1) ≡ d + trailing_zeros w64 left + 1 = omega arith in e)
    ∙ span_next ws first (d + trailing_zeros w64 left) (has_bit word)
    ∙ ap₂ (λ s b. s + cond b (get_or ws (first + (d + trailing_zeros w64 left)) 0) 0) (span_rest ws first d (trailing_zeros w64 left) (has_bit word) z.2) z.1
    ∙ ap (λ n. span ws first d (has_bit word) + get_or ws n 0) (let e : first + (d + trailing_zeros w64 left) ≡ first + d + trailing_zeros w64 left = omega arith in e)

-- where no bit is left the sum is whole
pub span_end : (ws : List ℕ) (first word d : ℕ) → d ≤ 64 → word / 2 ^ d ≡ 0 → span ws first 64 (has_bit word) ≡ span ws first d (has_bit word)
span_end ws first word d few none =
    ap (λ n. span ws first n (has_bit word)) (let e : 64 ≡ d + (64 - d) = omega arith in e)
    ∙ span_rest ws first d (64 - d) (has_bit word)
    (λ i low high. ap (λ n. n == 1) (ap (bit_at word) (let e : i ≡ d + (i - d) = omega arith in e) ∙ bit_behind word d (i - d) ∙ ap (λ n. bit_at n (i - d)) none ∙ bit_at-zero (i - d)))

-- what is left behind a bit
pub shifted : (word d left k : ℕ) → left ≡ word / 2 ^ d → left / 2 ^ k / 2 ^ 1 ≡ word / 2 ^ (d + (k + 1))
shifted word d left k is = shr-shr left k 1 ∙ ap (λ n. n / 2 ^ (k + 1)) is ∙ shr-shr word d (k + 1)
