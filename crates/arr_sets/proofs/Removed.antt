-- A number that is taken out of a set, and a pair that is put into one.
use Rattle.std.proofs.Common.{◌≡◌, ◌≢◌, ℕ, zero, suc, ◌+◌, ◌-◌, ◌*◌, ◌/◌, ◌%◌, ◌^◌, ◌<◌, ◌≤◌, List, ◌∷◌, Bool, true, false, length, map, get_or, set, refl, ap, ap₂, sym, ◌∙◌, arith, w64, inl, inr, ◌||◌, ◌&&◌}
use Rattle.std.specs.Prelude.{◌==◌, bit_and}
use Rattle.std.specs.List.{range_with_len}
use Rattle.std.specs.Int.{bit_at, bit_not}
use Rattle.std.proofs.lemmas.Bool.{eqb-true, eqb-false, eq-eqb, ne_eqb, cases_eq}
use Rattle.std.proofs.lemmas.Nat.{mul-add-lt, same_from_place}
use Rattle.std.proofs.lemmas.List.{get_or-set_same, get_or-set_other, get_or_default}
use Rattle.std.proofs.lemmas.Nat.Bits.{bit_at_clear_same, bit_at_clear_other}
use Rattle.arr_sets.specs.Bits.{is_set, members}
use Rattle.arr_sets.specs.Numbers.{place}

-- ---- one number less

unchanged : (f g : ℕ → Bool) (at : ℕ) → ((i : ℕ) → i ≢ at → g i ≡ f i) → (a n : ℕ) → at < a → map g (range_with_len a n) ≡ map f (range_with_len a n)
unchanged f g at other a zero h = refl
unchanged f g at other a (suc n) h = ap₂ (λ x xs. x ∷ xs) (other a (λ e. let e' : a ≡ at = e in omega arith)) (unchanged f g at other (a + 1) n (omega arith))

changed : (b : Bool) (f g : ℕ → Bool) (at : ℕ) → g at ≡ b → ((i : ℕ) → i ≢ at → g i ≡ f i) → (a n k : ℕ) → a + k ≡ at → k < n → map g (range_with_len a n) ≡ set (map f (range_with_len a n)) k b
changed b f g at here other a zero k e h = absurd (omega arith)
changed b f g at here other a (suc n) zero e h =
    ap₂ (λ x xs. x ∷ xs) (ap g (let z : a ≡ at = omega arith in z) ∙ here) (unchanged f g at other (a + 1) n (omega arith))
changed b f g at here other a (suc n) (suc k) e h =
    ap₂ (λ x xs. x ∷ xs) (other a (λ z. let z' : a ≡ at = z in omega arith)) (changed b f g at here other (a + 1) n k (omega arith) (omega arith))

abbrev pub without_bit : List ℕ → ℕ → List ℕ
without_bit words at = set words (at / 64) (bit_and (get_or words (at / 64) 0) (bit_not w64 (1 * 2 ^ (at % 64) % 2 ^ 64)))

bit_here : (words : List ℕ) (at : ℕ) → at / 64 < length words → is_set (without_bit words at) at ≡ false
bit_here words at h =
    ap (λ w. bit_at w (at % 64) == 1) (get_or-set_same words (at / 64) _ 0 h)
    ∙ ap (λ b. b == 1) (bit_at_clear_same w64 (get_or words (at / 64) 0) (at % 64) (omega arith))

bit_other : (words : List ℕ) (at i : ℕ) → at / 64 < length words → i ≢ at → is_set (without_bit words at) i ≡ is_set words i
bit_other words at i h ne =
    elim (i / 64 == at / 64) as (λ b. (i / 64 == at / 64) ≡ b → is_set (without_bit words at) i ≡ is_set words i) [
      | true ↦ λ e.
          let w : i / 64 ≡ at / 64 = eqb-true (i / 64) (at / 64) e in
          ap (λ k. bit_at (get_or (without_bit words at) k 0) (i % 64) == 1) w
          ∙ ap (λ x. bit_at x (i % 64) == 1) (get_or-set_same words (at / 64) _ 0 h)
          ∙ ap (λ b. b == 1) (bit_at_clear_other w64 (get_or words (at / 64) 0) (at % 64) (omega arith) (i % 64) (omega arith) (λ z. let z' : i % 64 ≡ at % 64 = z in ne (omega arith)))
          ∙ ap (λ k. bit_at (get_or words k 0) (i % 64) == 1) (sym w)
      | false ↦ λ e. ap (λ x. bit_at x (i % 64) == 1) (get_or-set_other words (at / 64) (i / 64) _ 0 (λ z. let z' : i / 64 ≡ at / 64 = z in eqb-false (i / 64) (at / 64) e z'))
    ] refl

pub remove_member : (words : List ℕ) (n at w : ℕ) (s : List Bool) → members words n ≡ s → at < n → at / 64 < length words → w ≡ get_or words (at / 64) w
    → members (set words (at / 64) (bit_and w (bit_not w64 (1 * 2 ^ (at % 64) % 2 ^ 64)))) n ≡ set s at false
remove_member words n at w s is h inside word =
    ap (λ x. members (set words (at / 64) (bit_and x (bit_not w64 (1 * 2 ^ (at % 64) % 2 ^ 64)))) n) (word ∙ get_or_default words (at / 64) w 0 inside)
    ∙ changed false (is_set words) (is_set (without_bit words at)) at (bit_here words at inside) (λ i ne. bit_other words at i inside ne) 0 n at (omega arith) h
    ∙ ap (λ m. set m at false) is

pub remove_none : (words : List ℕ) (n at w : ℕ) → at < n → at / 64 < length words → w ≡ get_or words (at / 64) w → ((i : ℕ) → n ≤ i → is_set words i ≡ false)
    → (i : ℕ) → n ≤ i → is_set (set words (at / 64) (bit_and w (bit_not w64 (1 * 2 ^ (at % 64) % 2 ^ 64)))) i ≡ false
remove_none words n at w h inside word none i above =
    ap (λ x. is_set (set words (at / 64) (bit_and x (bit_not w64 (1 * 2 ^ (at % 64) % 2 ^ 64)))) i) (word ∙ get_or_default words (at / 64) w 0 inside)
    ∙ bit_other words at i inside (λ z. let z' : i ≡ at = z in omega arith) ∙ none i above

-- ---- one pair more

pub pair_set : (flags : List Bool) (n f g : ℕ) → length flags ≡ n * n → 0 < f → f ≤ n → 0 < g → g ≤ n → (x y : ℕ) → 0 < x → x ≤ n → 0 < y → y ≤ n
    → get_or (set flags (place n f g) true) (place n x y) false ≡ (get_or flags (place n x y) false || (x == f && y == g))
pair_set flags n f g size lf uf lg ug x y lx ux ly uy =
    elim (cases_eq x f) as (λ _. get_or (set flags (place n f g) true) (place n x y) false ≡ (get_or flags (place n x y) false || (x == f && y == g))) [
      | inl e ↦ elim (cases_eq y g) as (λ _. get_or (set flags (place n f g) true) (place n x y) false ≡ (get_or flags (place n x y) false || (x == f && y == g))) [
        | inl d ↦
            ap₂ (λ i j. get_or (set flags (place n f g) true) (place n i j) false) e d
            ∙ get_or-set_same flags (place n f g) true false (let k : place n f g < n * n = mul-add-lt (f - 1) n (g - 1) n (omega arith) (omega arith) in omega arith)
            ∙ sym (ap₂ (λ s t. get_or flags (place n x y) false || (s && t)) (eq-eqb x f e) (eq-eqb y g d) ∙ or_true (get_or flags (place n x y) false))
        | inr d ↦
            get_or-set_other flags (place n f g) (place n x y) true false (λ k. apart_second (same_from_place (x - 1) (y - 1) (f - 1) (g - 1) n (omega arith) (omega arith) k).1 d)
            ∙ sym (ap (λ t. get_or flags (place n x y) false || ((x == f) && t)) (ne_eqb y g d) ∙ ap (λ t. get_or flags (place n x y) false || t) (and_false (x == f)) ∙ or_false (get_or flags (place n x y) false))
      ]
      | inr e ↦
          get_or-set_other flags (place n f g) (place n x y) true false (λ k. apart_first (same_from_place (x - 1) (y - 1) (f - 1) (g - 1) n (omega arith) (omega arith) k).0 e)
          ∙ sym (ap (λ t. get_or flags (place n x y) false || (t && (y == g))) (ne_eqb x f e) ∙ or_false (get_or flags (place n x y) false))
    ]
  where
    or_true : (b : Bool) → (b || true) ≡ true
    or_true true = refl
    or_true false = refl

    or_false : (b : Bool) → (b || false) ≡ b
    or_false true = refl
    or_false false = refl

    and_false : (b : Bool) → (b && false) ≡ false
    and_false true = refl
    and_false false = refl

    apart_first : x - 1 ≡ f - 1 → x ≢ f → ⊥
    apart_first k ne = ne (omega arith)

    apart_second : y - 1 ≡ g - 1 → y ≢ g → ⊥
    apart_second k ne = ne (omega arith)
