-- Sets of numbers as words: what stands in them after a change.
use Rattle.std.proofs.Common.{◌≡◌, ℕ, zero, suc, ◌+◌, ◌-◌, ◌*◌, ◌/◌, ◌%◌, ◌^◌, ◌<◌, ◌≤◌, List, [], ◌∷◌, ◌++◌, Bool, true, false, not, ◌&&◌, ◌||◌, length, get_or, set, refl, ap, ap₂, sym, ◌∙◌, subst, arith, w64, ⊎_elim}
use Rattle.std.specs.Prelude.{◌==◌, bit_and, bit_or, nat_lt}
use Rattle.std.specs.Int.{bit_at, bit_not, trailing_zeros}
use Rattle.std.proofs.lemmas.Bool.{and_parts, cases_eq, cases_lt, eq-eqb, ne_eqb, false≢true, lt-ltb, ltb-true, false_from_ne_true}
use Rattle.std.proofs.lemmas.List.{get_or-set_same, get_or-set_other, get_or_default, get_or_append_left, get_or-append_right}
use Rattle.std.proofs.lemmas.Nat.{and_le_l}
use Rattle.std.proofs.lemmas.Nat.Bits.{bit_at-zero, bit_at_clear_same, bit_at_clear_other, bit_at-trailing_zeros}
use Rattle.arr_sets.specs.Bits.{is_set}
use Rattle.arr_sets.proofs.Members.{bit_here, bit_other}
use Rattle.arr_cost.specs.Footprints.{has_bit}
use Rattle.arr_cost.proofs.Digits.{and_bit}
use Rattle.arr_bound.specs.Sets.{in_row, IsFirst, NoneFrom}

-- ---- one word

past : (xs : List ℕ) (k : ℕ) → length xs ≤ k → get_or xs k 0 ≡ 0
past [] k h = refl
past (x ∷ xs) zero h = absurd (omega arith)
past (x ∷ xs) (suc k) h = past xs k (omega arith)

-- nothing stands behind the last word
pub none_past : (words : List ℕ) (g : ℕ) → length words ≤ g / 64 → is_set words g ≡ false
none_past words g l = ap (λ w. bit_at w (g % 64) == 1) (past words (g / 64) l) ∙ ap (λ b. b == 1) (bit_at-zero (g % 64))

pub inside : (words : List ℕ) (g : ℕ) → is_set words g ≡ true → g / 64 < length words
inside words g e = ⊎_elim (λ l. l) (λ (h : length words ≤ g / 64). absurd (false≢true (sym (none_past words g h) ∙ e))) (cases_lt (g / 64) (length words))

word_here : (words : List ℕ) (i w g : ℕ) → i < length words → g / 64 ≡ i → is_set (set words i w) g ≡ has_bit w (g % 64)
word_here words i w g l e = ap (λ k. bit_at (get_or (set words i w) k 0) (g % 64) == 1) e ∙ ap (λ x. bit_at x (g % 64) == 1) (get_or-set_same words i w 0 l)

word_other : (words : List ℕ) (i w g : ℕ) → (g / 64 ≡ i → ⊥) → is_set (set words i w) g ≡ is_set words g
word_other words i w g ne = ap (λ x. bit_at x (g % 64) == 1) (get_or-set_other words i (g / 64) w 0 ne)

or_none : (b : Bool) → b ≡ (b || false)
or_none true = refl
or_none false = refl

or_all : (b : Bool) → true ≡ (b || true)
or_all true = refl
or_all false = refl

and_none : (b : Bool) → false ≡ (b && false)
and_none true = refl
and_none false = refl

and_all : (b : Bool) → b ≡ (b && true)
and_all true = refl
and_all false = refl

-- ---- one number more, one less

pub put_is : (words : List ℕ) (f x : ℕ) → f / 64 < length words → x ≡ get_or words (f / 64) x → (g : ℕ) → is_set (set words (f / 64) (bit_or x (1 * 2 ^ (f % 64) % 2 ^ 64))) g ≡ (is_set words g || (f == g))
put_is words f x l is g =
    ap (λ y. is_set (set words (f / 64) (bit_or y (1 * 2 ^ (f % 64) % 2 ^ 64))) g) (is ∙ get_or_default words (f / 64) x 0 l)
    ∙ ⊎_elim
    (λ (e : f ≡ g). subst (λ h. is_set (set words (f / 64) (bit_or (get_or words (f / 64) 0) (1 * 2 ^ (f % 64) % 2 ^ 64))) h ≡ (is_set words h || (f == h))) e
    (bit_here words f l ∙ or_all (is_set words f) ∙ ap (λ b. is_set words f || b) (sym (eq-eqb f f refl))))
    (λ (ne : f ≡ g → ⊥). bit_other words f g l (λ e. ne (sym e)) ∙ or_none (is_set words g) ∙ ap (λ b. is_set words g || b) (sym (ne_eqb f g ne)))
    (cases_eq f g)

pub take_is : (words : List ℕ) (f x : ℕ) → f / 64 < length words → x ≡ get_or words (f / 64) x → (g : ℕ) → is_set (set words (f / 64) (bit_and x (bit_not w64 (1 * 2 ^ (f % 64) % 2 ^ 64)))) g ≡ (is_set words g && not (f == g))
take_is words f x l is g =
    ap (λ y. is_set (set words (f / 64) (bit_and y (bit_not w64 (1 * 2 ^ (f % 64) % 2 ^ 64)))) g) (is ∙ get_or_default words (f / 64) x 0 l)
    ∙ ⊎_elim
    (λ (e : f ≡ g). subst (λ h. is_set now h ≡ (is_set words h && not (f == h))) e
    (word_here words (f / 64) cleared f l refl ∙ ap (λ b. b == 1) (bit_at_clear_same w64 (get_or words (f / 64) 0) (f % 64) (omega arith)) ∙ and_none (is_set words f) ∙ ap (λ b. is_set words f && not b) (sym (eq-eqb f f refl))))
    (λ (ne : f ≡ g → ⊥). other ne ∙ and_all (is_set words g) ∙ ap (λ b. is_set words g && not b) (sym (ne_eqb f g ne)))
    (cases_eq f g)
  where
    cleared : ℕ
    cleared = bit_and (get_or words (f / 64) 0) (bit_not w64 (1 * 2 ^ (f % 64) % 2 ^ 64))

    now : List ℕ
    now = set words (f / 64) cleared

    other : (f ≡ g → ⊥) → is_set now g ≡ is_set words g
    other ne =
        ⊎_elim
        (λ (w : g / 64 ≡ f / 64). word_here words (f / 64) cleared g l w
        ∙ ap (λ b. b == 1) (bit_at_clear_other w64 (get_or words (f / 64) 0) (f % 64) (omega arith) (g % 64) (omega arith) (λ z. let z' : g % 64 ≡ f % 64 = z in ne (omega arith)))
        ∙ ap (λ k. bit_at (get_or words k 0) (g % 64) == 1) (sym w))
        (λ (n : g / 64 ≡ f / 64 → ⊥). word_other words (f / 64) cleared g n)
        (cases_eq (g / 64) (f / 64))

-- ---- a row kept

abbrev pub Kept : List ℕ → ℕ → ℕ → (ℕ → Bool) → ℕ → List ℕ → Type 0
Kept rows width f old index now = (g : ℕ) → is_set now g ≡ (old g && (not (nat_lt (g / 64) index) || in_row width rows f g))

pub kept_none : (rows : List ℕ) (width f : ℕ) (words : List ℕ) → Kept rows width f (is_set words) 0 words
kept_none rows width f words g = and_all (is_set words g) ∙ ap (λ b. is_set words g && (not b || in_row width rows f g)) (sym (no_less (g / 64)))
  where
    no_less : (a : ℕ) → nat_lt a 0 ≡ false
    no_less a = false_from_ne_true (nat_lt a 0) (λ e. let k : a < 0 = ltb-true a 0 e in omega arith)

pub kept_turn : (rows : List ℕ) (width f : ℕ) (old : ℕ → Bool) (index x y : ℕ) (now : List ℕ) → index < length now → x ≡ get_or now index x → y ≡ get_or rows (f * width + index) 0
    → Kept rows width f old index now → Kept rows width f old (index + 1) (set now index (bit_and x y))
kept_turn rows width f old index x y now l is iy kept g = ⊎_elim here there (cases_eq (g / 64) index)
  where
    here : g / 64 ≡ index → is_set (set now index (bit_and x y)) g ≡ (old g && (not (nat_lt (g / 64) (index + 1)) || in_row width rows f g))
    here e =
        let first : has_bit x (g % 64) ≡ old g =
        ap (λ w. bit_at w (g % 64) == 1) (is ∙ get_or_default now index x 0 l ∙ ap (λ k. get_or now k 0) (sym e))
        ∙ kept g ∙ ap (λ b. old g && (not b || in_row width rows f g)) (false_from_ne_true (nat_lt (g / 64) index) (λ t. let k : g / 64 < index = ltb-true (g / 64) index t in absurd (omega arith))) ∙ sym (and_all (old g)) in
        let second : has_bit y (g % 64) ≡ in_row width rows f g = ap (λ w. bit_at w (g % 64) == 1) (iy ∙ ap (λ k. get_or rows (f * width + k) 0) (sym e)) in
        word_here now index (bit_and x y) g l e ∙ and_bit x y (g % 64) ∙ ap₂ (λ a b. a && b) first second
        ∙ ap (λ b. old g && (not b || in_row width rows f g)) (sym (lt-ltb (g / 64) (index + 1) (omega arith)))

    there : (g / 64 ≡ index → ⊥) → is_set (set now index (bit_and x y)) g ≡ (old g && (not (nat_lt (g / 64) (index + 1)) || in_row width rows f g))
    there ne = word_other now index (bit_and x y) g ne ∙ kept g ∙ ap (λ b. old g && (not b || in_row width rows f g)) same
      where
        same : nat_lt (g / 64) index ≡ nat_lt (g / 64) (index + 1)
        same = ⊎_elim (λ (l : g / 64 < index). lt-ltb (g / 64) index l ∙ sym (lt-ltb (g / 64) (index + 1) (omega arith)))
            (λ (l : index ≤ g / 64). false_from_ne_true (nat_lt (g / 64) index) (λ t. let k : g / 64 < index = ltb-true (g / 64) index t in absurd (omega arith))
            ∙ sym (false_from_ne_true (nat_lt (g / 64) (index + 1)) (λ t. let k : g / 64 < index + 1 = ltb-true (g / 64) (index + 1) t in ne (omega arith))))
            (cases_lt (g / 64) index)

pub kept_all : (rows : List ℕ) (width f : ℕ) (words : List ℕ) (index : ℕ) (now : List ℕ) → length words ≤ index → Kept rows width f (is_set words) index now → (g : ℕ) → is_set now g ≡ (is_set words g && in_row width rows f g)
kept_all rows width f words index now l kept g = kept g ∙ go (is_set words g) refl
  where
    go : (b : Bool) → is_set words g ≡ b → (is_set words g && (not (nat_lt (g / 64) index) || in_row width rows f g)) ≡ (is_set words g && in_row width rows f g)
    go true e = ap (λ b. is_set words g && (not b || in_row width rows f g)) (lt-ltb (g / 64) index (let k = inside words g e in omega arith))
    go false e = ap (λ b. b && (not (nat_lt (g / 64) index) || in_row width rows f g)) e ∙ ap (λ b. b && in_row width rows f g) (sym e)

-- ---- the first number of a set

-- nothing stands in the words from one place to another
abbrev pub NoneBetween : List ℕ → ℕ → ℕ → Type 0
NoneBetween words from index = (g : ℕ) → from ≤ g / 64 → g / 64 < index → is_set words g ≡ false

module _ (words : List ℕ) (from index w : ℕ) (l : index < length words) (word_is : w ≡ get_or words index 0) where
  pub none_more : w ≡ 0 → NoneBetween words from index → NoneBetween words from (index + 1)
  none_more z none g a b =
      ⊎_elim (λ (e : g / 64 ≡ index). ap (λ k. bit_at (get_or words k 0) (g % 64) == 1) e ∙ ap (λ x. bit_at x (g % 64) == 1) (sym word_is ∙ z) ∙ ap (λ b. b == 1) (bit_at-zero (g % 64)))
      (λ (ne : g / 64 ≡ index → ⊥). none g a (omega arith)) (cases_eq (g / 64) index)

  pub first_here : from ≤ index → w < 2 ^ 64 → (w ≡ 0 → ⊥) → NoneBetween words from index → IsFirst words from (64 * index + trailing_zeros w64 w)
  first_here low small some none =
      let h = bit_at-trailing_zeros w64 w (omega arith) small in
      let k : ℕ = trailing_zeros w64 w in
      let d : (64 * index + k) / 64 ≡ index = omega (arith, h.0) in
      let m : (64 * index + k) % 64 ≡ k = omega (arith, h.0) in
      record {
        within = omega (arith, h.0);
        here = ap₂ (λ i j. bit_at (get_or words i 0) j == 1) d m ∙ ap (λ x. bit_at x k == 1) (sym word_is) ∙ ap (λ b. b == 1) h.1;
        none = λ g a b.
            ⊎_elim (λ (e : g / 64 ≡ index). ap (λ i. bit_at (get_or words i 0) (g % 64) == 1) e ∙ ap (λ x. bit_at x (g % 64) == 1) (sym word_is) ∙ ap (λ b. b == 1) (h.2 (g % 64) (omega (arith, e, b))))
            (λ (ne : g / 64 ≡ index → ⊥). none g a (omega (arith, b, h.0))) (cases_eq (g / 64) index);
      }

pub none_at_all : (words : List ℕ) (from index : ℕ) → length words ≤ index → NoneBetween words from index → NoneFrom words from
none_at_all words from index l none =
    record { none = λ g a. ⊎_elim (λ (k : g / 64 < index). none g a k) (λ (k : index ≤ g / 64). none_past words g (omega arith)) (cases_lt (g / 64) index) }

-- ---- a row met

-- no number of the set in the first so many words stands in the row
abbrev pub Missed : List ℕ → List ℕ → ℕ → ℕ → ℕ → Type 0
Missed words rows width f index = (p : ℕ) → p / 64 < index → is_set words p ≡ true → in_row width rows f p ≡ false

module _ (words rows : List ℕ) (width f index x y : ℕ) (is : x ≡ get_or words index 0) (iy : y ≡ get_or rows (f * width + index) 0) where
  set_word : (k : ℕ) → k < 64 → is_set words (64 * index + k) ≡ has_bit x k
  set_word k h =
      let d : (64 * index + k) / 64 ≡ index = omega arith in
      let m : (64 * index + k) % 64 ≡ k = omega arith in
      ap₂ (λ i j. bit_at (get_or words i 0) j == 1) d m ∙ ap (λ w. bit_at w k == 1) (sym is)

  row_word : (k : ℕ) → k < 64 → in_row width rows f (64 * index + k) ≡ has_bit y k
  row_word k h =
      let d : (64 * index + k) / 64 ≡ index = omega arith in
      let m : (64 * index + k) % 64 ≡ k = omega arith in
      ap₂ (λ i j. bit_at (get_or rows (f * width + i) 0) j == 1) d m ∙ ap (λ w. bit_at w k == 1) (sym iy)

  pub met_here : x < 2 ^ 64 → (bit_and x y ≡ 0 → ⊥) → (p : ℕ) × (is_set words p ≡ true) × (in_row width rows f p ≡ true)
  met_here small some =
      let h = bit_at-trailing_zeros w64 (bit_and x y) (omega arith) (omega (arith, and_le_l x y)) in
      let k : ℕ = trailing_zeros w64 (bit_and x y) in
      let both = and_parts (has_bit x k) (has_bit y k) (sym (and_bit x y k) ∙ ap (λ b. b == 1) h.1) in
      (64 * index + k, set_word k h.0 ∙ both.0, row_word k h.0 ∙ both.1)

  pub missed_more : bit_and x y ≡ 0 → Missed words rows width f index → Missed words rows width f (index + 1)
  missed_more z missed p a t =
      ⊎_elim
      (λ (e : p / 64 ≡ index).
      let same : p ≡ 64 * index + p % 64 = omega arith in
      let k : p % 64 < 64 = omega arith in
      let s : has_bit x (p % 64) ≡ true = sym (set_word (p % 64) k) ∙ ap (is_set words) (sym same) ∙ t in
      ap (in_row width rows f) same ∙ row_word (p % 64) k ∙ quiet (has_bit x (p % 64)) (has_bit y (p % 64)) s (sym (and_bit x y (p % 64)) ∙ ap (λ w. has_bit w (p % 64)) z ∙ ap (λ b. b == 1) (bit_at-zero (p % 64))))
      (λ (ne : p / 64 ≡ index → ⊥). missed p (omega arith) t) (cases_eq (p / 64) index)
    where
      quiet : (a b : Bool) → a ≡ true → (a && b) ≡ false → b ≡ false
      quiet true b e h = h
      quiet false b e h = absurd (false≢true e)

pub missed_all : (words rows : List ℕ) (width f index : ℕ) → length words ≤ index → Missed words rows width f index → (p : ℕ) → is_set words p ≡ true → in_row width rows f p ≡ false
missed_all words rows width f index l missed p t = missed p (let k = inside words p t in omega arith) t

-- ---- a word pushed

pub pushed : (words : List ℕ) (n w : ℕ) (test : ℕ → Bool) → length words ≡ n → ((g : ℕ) → g / 64 < n → is_set words g ≡ test g) → ((k : ℕ) → k < 64 → has_bit w k ≡ test (64 * n + k))
    → (g : ℕ) → g / 64 < n + 1 → is_set (words ++ w ∷ []) g ≡ test g
pushed words n w test long before now g l =
    ⊎_elim
    (λ (e : g / 64 ≡ n).
    ap (λ x. bit_at x (g % 64) == 1) (get_or-append_right words (w ∷ []) n (g / 64) 0 long (omega arith) ∙ ap (λ k. get_or (w ∷ []) k 0) (let z : g / 64 - n ≡ 0 = omega arith in z))
    ∙ now (g % 64) (omega arith) ∙ ap test (let z : 64 * n + g % 64 ≡ g = omega arith in z))
    (λ (ne : g / 64 ≡ n → ⊥). ap (λ x. bit_at x (g % 64) == 1) (get_or_append_left words (w ∷ []) 0 (g / 64) (omega arith)) ∙ before g (omega arith))
    (cases_eq (g / 64) n)
