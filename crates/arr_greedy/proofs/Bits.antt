-- Words of bits that are changed.
use Rattle.std.proofs.Common.{◌≡◌, ◌≢◌, ℕ, zero, suc, ◌+◌, ◌*◌, ◌/◌, ◌%◌, ◌<◌, ◌^◌, List, Bool, true, false, cond, ◌||◌, ◌&&◌, length, get_or, set, inl, inr, refl, ap, ap₂, sym, ◌∙◌, arith, w64}
use Rattle.std.specs.Prelude.{◌==◌, bit_or, nat_lt}
use Rattle.std.specs.Int.{bit_at, trailing_zeros}
use Rattle.std.proofs.lemmas.Bool.{cases_eq, eq-eqb, false≢true, ne_eqb, or_cases}
use Rattle.std.proofs.lemmas.List.{get_or-set_same, get_or-set_other}
use Rattle.std.proofs.lemmas.Nat.{mul-add-lt, same_from_place}
use Rattle.std.proofs.lemmas.Nat.Bits.{bit_at-trailing_zeros}
use Rattle.std.proofs.Math.Nat.{mul_comm}
use Rattle.arr_cost.specs.Footprints.{has_bit}
use Rattle.arr_cost.proofs.Digits.{or_bit}
use Rattle.arr_greedy.specs.Bits.{bit, columns, words}
use Rattle.arr_greedy.specs.Fast.{any_below}
use Rattle.arr_greedy.proofs.Cells.{less_more, less_next, less_self}

-- a word that is changed changes the bits of its row and its columns
pub changed : (rows : List ℕ) (w row index word : ℕ) → length rows ≡ w * words w → row < w → index < words w → (x y : ℕ) → x < w → y < columns w
    → (x ≡ row → y / 64 ≡ index → (b : Bool) → has_bit word (y % 64) ≡ b → bit (set rows (row * words w + index) word) w x y ≡ b)
    × (((x ≡ row) × (y / 64 ≡ index) → ⊥) → bit (set rows (row * words w + index) word) w x y ≡ bit rows w x y)
changed rows w row index word size rm im x y xm ym = (
  λ e f b g.
      ap₂ (λ i j. has_bit (get_or (set rows (row * words w + index) word) (i * words w + j) 0) (y % 64)) e f
      ∙ ap (λ v. has_bit v (y % 64)) (get_or-set_same rows (row * words w + index) word 0 (let k : row * words w + index < words w * w = mul-add-lt row (words w) index w rm im in let t : words w * w ≡ w * words w = mul_comm (words w) w in omega arith)) ∙ g,
  λ h.
      ap (λ v. has_bit v (y % 64)) (get_or-set_other rows (row * words w + index) (x * words w + y / 64) word 0 (λ k.
      h (same_from_place x (y / 64) row index (words w) (let m : y / 64 < words w = omega arith in m) im k))),
)

pub bit_put : (rows : List ℕ) (w row column word : ℕ) (v : Bool) → length rows ≡ w * words w → row < w → column < w
    → ((i : ℕ) → i < 64 → has_bit word i ≡ cond (i == column % 64) v (has_bit (get_or rows (row * words w + column / 64) 0) i))
    → (x y : ℕ) → x < w → y < columns w → bit (set rows (row * words w + column / 64) word) w x y ≡ cond (x == row && y == column) v (bit rows w x y)
bit_put rows w row column word v size rm cm h x y xm ym =
    let c = changed rows w row (column / 64) word size rm (omega arith) x y xm ym in
    elim (cases_eq x row) as (λ _. bit (set rows (row * words w + column / 64) word) w x y ≡ cond (x == row && y == column) v (bit rows w x y)) [
      | inl e ↦ elim (cases_eq (y / 64) (column / 64)) as (λ _. bit (set rows (row * words w + column / 64) word) w x y ≡ cond (x == row && y == column) v (bit rows w x y)) [
        | inl f ↦
            c.0 e f (cond (x == row && y == column) v (bit rows w x y))
            (h (y % 64) (omega arith)
            ∙ ap₂ (λ i j. cond (y % 64 == column % 64) v (has_bit (get_or rows (i * words w + j) 0) (y % 64))) (sym e) (sym f)
            ∙ ap (λ t. cond t v (bit rows w x y)) (same_digit y column f ∙ sym (ap (λ t. t && (y == column)) (eq-eqb x row e))))
        | inr f ↦
            c.1 (λ z. f z.1) ∙ sym (ap₂ (λ s t. cond (s && t) v (bit rows w x y)) (eq-eqb x row e) (ne_eqb y column (λ z. f (ap (λ k. k / 64) z))))
      ]
      | inr e ↦ c.1 (λ z. e z.0) ∙ sym (ap (λ s. cond (s && (y == column)) v (bit rows w x y)) (ne_eqb x row e))
    ]
  where
    same_digit : (y column : ℕ) → y / 64 ≡ column / 64 → (y % 64 == column % 64) ≡ (y == column)
    same_digit y column f =
        elim (cases_eq y column) as (λ _. (y % 64 == column % 64) ≡ (y == column)) [
          | inl g ↦ eq-eqb (y % 64) (column % 64) (ap (λ k. k % 64) g) ∙ sym (eq-eqb y column g)
          | inr g ↦ ne_eqb (y % 64) (column % 64) (λ k. let k' : y % 64 ≡ column % 64 = k in g (let z : y ≡ column = omega arith in z)) ∙ sym (ne_eqb y column g)
        ]

-- o: the rows at first; l: with so many words joined
pub bit_joined : (o l : List ℕ) (w into first second index word : ℕ) → length l ≡ w * words w → into < w → first < w → second < w → index < words w
    → ((x y : ℕ) → x < w → y < columns w → bit l w x y ≡ cond (x == into && nat_lt (y / 64) index) (bit o w first y || bit o w second y) (bit o w x y))
    → word ≡ bit_or (get_or l (first * words w + index) 0) (get_or l (second * words w + index) 0)
    → (x y : ℕ) → x < w → y < columns w
    → bit (set l (into * words w + index) word) w x y ≡ cond (x == into && nat_lt (y / 64) (index + 1)) (bit o w first y || bit o w second y) (bit o w x y)
bit_joined o l w into first second index word size im fm sm jm inv e x y xm ym =
    let c = changed l w into index word size im jm x y xm ym in
    elim (cases_eq x into) as (λ _. bit (set l (into * words w + index) word) w x y ≡ cond (x == into && nat_lt (y / 64) (index + 1)) (bit o w first y || bit o w second y) (bit o w x y)) [
      | inl f ↦ elim (cases_eq (y / 64) index) as (λ _. bit (set l (into * words w + index) word) w x y ≡ cond (x == into && nat_lt (y / 64) (index + 1)) (bit o w first y || bit o w second y) (bit o w x y)) [
        | inl g ↦
            c.0 f g (cond (x == into && nat_lt (y / 64) (index + 1)) (bit o w first y || bit o w second y) (bit o w x y))
            (ap (λ v. has_bit v (y % 64)) e ∙ or_bit (get_or l (first * words w + index) 0) (get_or l (second * words w + index) 0) (y % 64)
            ∙ ap₂ (λ s t. s || t) (was first fm g) (was second sm g)
            ∙ sym (ap₂ (λ s t. cond (s && t) (bit o w first y || bit o w second y) (bit o w x y)) (eq-eqb x into f) (ap (λ k. nat_lt k (index + 1)) g ∙ less_next index)))
        | inr g ↦
            c.1 (λ z. g z.1) ∙ inv x y xm ym ∙ ap (λ t. cond (x == into && t) (bit o w first y || bit o w second y) (bit o w x y)) (sym (less_more (y / 64) index g))
      ]
      | inr f ↦
          c.1 (λ z. f z.0) ∙ inv x y xm ym ∙ ap (λ s. cond (s && nat_lt (y / 64) index) (bit o w first y || bit o w second y) (bit o w x y)) (ne_eqb x into f)
          ∙ sym (ap (λ s. cond (s && nat_lt (y / 64) (index + 1)) (bit o w first y || bit o w second y) (bit o w x y)) (ne_eqb x into f))
    ]
  where
    and_false : (b : Bool) → (b && false) ≡ false
    and_false true = refl
    and_false false = refl

    was : (k : ℕ) → k < w → y / 64 ≡ index → has_bit (get_or l (k * words w + index) 0) (y % 64) ≡ bit o w k y
    was k km g =
        ap (λ j. has_bit (get_or l (k * words w + j) 0) (y % 64)) (sym g) ∙ inv k y km ym
        ∙ ap (λ t. cond t (bit o w first y || bit o w second y) (bit o w k y)) (ap (λ t. (k == into) && t) (ap (λ j. nat_lt j index) g ∙ less_self index) ∙ and_false (k == into))

-- ---- a word that is not 0 has a bit

pub some_bit : (n : ℕ) → n ≢ 0 → n < 2 ^ 64 → (i : ℕ) × (i < 64) × (has_bit n i ≡ true)
some_bit n ne l =
    let f : (trailing_zeros w64 n < 64) × (bit_at n (trailing_zeros w64 n) ≡ 1) × ((i : ℕ) → i < trailing_zeros w64 n → bit_at n i ≡ 0) = bit_at-trailing_zeros w64 n (positive n ne) l in
    (trailing_zeros w64 n, f.0, ap (λ k. k == 1) f.1)
  where
    positive : (b : ℕ) → b ≢ 0 → 0 < b
    positive zero ne = absurd (ne refl)
    positive (suc b) ne = omega arith

pub below_some : (test : ℕ → Bool) (n z : ℕ) → z < n → test z ≡ true → any_below test n ≡ true
below_some test zero z l e = absurd (omega arith)
below_some test (suc n) z l e =
    elim (cases_eq z n) as (λ _. (any_below test n || test n) ≡ true) [
      | inl f ↦ or_true (any_below test n) (test n) (ap test (sym f) ∙ e)
      | inr f ↦ true_or (any_below test n) (test n) (below_some test n z (lesser z n l f) e)
    ]
  where
    or_true : (a b : Bool) → b ≡ true → (a || b) ≡ true
    or_true true b e = refl
    or_true false b e = e

    true_or : (a b : Bool) → a ≡ true → (a || b) ≡ true
    true_or true b e = refl
    true_or false b e = absurd (false≢true e)

    lesser : (a b : ℕ) → a < suc b → a ≢ b → a < b
    lesser a b m g = omega arith

pub below_none : (test : ℕ → Bool) (n : ℕ) → ((z : ℕ) → z < n → test z ≡ false) → any_below test n ≡ false
below_none test zero h = refl
below_none test (suc n) h = ap₂ (λ s t. s || t) (below_none test n (λ z l. h z (omega arith))) (h n (omega arith))

pub below_each : (test : ℕ → Bool) (n : ℕ) → any_below test n ≡ false → (z : ℕ) → z < n → test z ≡ false
below_each test n e z l = at (test z) refl
  where
    at : (t : Bool) → test z ≡ t → test z ≡ false
    at true f = absurd (false≢true (sym e ∙ below_some test n z l f))
    at false f = f

pub below_found : (test : ℕ → Bool) (n : ℕ) → any_below test n ≡ true → (z : ℕ) × (z < n) × (test z ≡ true)
below_found test zero e = absurd (false≢true e)
below_found test (suc n) e =
    elim (or_cases (any_below test n) (test n) e) as (λ _. (z : ℕ) × (z < suc n) × (test z ≡ true)) [
      | inl f ↦ let r = below_found test n f in let l : r.0 < n = r.1 in (r.0, omega arith, r.2)
      | inr f ↦ (n, omega arith, f)
    ]
