-- Words of bits, and the sets that they stand for.
use Rattle.std.proofs.Common.{◌≡◌, ◌≢◌, ℕ, zero, suc, ◌+◌, ◌*◌, ◌/◌, ◌%◌, ◌^◌, ◌<◌, ◌≤◌, List, [], ◌∷◌, Bool, true, false, length, map, get_or, set, replicate, refl, ap, ap₂, sym, ◌∙◌, arith, min, w64}
use Rattle.std.specs.Prelude.{◌==◌, ◌&&◌, ◌||◌, bit_and, bit_or, nat_lt}
use Rattle.std.specs.List.{range_with_len}
use Rattle.std.specs.Int.{bit_at, trailing_zeros}
use Rattle.std.specs.Int.Bits.{and_zero_l}
use Rattle.std.proofs.lemmas.Bool.{ltb-true, ltb-false, eqb-true, eqb-false, false≢true}
use Rattle.std.proofs.lemmas.List.{get_or-set_same, get_or-set_other, get_or_default}
use Rattle.std.proofs.lemmas.List.FromFn.{length-map-range_with_len, get_or-map-range_with_len}
use Rattle.std.proofs.lemmas.Nat.Bits.{bit_at_and, bit_at_set_same, bit_at_set_other, bit_at-zero, bit_at-trailing_zeros, bit_at-lt, shr_and_one}
use Rattle.arr_sets.specs.Bits.{is_set, members, meets}

pub length-members : (words : List ℕ) (n : ℕ) → length (members words n) ≡ n
length-members words n = length-map-range_with_len (is_set words) 0 n

pub member_at : (words : List ℕ) (n i : ℕ) → i < n → get_or (members words n) i false ≡ is_set words i
member_at words n i h = get_or-map-range_with_len (is_set words) 0 n i i false h (omega arith)

-- ---- the empty set

same_map : (f : ℕ → Bool) (b : Bool) → ((i : ℕ) → f i ≡ b) → (a n : ℕ) → map f (range_with_len a n) ≡ replicate n b
same_map f b h a zero = refl
same_map f b h a (suc n) = ap₂ (λ x xs. x ∷ xs) (h a) (same_map f b h (a + 1) n)

same_all : (x : ℕ) (k i : ℕ) → get_or (replicate k x) i x ≡ x
same_all x zero i = refl
same_all x (suc k) zero = refl
same_all x (suc k) (suc i) = same_all x k i

pub none_set : (k i : ℕ) → is_set (replicate k 0) i ≡ false
none_set k i =
    ap (λ w. bit_at w (i % 64) == 1) (same_all 0 k (i / 64)) ∙ ap (λ b. b == 1) (bit_at-zero (i % 64))

pub none_members : (k n : ℕ) → members (replicate k 0) n ≡ replicate n false
none_members k n = same_map (is_set (replicate k 0)) false (none_set k) 0 n

-- ---- one more number

unchanged : (f g : ℕ → Bool) (at : ℕ) → ((i : ℕ) → i ≢ at → g i ≡ f i) → (a n : ℕ) → at < a → map g (range_with_len a n) ≡ map f (range_with_len a n)
unchanged f g at other a zero h = refl
unchanged f g at other a (suc n) h = ap₂ (λ x xs. x ∷ xs) (other a (λ e. let e' : a ≡ at = e in omega arith)) (unchanged f g at other (a + 1) n (omega arith))

added : (f g : ℕ → Bool) (at : ℕ) → g at ≡ true → ((i : ℕ) → i ≢ at → g i ≡ f i) → (a n k : ℕ) → a + k ≡ at → k < n → map g (range_with_len a n) ≡ set (map f (range_with_len a n)) k true
added f g at here other a zero k e h = absurd (omega arith)
added f g at here other a (suc n) zero e h =
    ap₂ (λ x xs. x ∷ xs) (ap g (let z : a ≡ at = omega arith in z) ∙ here) (unchanged f g at other (a + 1) n (omega arith))
added f g at here other a (suc n) (suc k) e h =
    ap₂ (λ x xs. x ∷ xs) (other a (λ z. let z' : a ≡ at = z in omega arith)) (added f g at here other (a + 1) n k (omega arith) (omega arith))

-- the word of a number with its bit set
abbrev pub with_bit : List ℕ → ℕ → List ℕ
with_bit words at = set words (at / 64) (bit_or (get_or words (at / 64) 0) (1 * 2 ^ (at % 64) % 2 ^ 64))

pub bit_here : (words : List ℕ) (at : ℕ) → at / 64 < length words → is_set (with_bit words at) at ≡ true
bit_here words at h =
    ap (λ w. bit_at w (at % 64) == 1) (get_or-set_same words (at / 64) _ 0 h)
    ∙ ap (λ b. b == 1) (bit_at_set_same w64 (get_or words (at / 64) 0) (at % 64) (omega arith))

pub bit_other : (words : List ℕ) (at i : ℕ) → at / 64 < length words → i ≢ at → is_set (with_bit words at) i ≡ is_set words i
bit_other words at i h ne =
    elim (i / 64 == at / 64) as (λ b. (i / 64 == at / 64) ≡ b → is_set (with_bit words at) i ≡ is_set words i) [
      | true ↦ λ e.
          let w : i / 64 ≡ at / 64 = eqb-true (i / 64) (at / 64) e in
          ap (λ k. bit_at (get_or (with_bit words at) k 0) (i % 64) == 1) w
          ∙ ap (λ x. bit_at x (i % 64) == 1) (get_or-set_same words (at / 64) _ 0 h)
          ∙ ap (λ b. b == 1) (bit_at_set_other w64 (get_or words (at / 64) 0) (at % 64) (omega arith) (i % 64) (λ z. let z' : i % 64 ≡ at % 64 = z in ne (omega arith)))
          ∙ ap (λ k. bit_at (get_or words k 0) (i % 64) == 1) (sym w)
      | false ↦ λ e. ap (λ x. bit_at x (i % 64) == 1) (get_or-set_other words (at / 64) (i / 64) _ 0 (λ z. let z' : i / 64 ≡ at / 64 = z in eqb-false (i / 64) (at / 64) e z'))
    ] refl

pub with_bit_members : (words : List ℕ) (at n : ℕ) → at / 64 < length words → at < n → members (with_bit words at) n ≡ set (members words n) at true
with_bit_members words at n h k =
    added (is_set words) (is_set (with_bit words at)) at (bit_here words at h) (λ i ne. bit_other words at i h ne) 0 n at (omega arith) k

-- nothing is set from the bound on
pub still_none : (words : List ℕ) (at n : ℕ) → at / 64 < length words → at < n → ((i : ℕ) → n ≤ i → is_set words i ≡ false) → (i : ℕ) → n ≤ i → is_set (with_bit words at) i ≡ false
still_none words at n h k none i above = bit_other words at i h (λ z. let z' : i ≡ at = z in omega arith) ∙ none i above

-- ---- a common number

met : (f g : ℕ → Bool) (a n k : ℕ) → k < n → f (a + k) ≡ true → g (a + k) ≡ true → meets (map f (range_with_len a n)) (map g (range_with_len a n)) ≡ true
met f g a zero k h p q = absurd (omega arith)
met f g a (suc n) zero h p q =
    let z : a + 0 ≡ a = omega arith in
    ap₂ (λ x y. (x && y) || meets (map f (range_with_len (a + 1) n)) (map g (range_with_len (a + 1) n))) (ap f (sym z) ∙ p) (ap g (sym z) ∙ q)
met f g a (suc n) (suc k) h p q =
    let z : a + suc k ≡ a + 1 + k = omega arith in
    ap (λ r. (f a && g a) || r) (met f g (a + 1) n k (omega arith) (ap f (sym z) ∙ p) (ap g (sym z) ∙ q)) ∙ or_true (f a && g a)
  where
    or_true : (b : Bool) → (b || true) ≡ true
    or_true true = refl
    or_true false = refl

missed : (f g : ℕ → Bool) → ((i : ℕ) → (f i && g i) ≡ false) → (a n : ℕ) → meets (map f (range_with_len a n)) (map g (range_with_len a n)) ≡ false
missed f g h a zero = refl
missed f g h a (suc n) = ap₂ (λ x y. x || y) (h a) (missed f g h (a + 1) n)

bit_one : (b : ℕ) → b < 2 → (b == 1) ≡ true → b ≡ 1
bit_one b h e = eqb-true b 1 e

-- a word of both rows that has a common bit
pub meets_at : (u v : List ℕ) (n k : ℕ) → ((i : ℕ) → n ≤ i → is_set u i ≡ false) → bit_and (get_or u k 0) (get_or v k 0) < 2 ^ 64 → bit_and (get_or u k 0) (get_or v k 0) ≢ 0
    → meets (members u n) (members v n) ≡ true
meets_at u v n k none fits some =
    let both : ℕ = bit_and (get_or u k 0) (get_or v k 0) in
    let found : (trailing_zeros w64 both < 64) × (bit_at both (trailing_zeros w64 both) ≡ 1) × ((i : ℕ) → i < trailing_zeros w64 both → bit_at both i ≡ 0) = bit_at-trailing_zeros w64 both (positive both some) fits in
    let j : ℕ = trailing_zeros w64 both in
    let below : j < 64 = found.0 in
    let i : ℕ = k * 64 + j in
    let word : i / 64 ≡ k = omega arith in
    let bit : i % 64 ≡ j = omega arith in
    let least : min (bit_at (get_or u k 0) j) (bit_at (get_or v k 0) j) ≡ 1 = sym (bit_at_and (get_or u k 0) (get_or v k 0) j) ∙ found.1 in
    let inside : is_set u i ≡ true = ap₂ (λ a b. bit_at (get_or u a 0) b == 1) word bit ∙ ap (λ b. b == 1) (one (bit_at (get_or u k 0) j) (bit_at (get_or v k 0) j) (bit_at-lt (get_or u k 0) j) least) in
    let there : is_set v i ≡ true = ap₂ (λ a b. bit_at (get_or v a 0) b == 1) word bit ∙ ap (λ b. b == 1) (other (bit_at (get_or u k 0) j) (bit_at (get_or v k 0) j) (bit_at-lt (get_or v k 0) j) least) in
    met (is_set u) (is_set v) 0 n i (low i inside) (ap (is_set u) (let z : 0 + i ≡ i = omega arith in z) ∙ inside) (ap (is_set v) (let z : 0 + i ≡ i = omega arith in z) ∙ there)
  where
    positive : (b : ℕ) → b ≢ 0 → 0 < b
    positive zero ne = absurd (ne refl)
    positive (suc b) ne = omega arith

    one : (a b : ℕ) → a < 2 → min a b ≡ 1 → a ≡ 1
    one a b h e = omega arith

    other : (a b : ℕ) → b < 2 → min a b ≡ 1 → b ≡ 1
    other a b h e = omega arith

    low : (i : ℕ) → is_set u i ≡ true → i < n
    low i e =
        elim (nat_lt i n) as (λ b. nat_lt i n ≡ b → i < n) [
          | true ↦ λ h. ltb-true i n h
          | false ↦ λ h. absurd (false≢true (sym (none i (ltb-false i n h)) ∙ e))
        ] refl

-- no word of both rows has a common bit
pub meets_nowhere : (u v : List ℕ) (n : ℕ) → ((k : ℕ) → bit_and (get_or u k 0) (get_or v k 0) ≡ 0) → meets (members u n) (members v n) ≡ false
meets_nowhere u v n h =
    missed (is_set u) (is_set v) (λ i. apart (bit_at (get_or u (i / 64) 0) (i % 64)) (bit_at (get_or v (i / 64) 0) (i % 64))
    (sym (bit_at_and (get_or u (i / 64) 0) (get_or v (i / 64) 0) (i % 64)) ∙ ap (λ w. bit_at w (i % 64)) (h (i / 64)) ∙ bit_at-zero (i % 64))) 0 n
  where
    apart : (a b : ℕ) → min a b ≡ 0 → ((a == 1) && (b == 1)) ≡ false
    apart zero b e = refl
    apart (suc a) zero e = and_false (suc a == 1)
      where
        and_false : (c : Bool) → (c && false) ≡ false
        and_false true = refl
        and_false false = refl
    apart (suc a) (suc b) e = absurd (omega arith)

-- ---- what the calls read and write

pub has_member : (words : List ℕ) (n at w : ℕ) (s : List Bool) → members words n ≡ s → at < n → at / 64 < length words → w ≡ get_or words (at / 64) w
    → (bit_and (w / 2 ^ (at % 64)) 1 == 1) ≡ get_or s at false
has_member words n at w s is h inside word =
    ap (λ b. b == 1) (shr_and_one w (at % 64)) ∙ ap (λ x. bit_at x (at % 64) == 1) (word ∙ get_or_default words (at / 64) w 0 inside)
    ∙ sym (member_at words n at h) ∙ ap (λ m. get_or m at false) is

pub insert_member : (words : List ℕ) (n at w : ℕ) (s : List Bool) → members words n ≡ s → at < n → at / 64 < length words → w ≡ get_or words (at / 64) w
    → members (set words (at / 64) (bit_or w (1 * 2 ^ (at % 64) % 2 ^ 64))) n ≡ set s at true
insert_member words n at w s is h inside word =
    ap (λ x. members (set words (at / 64) (bit_or x (1 * 2 ^ (at % 64) % 2 ^ 64))) n) (word ∙ get_or_default words (at / 64) w 0 inside)
    ∙ with_bit_members words at n inside h ∙ ap (λ m. set m at true) is

pub insert_none : (words : List ℕ) (n at w : ℕ) → at < n → at / 64 < length words → w ≡ get_or words (at / 64) w → ((i : ℕ) → n ≤ i → is_set words i ≡ false)
    → (i : ℕ) → n ≤ i → is_set (set words (at / 64) (bit_or w (1 * 2 ^ (at % 64) % 2 ^ 64))) i ≡ false
insert_none words n at w h inside word none i above =
    ap (λ x. is_set (set words (at / 64) (bit_or x (1 * 2 ^ (at % 64) % 2 ^ 64))) i) (word ∙ get_or_default words (at / 64) w 0 inside) ∙ still_none words at n inside h none i above

past : (xs : List ℕ) (k : ℕ) → length xs ≤ k → get_or xs k 0 ≡ 0
past [] k h = refl
past (x ∷ xs) zero h = absurd (omega arith)
past (x ∷ xs) (suc k) h = past xs k (omega arith)

-- no word up to the end has a common bit
pub meets_none : (u v : List ℕ) (n end : ℕ) → length u ≤ end → ((k : ℕ) → k < end → bit_and (get_or u k 0) (get_or v k 0) ≡ 0) → meets (members u n) (members v n) ≡ false
meets_none u v n end short h =
    meets_nowhere u v n (λ k.
    elim (nat_lt k end) as (λ b. nat_lt k end ≡ b → bit_and (get_or u k 0) (get_or v k 0) ≡ 0) [
      | true ↦ λ e. h k (ltb-true k end e)
      | false ↦ λ e. let l : end ≤ k = ltb-false k end e in ap (λ x. bit_and x (get_or v k 0)) (past u k (omega arith)) ∙ and_zero_l (get_or v k 0)
    ] refl)

-- what is found of the words is said of the sets
pub rows_meet : (u v : List ℕ) (n m : ℕ) (s t : List Bool) (b : Bool) → members u n ≡ s → members v m ≡ t → length s ≡ length t → meets (members u n) (members v n) ≡ b → b ≡ meets s t
rows_meet u v n m s t b su tv same found =
    let bounds : n ≡ m = sym (length-members u n) ∙ ap length su ∙ same ∙ ap length (sym tv) ∙ length-members v m in
    sym found ∙ ap₂ meets su (ap (members v) bounds ∙ tv)
