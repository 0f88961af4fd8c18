-- Shapes, refused and made.
use Rattle.std.proofs.Common.{◌≡◌, ℕ, zero, suc, ◌+◌, ◌-◌, ◌*◌, ◌/◌, ◌<◌, ◌≤◌, List, [], ◌∷◌, ◌++◌, Bool, true, false, cond, not, ◌||◌, ◌&&◌, length, get_or, drop, refl, ap, ap₂, sym, ◌∙◌, arith, leb-true, length-append}
use Rattle.std.specs.Prelude.{nat_le, nat_lt, max, replicate, ◌==◌, Result, Ok, Err}
use Rattle.std.specs.List.{list_all, list_any}
use Rattle.std.proofs.Math.Nat.{mul-le-mul_left, lt-mul-div-succ}
use Rattle.std.proofs.lemmas.Bool.{and_parts, and_from, le-leb, lt-ltb, le-ltb, ne_eqb, eq-eqb, eqb-false}
use Rattle.std.proofs.lemmas.List.{drop_more, length-replicate}
use Rattle.arr_view.specs.Views.{has_rank, positions}
use Rattle.arr_view.proofs.Counting.{some_position, value_more}
use Rattle.arr_view.proofs.Places.{lengths_from}
use Rattle.arr_shape.specs.declared.fault.ShapeFault.{ShapeFault}
use Rattle.arr_shape.specs.declared.fault.ShapeFault.TheVariants.{ShapeMismatch, EmptyArray, RankRange, TooManyElements}
use Rattle.arr_shape.specs.Shapes.{is_shape, checked_shape, joined, all_match, matches, greater, padded}

-- ---- one shape

pub record IsShape (ns : List ℕ) : Type 0 where
  pub rank : has_rank ns ≡ true
  pub some : 1 ≤ length ns
  pub four : length ns ≤ 4
  pub lengths : list_all (nat_le 1) ns ≡ true
  pub size : positions ns ≤ 1048576

pub shape_of : (ns : List ℕ) → is_shape ns ≡ true → IsShape ns
shape_of ns e =
    let a = and_parts (has_rank ns) _ e in
    let b = and_parts (list_all (nat_le 1) ns) _ a.1 in
    let r = and_parts (nat_le 1 (length ns)) (nat_le (length ns) 4) a.0 in
    record { rank = a.0; some = leb-true 1 (length ns) r.0; four = leb-true (length ns) 4 r.1; lengths = b.0; size = leb-true (positions ns) 1048576 b.1 }

pub ranked : (ns : List ℕ) → 1 ≤ length ns → length ns ≤ 4 → has_rank ns ≡ true
ranked ns a b = and_from (nat_le 1 (length ns)) (nat_le (length ns) 4) (le-leb 1 (length ns) a) (le-leb (length ns) 4 b)

neither : (a b : Bool) → (a || b) ≡ false → (a ≡ false) × (b ≡ false)
neither true b e = absurd (let f : true ≡ false = e in cc)
neither false b e = (refl, e)

pub no_zero : (ns : List ℕ) → list_any (λ n. n == 0) ns ≡ false → list_all (nat_le 1) ns ≡ true
no_zero [] e = refl
no_zero (n ∷ ns) e =
    let both = neither (n == 0) (list_any (λ n. n == 0) ns) e in
    let some : n ≡ 0 → ⊥ = eqb-false n 0 both.0 in
    and_from (nat_le 1 n) (list_all (nat_le 1) ns) (le-leb 1 n (omega arith)) (no_zero ns both.1)

abbrev answer : List ℕ → Bool → Bool → Bool → Result (List ℕ) ShapeFault
answer ns a b d = cond (not a) (Err RankRange) (cond (not b) (Err EmptyArray) (cond d (Err TooManyElements) (Ok ns)))

by_size : (ns : List ℕ) (d : Bool) → has_rank ns ≡ true → list_all (nat_le 1) ns ≡ true → nat_lt 1048576 (positions ns) ≡ d → checked_shape ns ≡ cond d (Err TooManyElements) (Ok ns)
by_size ns d a b e =
    ap (λ x. answer ns x (list_all (nat_le 1) ns) (nat_lt 1048576 (positions ns))) a ∙ ap (λ x. answer ns true x (nat_lt 1048576 (positions ns))) b ∙ ap (λ x. answer ns true true x) e

pub too_many : (ns : List ℕ) → has_rank ns ≡ true → list_all (nat_le 1) ns ≡ true → 1048576 < positions ns → checked_shape ns ≡ Err TooManyElements
too_many ns a b h = by_size ns true a b (lt-ltb 1048576 (positions ns) h)

pub made : (ns : List ℕ) → has_rank ns ≡ true → list_all (nat_le 1) ns ≡ true → positions ns ≤ 1048576 → checked_shape ns ≡ Ok ns
made ns a b h = by_size ns false a b (le-ltb 1048576 (positions ns) h)

-- a length that is too long for what was counted before it
pub outgrows : (ns : List ℕ) (c i : ℕ) → list_all (nat_le 1) ns ≡ true → i < length ns → 1 ≤ c → c * positions (drop i ns) ≡ positions ns → 1048576 / c < get_or ns i 0 → 1048576 < positions ns
outgrows ns c i all l some value h =
    let n : ℕ = get_or ns i 0 in
    let rest : ℕ = positions (drop (i + 1) ns) in
    let last : 1 ≤ rest = some_position (drop (i + 1) ns) (lengths_from (i + 1) ns all) in
    let over : 1048576 < c * (1048576 / c + 1) = lt-mul-div-succ 1048576 (let p : 0 < c = omega arith in p) in
    let up : c * (1048576 / c + 1) ≤ c * n = mul-le-mul_left c (let q : 1048576 / c + 1 ≤ n = omega arith in q) in
    let whole : c * positions (drop i ns) ≡ (c * n) * rest = value_more c i ns l in
    let grown : (c * n) * 1 ≤ (c * n) * rest = mul-le-mul_left (c * n) last in
    omega arith

-- ---- two shapes

pub length-padded : (rank : ℕ) (ns : List ℕ) → length ns ≤ rank → length (padded rank ns) ≡ rank
length-padded rank ns h = length-append (replicate (rank - length ns) 1) ns ∙ ap (λ k. k + length ns) (length-replicate (rank - length ns) 1) ∙ omega arith

pub padded_lengths : (rank : ℕ) (ns : List ℕ) → list_all (nat_le 1) ns ≡ true → list_all (nat_le 1) (padded rank ns) ≡ true
padded_lengths rank ns h = in_front (rank - length ns)
  where
    in_front : (k : ℕ) → list_all (nat_le 1) (replicate k 1 ++ ns) ≡ true
    in_front zero = h
    in_front (suc k) = in_front k

pub match_turn : (ms ns : List ℕ) (i : ℕ) → i < length ms → i < length ns → all_match (drop i ms) (drop i ns) ≡ (matches (get_or ms i 1) (get_or ns i 1) && all_match (drop (i + 1) ms) (drop (i + 1) ns))
match_turn ms ns i a b = ap₂ all_match (drop_more ms i 1 a) (drop_more ns i 1 b)

pub greater_turn : (ms ns : List ℕ) (i : ℕ) → i < length ms → i < length ns → greater (drop i ms) (drop i ns) ≡ max (get_or ms i 1) (get_or ns i 1) ∷ greater (drop (i + 1) ms) (drop (i + 1) ns)
greater_turn ms ns i a b = ap₂ greater (drop_more ms i 1 a) (drop_more ns i 1 b)

pub match_not : (m n : ℕ) → (m ≡ n → ⊥) → (m ≡ 1 → ⊥) → (n ≡ 1 → ⊥) → matches m n ≡ false
match_not m n a b d = ap (λ x. x || (m == 1 || n == 1)) (ne_eqb m n a) ∙ ap (λ x. x || n == 1) (ne_eqb m 1 b) ∙ ne_eqb n 1 d

or_true : (b : Bool) → (b || true) ≡ true
or_true true = refl
or_true false = refl

pub match_same : (m n : ℕ) → m ≡ n → matches m n ≡ true
match_same m n e = ap (λ x. x || (m == 1 || n == 1)) (eq-eqb m n e)

pub match_left : (m n : ℕ) → m ≡ 1 → matches m n ≡ true
match_left m n e = ap (λ x. (m == n) || (x || n == 1)) (eq-eqb m 1 e) ∙ or_true (m == n)

pub match_right : (m n : ℕ) → n ≡ 1 → matches m n ≡ true
match_right m n e = ap (λ x. (m == n) || ((m == 1) || x)) (eq-eqb n 1 e) ∙ ap (λ x. (m == n) || x) (or_true (m == 1)) ∙ or_true (m == n)

pub length-greater : (ms ns : List ℕ) → length ms ≡ length ns → length (greater ms ns) ≡ length ns
length-greater [] [] e = refl
length-greater [] (n ∷ ns) e = absurd (omega arith)
length-greater (m ∷ ms) [] e = absurd (omega arith)
length-greater (m ∷ ms) (n ∷ ns) e = ap suc (length-greater ms ns (omega arith))

pub greater_lengths : (ms ns : List ℕ) → list_all (nat_le 1) ms ≡ true → list_all (nat_le 1) (greater ms ns) ≡ true
greater_lengths [] ns h = refl
greater_lengths (m ∷ ms) [] h = refl
greater_lengths (m ∷ ms) (n ∷ ns) h =
    let both = and_parts (nat_le 1 m) (list_all (nat_le 1) ms) h in
    let here : 1 ≤ m = leb-true 1 m both.0 in
    and_from (nat_le 1 (max m n)) (list_all (nat_le 1) (greater ms ns)) (le-leb 1 (max m n) (omega arith)) (greater_lengths ms ns both.1)

abbrev joins : List ℕ → List ℕ → Bool → Result (List ℕ) ShapeFault
joins ms ns b = cond (not b) (Err ShapeMismatch) (cond (nat_lt 1048576 (positions (greater ms ns))) (Err TooManyElements) (Ok (greater ms ns)))

pub mismatched : (ms ns : List ℕ) → all_match ms ns ≡ false → joined ms ns ≡ Err ShapeMismatch
mismatched ms ns e = ap (joins ms ns) e

pub matched : (ms ns : List ℕ) → all_match ms ns ≡ true → has_rank (greater ms ns) ≡ true → list_all (nat_le 1) (greater ms ns) ≡ true → checked_shape (greater ms ns) ≡ joined ms ns
matched ms ns e a b = by_size (greater ms ns) (nat_lt 1048576 (positions (greater ms ns))) a b refl ∙ sym (ap (joins ms ns) e)
