-- The strides of a view, one dimension after another.
use Rattle.std.proofs.Common.{◌≡◌, ℕ, suc, ◌+◌, ◌/◌, ◌<◌, ◌≤◌, ℤ, pos, List, [], ◌∷◌, true, false, cond, ◌||◌, ◌&&◌, not, length, get_or, drop, refl, ap, ap₂, ◌∙◌, arith, sym}
use Rattle.std.proofs.Math.Nat.{mul-div_cancel_left}
use Rattle.std.specs.Prelude.{nat_le, ◌==◌}
use Rattle.std.specs.List.{list_all, range_with_len}
use Rattle.std.proofs.lemmas.Bool.{and_parts}
use Rattle.std.proofs.lemmas.List.{drop_more, drop_all}
use Rattle.arr_view.proofs.Places.{length_at}
use Rattle.arr_view.specs.Views.{positions, kept_strides, whole_strides, strides_kept, is_zero}
use Rattle.std.proofs.Common.{map, zero, suc, ◌++◌, ◌*◌}
use Rattle.std.proofs.lemmas.List.{append-nil, map-append}
use Rattle.std.proofs.lemmas.Bool.{eqb-true}
use Rattle.arr_view.specs.Views.{places, at_steps, elements, to_place, whole_view}

pub kept_turn : (ns : List ℕ) (ss : List ℤ) (i : ℕ) → length ss ≡ length ns → i < length ns
    → kept_strides (drop i ns) (drop i ss) ≡ cond (get_or ns i 0 == 1) (pos 0) (get_or ss i (pos 0)) ∷ kept_strides (drop (i + 1) ns) (drop (i + 1) ss)
kept_turn ns ss i same l = ap₂ kept_strides (drop_more ns i 0 l) (drop_more ss i (pos 0) (omega arith))

pub kept_end : (ns : List ℕ) (ss : List ℤ) (i : ℕ) → length ss ≡ length ns → length ns ≤ i → kept_strides (drop i ns) (drop i ss) ≡ []
kept_end ns ss i same l = ap₂ kept_strides (drop_all i ns l) (drop_all i ss (omega arith))

pub whole_turn : (ns : List ℕ) (i : ℕ) → i < length ns → whole_strides (drop i ns) ≡ cond (get_or ns i 0 == 1) (pos 0) (pos (positions (drop (i + 1) ns))) ∷ whole_strides (drop (i + 1) ns)
whole_turn ns i l = ap whole_strides (drop_more ns i 0 l)

pub whole_end : (ns : List ℕ) (i : ℕ) → length ns ≤ i → whole_strides (drop i ns) ≡ []
whole_end ns i l = ap whole_strides (drop_all i ns l)

-- the positions of the dimensions after one, from those of the dimensions from it on
pub rest_turn : (ns : List ℕ) (i rest : ℕ) → list_all (nat_le 1) ns ≡ true → i < length ns → rest ≡ positions (drop i ns) → rest / get_or ns i 0 ≡ positions (drop (i + 1) ns)
rest_turn ns i rest all l e =
    ap (λ k. k / get_or ns i 0) (e ∙ ap positions (drop_more ns i 0 l)) ∙ mul-div_cancel_left (positions (drop (i + 1) ns)) (let h : 1 ≤ get_or ns i 0 = length_at i ns all l in let p : 0 < get_or ns i 0 = omega arith in p)

pub length-kept_strides : (ns : List ℕ) (ss : List ℤ) → length (kept_strides ns ss) ≡ length ss
length-kept_strides [] ss = refl
length-kept_strides (n ∷ ns) [] = refl
length-kept_strides (n ∷ ns) (s ∷ ss) = ap suc (length-kept_strides ns ss)

pub length-whole_strides : (ns : List ℕ) → length (whole_strides ns) ≡ length ns
length-whole_strides [] = refl
length-whole_strides (n ∷ ns) = ap suc (length-whole_strides ns)

pub kept_whole : (ns : List ℕ) → kept_strides ns (whole_strides ns) ≡ whole_strides ns
kept_whole [] = refl
kept_whole (n ∷ ns) =
    ap₂ (λ x xs. x ∷ xs) (elim (n == 1) as (λ b. cond b (pos 0) (cond b (pos 0) (pos (positions ns))) ≡ cond b (pos 0) (pos (positions ns))) [ true ↦ refl | false ↦ refl ]) (kept_whole ns)

pub keeps : (ns : List ℕ) (ss : List ℤ) → length ss ≡ length ns → strides_kept ns (kept_strides ns ss) ≡ true
keeps [] [] h = refl
keeps [] (s ∷ ss) h = absurd (omega arith)
keeps (n ∷ ns) [] h = absurd (omega arith)
keeps (n ∷ ns) (s ∷ ss) h =
    elim (n == 1) as (λ b. ((not b || is_zero (cond b (pos 0) s)) && strides_kept ns (kept_strides ns ss)) ≡ true) [ true ↦ keeps ns ss (omega arith) | false ↦ keeps ns ss (omega arith) ]

pub as_many : (ns : List ℕ) (ss : List ℤ) → strides_kept ns ss ≡ true → length ss ≡ length ns
as_many [] [] e = refl
as_many [] (s ∷ ss) e = absurd (let f : false ≡ true = e in cc)
as_many (n ∷ ns) [] e = absurd (let f : false ≡ true = e in cc)
as_many (n ∷ ns) (s ∷ ss) e = ap suc (as_many ns ss (and_parts (not (n == 1) || is_zero s) (strides_kept ns ss) e).1)

-- ---- a whole base is its elements in order

range-append : (a m n : ℕ) → range_with_len a (m + n) ≡ range_with_len a m ++ range_with_len (a + m) n
range-append a zero n = ap₂ range_with_len (let e : a ≡ a + 0 = omega arith in e) (let e : 0 + n ≡ n = omega arith in e)
range-append a (suc m) n =
    ap (range_with_len a) (let e : suc m + n ≡ suc (m + n) = omega arith in e) ∙ ap (λ xs. a ∷ xs) (range-append (a + 1) m n)
    ∙ ap (λ k. a ∷ (range_with_len (a + 1) m ++ range_with_len k n)) (let e : (a + 1) + m ≡ a + suc m = omega arith in e)

whole_steps : (f : ℤ → List ℤ) (p : ℕ) → ((k : ℕ) → f (pos k) ≡ map pos (range_with_len k p)) → (n k : ℕ) → at_steps f n (pos p) (pos k) ≡ map pos (range_with_len k (n * p))
whole_steps f p h zero k = ap (λ m. map pos (range_with_len k m)) (let e : 0 ≡ 0 * p = omega arith in e)
whole_steps f p h (suc n) k =
    ap₂ (λ xs ys. xs ++ ys) (h k) (whole_steps f p h n (k + p)) ∙ sym (map-append pos (range_with_len k p) (range_with_len (k + p) (n * p)))
    ∙ ap (map pos) (sym (range-append k p (n * p))) ∙ ap (λ m. map pos (range_with_len k m)) (let e : p + n * p ≡ suc n * p = omega arith in e)

pub whole_places : (ns : List ℕ) (k : ℕ) → places ns (whole_strides ns) (pos k) ≡ map pos (range_with_len k (positions ns))
whole_places [] k = refl
whole_places (n ∷ ns) k =
    elim (n == 1) as (λ b. (n == 1) ≡ b → at_steps (places ns (whole_strides ns)) n (cond b (pos 0) (pos (positions ns))) (pos k) ≡ map pos (range_with_len k (n * positions ns))) [
      | true ↦ λ e.
          let one : n ≡ 1 = eqb-true n 1 e in
          ap (λ m. at_steps (places ns (whole_strides ns)) m (pos 0) (pos k)) one ∙ append-nil (places ns (whole_strides ns) (pos k)) ∙ whole_places ns k
          ∙ ap (λ m. map pos (range_with_len k m)) ((let e : positions ns ≡ 1 * positions ns = omega arith in e) ∙ ap (λ m. m * positions ns) (sym one))
      | false ↦ λ e. whole_steps (places ns (whole_strides ns)) (positions ns) (whole_places ns) n k
    ] refl

pub whole_elements : (base : ℕ) (ns : List ℕ) → elements (whole_view base ns) ≡ range_with_len 0 (positions ns)
unfolding elements
whole_elements base ns = ap (map to_place) (whole_places ns 0) ∙ back (range_with_len 0 (positions ns))
  where
    back : (xs : List ℕ) → map to_place (map pos xs) ≡ xs
    back [] = refl
    back (x ∷ xs) = ap (λ ys. x ∷ ys) (back xs)
