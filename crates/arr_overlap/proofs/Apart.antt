-- Views that meet or don't, told by tests of all their elements.
use Rattle.std.proofs.Common.{◌⊎◌, inl, inr, ◌<◌, ◌≡◌, ℕ, ◌≤◌, List, [], ◌∷◌, Bool, true, false, length, refl, ap, ap₂, sym, ◌∙◌, pos, arith}
use Rattle.std.specs.Prelude.{nat_le, ◌==◌, ◌&&◌, ◌||◌, Option, Some, None}
use Rattle.std.specs.List.{list_all}
use Rattle.std.proofs.lemmas.Bool.{leb-true, and_parts, eqb-true, eq-eqb, false_from_ne_true}
use Rattle.std.proofs.lemmas.List.{length-map}
use Rattle.arr_view.specs.Strided.{Strided}
use Rattle.arr_view.specs.Views.{elements, has, identical, is_view, lies, overlap, places, positions, same_lists, share, to_place}
use Rattle.arr_view.proofs.Checks.{lawful, same_rank}
use Rattle.arr_view.proofs.Counting.{some_position}
use Rattle.arr_view.proofs.Places.{length-places}
use Rattle.arr_view.proofs.Ends.{passes}
use Rattle.arr_view.proofs.Known.{same_lists-true}

-- no number passes both tests, so none stands in both lists
pub apart : (p q : ℕ → Bool) (xs ys : List ℕ) → list_all p xs ≡ true → list_all q ys ≡ true → ((x : ℕ) → p x ≡ true → q x ≡ true → ⊥) → share xs ys ≡ false
apart p q [] ys a b never = refl
apart p q (x ∷ xs) ys a b never =
    let parts = and_parts (p x) (list_all p xs) a in
    let here : has ys x ≡ false = false_from_ne_true (has ys x) (λ h. never x parts.0 (passes q ys x b h)) in
    ap₂ (λ c d. c || d) here (apart p q xs ys parts.1 b never)

-- a list with an element shares it with itself
shares_itself : (xs : List ℕ) → 1 ≤ length xs → share xs xs ≡ true
shares_itself [] l = absurd (omega arith)
shares_itself (x ∷ xs) l = ap (λ b. (b || has xs x) || share xs (x ∷ xs)) (eq-eqb x x refl)

some_element : (v : Strided) → is_view v ≡ true → 1 ≤ length (elements v)
unfolding elements
some_element v law =
    let some : 1 ≤ positions v.lengths = some_position v.lengths (lawful v law).lengths in
    let long : length (elements v) ≡ positions v.lengths = length-map (places v.lengths v.strides (pos v.start)) to_place ∙ length-places v.lengths v.strides (pos v.start) (same_rank v law) in
    omega arith

pub meets_itself : (v : Strided) → is_view v ≡ true → overlap v v ≡ true
meets_itself v law = ap₂ (λ c d. c && d) (eq-eqb v.base v.base refl) (shares_itself (elements v) (some_element v law))

pub identical_meet : (v w : Strided) → is_view v ≡ true → identical v w ≡ true → overlap v w ≡ true
identical_meet v w law e =
    let a = and_parts (v.base == w.base) _ e in
    let b = and_parts (same_lists v.lengths w.lengths) _ a.1 in
    ap₂ (λ c d. c && d) a.0 (ap (share (elements v)) (sym (same_lists-true (elements v) (elements w) b.1)) ∙ shares_itself (elements v) (some_element v law))

-- where nothing is told of two views, they have one base
pub undecided_base : (v w : Strided) (told : Option Bool) → ((v.base == w.base) ≡ false → told ≡ Some false) → told ≡ None → v.base ≡ w.base
undecided_base v w told h none =
    elim (v.base == w.base) as (λ b. (v.base == w.base) ≡ b → v.base ≡ w.base) [
      | true ↦ λ e. eqb-true v.base w.base e
      | false ↦ λ e.
          let some : told ≡ Some false = h e in
          absurd (cc)
    ] refl

-- ranges apart have no number in common
pub ranges_apart : (l h l' h' : ℕ) → (h < l') ⊎ (h' < l) → (x : ℕ) → lies l h x ≡ true → lies l' h' x ≡ true → ⊥
ranges_apart l h l' h' apart x a b =
    let p = and_parts (nat_le l x) (nat_le x h) a in
    let q = and_parts (nat_le l' x) (nat_le x h') b in
    let p0 : l ≤ x = leb-true l x p.0 in
    let p1 : x ≤ h = leb-true x h p.1 in
    let q0 : l' ≤ x = leb-true l' x q.0 in
    let q1 : x ≤ h' = leb-true x h' q.1 in
    elim apart [ inl o ↦ omega arith | inr o ↦ omega arith ]
