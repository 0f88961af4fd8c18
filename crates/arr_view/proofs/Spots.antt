-- The place of a position, one dimension after another.
use Rattle.std.proofs.Common.{◌≡◌, ℕ, ◌+◌, ◌-◌, ◌*◌, ◌/◌, ◌%◌, ◌<◌, ◌≤◌, ℤ, pos, ◌+ℤ◌, ◌*ℤ◌, List, [], ◌∷◌, true, length, get_or, drop, refl, ap, ap₂, sym, ◌∙◌, subst, arith, length-drop}
use Rattle.std.specs.Prelude.{nat_le}
use Rattle.std.specs.List.{list_all}
use Rattle.std.proofs.lemmas.Nat.{div-add-mod', div_below, mod_below}
use Rattle.std.proofs.lemmas.List.{drop_more, drop_all, get_or-map}
use Rattle.arr_view.specs.Strided.{Strided}
use Rattle.arr_view.specs.Views.{places, positions, is_place, elements, to_place}
use Rattle.arr_view.proofs.Places.{Inside, steps, steps_is, get_steps, out_steps, length-places, first_left, lengths_from}
use Rattle.arr_view.proofs.Counting.{some_position}
use Rattle.arr_view.proofs.Strides.{rest_turn}

-- after i dimensions: the position p of all is the position `left` of the rest, from `place` on
pub record Spot (ns : List ℕ) (ss : List ℤ) (z : ℤ) (p i : ℕ) (place : ℤ) (rest left : ℕ) : Type 0 where
  pub size : rest ≡ positions (drop i ns)
  pub below : left < rest
  pub inside : Inside (drop i ns) (drop i ss) place
  pub value : get_or (places (drop i ns) (drop i ss) place) left (pos 0) ≡ get_or (places ns ss z) p (pos 0)

pub spot_start : (ns : List ℕ) (ss : List ℤ) (z : ℤ) (p : ℕ) → Inside ns ss z → p < positions ns → Spot ns ss z p 0 z (positions ns) p
spot_start ns ss z p h l = record { size = refl; below = l; inside = h; value = refl }

pub spot_place : (ns : List ℕ) (ss : List ℤ) (z : ℤ) (p i : ℕ) (place : ℤ) (rest left : ℕ) → length ss ≡ length ns → list_all (nat_le 1) ns ≡ true → Spot ns ss z p i place rest left → is_place place ≡ true
spot_place ns ss z p i place rest left same all spot = first_left ns ss i place same all spot.inside

module _ (ns : List ℕ) (ss : List ℤ) (z : ℤ) (p i : ℕ) (place : ℤ) (rest left : ℕ) (same : length ss ≡ length ns) (all : list_all (nat_le 1) ns ≡ true) (l : i < length ns)
    (spot : Spot ns ss z p i place rest left) where
  pub smaller : (m : ℕ) → m ≡ rest / get_or ns i 0 → 0 < m
  smaller m e =
      let some : 1 ≤ positions (drop (i + 1) ns) = some_position (drop (i + 1) ns) (lengths_from (i + 1) ns all) in
      let same : m ≡ positions (drop (i + 1) ns) = e ∙ rest_turn ns i rest all l spot.size in
      omega arith

  pub index_below : (m : ℕ) → m ≡ rest / get_or ns i 0 → left / m < get_or ns i 0
  index_below m e =
      let whole : rest ≡ get_or ns i 0 * positions (drop (i + 1) ns) = spot.size ∙ ap positions (drop_more ns i 0 l) in
      let same : m ≡ positions (drop (i + 1) ns) = e ∙ rest_turn ns i rest all l spot.size in
      div_below left m (get_or ns i 0) (smaller m e) (subst (λ k. left < get_or ns i 0 * k) (sym same) (subst (λ k. left < k) whole spot.below))

  pub spot_turn : (m : ℕ) (far : ℤ) → m ≡ rest / get_or ns i 0 → far ≡ pos (left / m) *ℤ get_or ss i (pos 0) → Spot ns ss z p (i + 1) (place +ℤ far) m (left % m)
  spot_turn m far e f =
      let n : ℕ = get_or ns i 0 in
      let s : ℤ = get_or ss i (pos 0) in
      let same_rest : m ≡ positions (drop (i + 1) ns) = e ∙ rest_turn ns i rest all l spot.size in
      let some : 0 < m = smaller m e in
      let q : ℕ = left / m in
      let moved : far ≡ steps q s = f ∙ sym (steps_is q s) in
      let nss = drop_more ns i 0 l in
      let sss = drop_more ss i (pos 0) (let h : i < length ss = omega arith in h) in
      let long : (y : ℤ) → length (places (drop (i + 1) ns) (drop (i + 1) ss) y) ≡ m =
      λ y. length-places (drop (i + 1) ns) (drop (i + 1) ss) y (length-drop (i + 1) ss ∙ ap (λ k. k - (i + 1)) same ∙ sym (length-drop (i + 1) ns)) ∙ sym same_rest in
      let here : Inside (n ∷ drop (i + 1) ns) (s ∷ drop (i + 1) ss) place = sym (ap₂ (λ a b. list_all is_place (places a b place)) nss sss) ∙ spot.inside in
      let inside_there : Inside (drop (i + 1) ns) (drop (i + 1) ss) (place +ℤ steps q s) =
      out_steps is_place (places (drop (i + 1) ns) (drop (i + 1) ss)) n s place here q (index_below m e) in
      record {
        size = same_rest;
        below = mod_below left m some;
        inside = subst (λ t. Inside (drop (i + 1) ns) (drop (i + 1) ss) (place +ℤ t)) (sym moved) inside_there;
        value =
            ap (λ t. get_or (places (drop (i + 1) ns) (drop (i + 1) ss) (place +ℤ t)) (left % m) (pos 0)) moved
            ∙ sym (get_steps (places (drop (i + 1) ns) (drop (i + 1) ss)) m long n s place q (left % m) (pos 0) (index_below m e) (mod_below left m some))
            ∙ ap (λ k. get_or (places (n ∷ drop (i + 1) ns) (s ∷ drop (i + 1) ss) place) k (pos 0)) (div-add-mod' left m)
            ∙ sym (ap₂ (λ a b. get_or (places a b place) left (pos 0)) nss sss)
            ∙ spot.value;
      }

pub spot_end : (v : Strided) (p i : ℕ) (place : ℤ) (rest left : ℕ) → length v.strides ≡ length v.lengths → p < positions v.lengths → length v.lengths ≤ i
    → Spot v.lengths v.strides (pos v.start) p i place rest left → to_place place ≡ get_or (elements v) p 0
unfolding elements
spot_end v p i place rest left same h l spot =
    let none : drop i v.lengths ≡ [] = drop_all i v.lengths l in
    let one : rest ≡ 1 = spot.size ∙ ap positions none in
    let at : left < rest = spot.below in
    let zero_left : left ≡ 0 = omega arith in
    let here : place ≡ get_or (places v.lengths v.strides (pos v.start)) p (pos 0) =
    sym (ap₂ (λ ms k. get_or (places ms (drop i v.strides) place) k (pos 0)) none zero_left) ∙ spot.value in
    ap to_place here
    ∙ sym (get_or-map to_place (places v.lengths v.strides (pos v.start)) p (pos 0) 0 (subst (λ k. p < k) (sym (length-places v.lengths v.strides (pos v.start) same)) h))
