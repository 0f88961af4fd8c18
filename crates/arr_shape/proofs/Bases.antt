-- Views of a base by their strides.
use Rattle.std.proofs.Common.{◌≡◌, ℕ, zero, suc, ◌≤◌, ℤ, pos, negsuc, ◌+ℤ◌, ◌≤ℤ◌, ◌<ℤ◌, List, [], ◌∷◌, ◌++◌, Bool, true, false, cond, not, ◌&&◌, length, map, refl, ap, ap₂, sym, ◌∙◌, subst, arith}
use Rattle.std.specs.Prelude.{nat_le, nat_lt, ◌==◌, Option, Some, None, option_map, ok_or, Result, Ok, Err}
use Rattle.std.specs.List.{list_all}
use Rattle.std.proofs.lemmas.Int.{ints}
use Rattle.std.proofs.lemmas.Bool.{and_parts, and_from, and_left, eqb-true, eqb-false, eq-eqb, ne_eqb, lt-ltb, false≢true, false_from_ne_true}
use Rattle.arr_view.specs.Strided.{Strided}
use Rattle.arr_view.specs.Views.{elements, at_steps, places, is_place, to_place, kept_strides, view_from}
use Rattle.arr_view.proofs.Places.{Inside, steps, out_steps, at_first, begins_inside, place_low, place_high, starts_high}
use Rattle.arr_view.proofs.Strides.{keeps}
use Rattle.arr_view.proofs.Checks.{place_refused}
use Rattle.arr_shape.specs.declared.fault.ShapeFault.{ShapeFault}
use Rattle.arr_shape.specs.declared.fault.ShapeFault.TheVariants.{RankRange, OutsideBase}
use Rattle.arr_shape.specs.Views.{is_within, is_narrow, narrowed, strided}
use Rattle.arr_shape.proofs.Shapes.{IsShape}
use Rattle.arr_shape.proofs.Made.{Sound, strided_of, made, kept_same}

-- ---- the places depend on the strides that are kept

same_steps : (f g : ℤ → List ℤ) → ((z : ℤ) → f z ≡ g z) → (n : ℕ) (s z : ℤ) → at_steps f n s z ≡ at_steps g n s z
same_steps f g h zero s z = refl
same_steps f g h (suc n) s z = ap₂ (λ xs ys. xs ++ ys) (h z) (same_steps f g h n s (z +ℤ s))

lone_step : (f : ℤ → List ℤ) (n : ℕ) (s z : ℤ) (b : Bool) → (n == 1) ≡ b → at_steps f n (cond b (pos 0) s) z ≡ at_steps f n s z
lone_step f n s z false e = refl
lone_step f n s z true e =
    let one : n ≡ 1 = eqb-true n 1 e in
    ap (λ k. at_steps f k (pos 0) z) one ∙ ap (λ k. at_steps f k s z) (sym one)

pub places_kept : (ns : List ℕ) (ss : List ℤ) (z : ℤ) → places ns (kept_strides ns ss) z ≡ places ns ss z
places_kept [] ss z = refl
places_kept (n ∷ ns) [] z = refl
places_kept (n ∷ ns) (s ∷ ss) z =
    same_steps (places ns (kept_strides ns ss)) (places ns ss) (places_kept ns ss) n (cond (n == 1) (pos 0) s) z ∙ lone_step (places ns ss) n s z (n == 1) refl

-- ---- a stride that leads from one place to another is narrow

narrow_gap : (x s : ℤ) → is_place x ≡ true → is_place (x +ℤ s) ≡ true → is_narrow s ≡ true
narrow_gap x (pos k) a b =
    let low : pos 0 ≤ℤ x = place_low x a in
    let high : (x +ℤ pos k) <ℤ pos 1048576 = place_high (x +ℤ pos k) b in
    lt-ltb k 1048576 (omega (arith, ints))
narrow_gap x (negsuc k) a b =
    let high : x <ℤ pos 1048576 = place_high x a in
    let low : pos 0 ≤ℤ (x +ℤ negsuc k) = place_low (x +ℤ negsuc k) b in
    lt-ltb (suc k) 1048576 (omega (arith, ints))

first_narrow : (n : ℕ) (ns : List ℕ) (s : ℤ) (ss : List ℤ) (z : ℤ) → list_all (nat_le 1) ns ≡ true → length ss ≡ length ns → Inside (suc n ∷ ns) (s ∷ ss) z
    → (b : Bool) → (suc n == 1) ≡ b → is_narrow (cond b (pos 0) s) ≡ true
first_narrow n ns s ss z all same inside true e = refl
first_narrow n ns s ss z all same inside false e =
    let many : suc n ≡ 1 → ⊥ = eqb-false (suc n) 1 e in
    let step : z +ℤ (s +ℤ pos 0) ≡ z +ℤ s = omega (arith, ints) in
    narrow_gap z s (begins_inside ns ss z all same (at_first n s ns ss z inside))
    (subst (λ y. is_place y ≡ true) step (begins_inside ns ss (z +ℤ steps 1 s) all same (out_steps is_place (places ns ss) (suc n) s z inside 1 (omega arith))))

pub all_narrow : (ns : List ℕ) (ss : List ℤ) (z : ℤ) → list_all (nat_le 1) ns ≡ true → length ss ≡ length ns → Inside ns ss z → list_all is_narrow (kept_strides ns ss) ≡ true
all_narrow [] [] z all same inside = refl
all_narrow [] (s ∷ ss) z all same inside = absurd (omega arith)
all_narrow (n ∷ ns) [] z all same inside = refl
all_narrow (zero ∷ ns) (s ∷ ss) z all same inside = absurd (false≢true all)
all_narrow (suc n ∷ ns) (s ∷ ss) z all same inside =
    let rest = (and_parts (nat_le 1 (suc n)) (list_all (nat_le 1) ns) all).1 in
    let level : length ss ≡ length ns = omega arith in
    and_from (is_narrow (cond (suc n == 1) (pos 0) s)) (list_all is_narrow (kept_strides ns ss)) (first_narrow n ns s ss z rest level inside (suc n == 1) refl)
    (all_narrow ns ss z rest level (at_first n s ns ss z inside))

-- ---- places and elements

regroup : (a b c d : Bool) → ((a && b) && (c && d)) ≡ ((a && c) && (b && d))
regroup true b true d = refl
regroup true true false d = refl
regroup true false false d = refl
regroup false b c d = refl

pub within_parts : (count : ℕ) (zs : List ℤ) → list_all (is_within count) zs ≡ (list_all is_place zs && list_all (λ e. nat_lt e count) (map to_place zs))
within_parts count [] = refl
within_parts count (z ∷ zs) =
    ap (λ b. is_within count z && b) (within_parts count zs)
    ∙ regroup (is_place z) (nat_lt (to_place z) count) (list_all is_place zs) (list_all (λ e. nat_lt e count) (map to_place zs))

pub as_places : (zs : List ℤ) → list_all is_place zs ≡ true → map pos (map to_place zs) ≡ zs
as_places [] e = refl
as_places (pos n ∷ zs) e = ap (λ xs. pos n ∷ xs) (as_places zs (and_parts (is_place (pos n)) (list_all is_place zs) e).1)
as_places (negsuc n ∷ zs) e = absurd (false≢true e)

-- ---- the answers

abbrev pub answer : ℕ → ℕ → List ℕ → List ℤ → Bool → Bool → Result Strided ShapeFault
answer base start ns ss a b = cond (not a) (Err RankRange) (cond (not b) (Err OutsideBase) (Ok (strided_of base start ns (kept_strides ns ss))))

pub other_rank : (base count start : ℕ) (ns : List ℕ) (ss : List ℤ) → (length ss ≡ length ns → ⊥) → strided base count start ns ss ≡ Err RankRange
other_rank base count start ns ss h = ap (λ a. answer base start ns ss a (list_all (is_within count) (places ns ss (pos start)))) (ne_eqb (length ss) (length ns) h)

module _ (base count start : ℕ) (ns : List ℕ) (ss : List ℤ) (same : length ss ≡ length ns) where
  by_test : (b : Bool) → list_all (is_within count) (places ns ss (pos start)) ≡ b → strided base count start ns ss ≡ answer base start ns ss true b
  by_test b e =
      ap (λ a. answer base start ns ss a (list_all (is_within count) (places ns ss (pos start)))) (eq-eqb (length ss) (length ns) same) ∙ ap (answer base start ns ss true) e

  place_outside : list_all is_place (places ns ss (pos start)) ≡ false → strided base count start ns ss ≡ Err OutsideBase
  place_outside e = by_test false (within_parts count (places ns ss (pos start)) ∙ and_left (list_all is_place (places ns ss (pos start))) _ e)

  pub start_outside : list_all (nat_le 1) ns ≡ true → 1048576 ≤ start → strided base count start ns ss ≡ Err OutsideBase
  start_outside all h = place_outside (sym (starts_high ns ss start same all h))

  pub stride_outside : list_all (nat_le 1) ns ≡ true → list_all is_narrow (kept_strides ns ss) ≡ false → strided base count start ns ss ≡ Err OutsideBase
  stride_outside all e =
      place_outside (false_from_ne_true (list_all is_place (places ns ss (pos start))) (λ x. false≢true (sym e ∙ all_narrow ns ss (pos start) all same x)))

  sound_kept : IsShape ns → Inside ns ss (pos start) → Sound start ns (kept_strides ns ss)
  sound_kept good inside =
      record {
        rank = good.rank;
        lengths = good.lengths;
        kept = keeps ns ss same;
        size = good.size;
        inside = ap (list_all is_place) (places_kept ns ss (pos start)) ∙ inside;
      }

  view_refused : list_all is_place (places ns ss (pos start)) ≡ false → None ≡ view_from base start ns (kept_strides ns ss)
  view_refused e =
      place_refused base start ns (kept_strides ns ss)
      (ap (λ rs. list_all is_place (places ns rs (pos start))) (kept_same ns (kept_strides ns ss) (keeps ns ss same)) ∙ ap (list_all is_place) (places_kept ns ss (pos start)) ∙ e)

  pub view_outside : IsShape ns → None ≡ view_from base start ns (kept_strides ns ss) → strided base count start ns ss ≡ Err OutsideBase
  view_outside good e =
      place_outside (false_from_ne_true (list_all is_place (places ns ss (pos start))) (λ x.
      let f : None ≡ Some (strided_of base start ns (kept_strides ns ss)) = e ∙ made base start ns (kept_strides ns ss) (sound_kept good x) in
      cc))

  -- where there is a view, it is the one of these parts, and its places are those of the strides as given
  view_there : (v : Strided) → IsShape ns → Some v ≡ view_from base start ns (kept_strides ns ss) → (b : Bool) → list_all is_place (places ns ss (pos start)) ≡ b
      → (v ≡ strided_of base start ns (kept_strides ns ss)) × Inside ns ss (pos start)
  view_there v good e true h =
      let f : Some v ≡ Some (strided_of base start ns (kept_strides ns ss)) = e ∙ made base start ns (kept_strides ns ss) (sound_kept good h) in
      (cc, h)
  view_there v good e false h = absurd (let f : Some v ≡ None = e ∙ sym (view_refused h) in cc)

  there : (v : Strided) → IsShape ns → Some v ≡ view_from base start ns (kept_strides ns ss) → (v ≡ strided_of base start ns (kept_strides ns ss)) × Inside ns ss (pos start)
  there v good e = view_there v good e (list_all is_place (places ns ss (pos start))) refl

  elements_kept : elements (strided_of base start ns (kept_strides ns ss)) ≡ map to_place (places ns ss (pos start))
  unfolding elements
  elements_kept = ap (map to_place) (places_kept ns ss (pos start))

  pub tested : (v : Strided) → IsShape ns → Some v ≡ view_from base start ns (kept_strides ns ss) → (b : Bool) → list_all (λ e. nat_lt e count) (elements v) ≡ b
      → strided base count start ns ss ≡ cond b (Ok v) (Err OutsideBase)
  tested v good e b h =
      let t = there v good e in
      let all : list_all (λ e. nat_lt e count) (map to_place (places ns ss (pos start))) ≡ b =
      ap (list_all (λ e. nat_lt e count)) (sym elements_kept ∙ ap elements (sym t.0)) ∙ h in
      by_test b (within_parts count (places ns ss (pos start)) ∙ ap (λ a. a && list_all (λ e. nat_lt e count) (map to_place (places ns ss (pos start)))) t.1 ∙ all)
      ∙ turned b ∙ ap (λ (w : Strided). cond b (Ok w) (Err OutsideBase)) (sym t.0)
    where
      turned : (b : Bool) → answer base start ns ss true b ≡ cond b (Ok (strided_of base start ns (kept_strides ns ss))) (Err OutsideBase)
      turned true = refl
      turned false = refl

  pub elements_there : (v : Strided) → IsShape ns → Some v ≡ view_from base start ns (kept_strides ns ss) → map pos (elements v) ≡ places ns ss (pos start)
  elements_there v good e =
      let t = there v good e in
      ap (map pos) (ap elements t.0 ∙ elements_kept) ∙ as_places (places ns ss (pos start)) t.1

-- ---- what an answer of narrowed strides says

pub none_of : {X : Type 0} (o : Option X) (e f : ShapeFault) → Err e ≡ ok_or o f → (o ≡ None) × (e ≡ f)
none_of None e f h = (refl, cc)
none_of (Some x) e f h = absurd cc

pub some_of : {X : Type 0} (x : X) (o : Option X) (f : ShapeFault) → Ok x ≡ ok_or o f → o ≡ Some x
some_of x None f h = absurd cc
some_of x (Some y) f h = cc

module _ (ns : List ℕ) (ss : List ℤ) where
  wide_by : (b : Bool) → None ≡ cond b (Some (kept_strides ns ss)) None → b ≡ false
  wide_by true e = absurd cc
  wide_by false e = refl

  kept_by : (ks : List ℤ) (b : Bool) → Some ks ≡ cond b (Some (kept_strides ns ss)) None → ks ≡ kept_strides ns ss
  kept_by ks true e = cc
  kept_by ks false e = absurd cc

  pub wide_one : {X : Type 0} (items : X → List ℤ) (o : Option X) → option_map items o ≡ narrowed ns ss → o ≡ None → list_all is_narrow (kept_strides ns ss) ≡ false
  wide_one items o h e = wide_by (list_all is_narrow (kept_strides ns ss)) (ap (option_map items) (sym e) ∙ h)

  pub narrow_all : {X : Type 0} (items : X → List ℤ) (o : Option X) (x : X) → option_map items o ≡ narrowed ns ss → o ≡ Some x → items x ≡ kept_strides ns ss
  narrow_all items o x h e = kept_by (items x) (list_all is_narrow (kept_strides ns ss)) (ap (option_map items) (sym e) ∙ h)
