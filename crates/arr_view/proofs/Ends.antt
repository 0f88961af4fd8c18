-- The least and the greatest element of a view, one dimension after another.
use Rattle.std.proofs.Common.{◌≡◌, ℕ, ◌+◌, ◌-◌, ◌<◌, ◌≤◌, ℤ, pos, negsuc, ◌+ℤ◌, ◌≤ℤ◌, ◌<ℤ◌, List, [], ◌∷◌, Bool, true, false, length, map, drop, get_or, refl, ap, ap₂, sym, ◌∙◌, arith, inl, inr, suc, subst, zero}
use Rattle.std.specs.Prelude.{nat_le, nat_lt, nat_eq, ◌||◌, ◌==◌}
use Rattle.std.specs.List.{list_all, list_any}
use Rattle.std.proofs.lemmas.Int.{ints}
use Rattle.std.proofs.lemmas.Bool.{and_from, and_parts, eq-eqb, eqb-true, false≢true, le-leb, leb-false, leb-true, lt-ltb, ltb-true}
use Rattle.std.proofs.lemmas.List.{drop_more, drop_all}
use Rattle.std.proofs.lemmas.List.Folds.{list_any-append}
use Rattle.arr_view.specs.Strided.{Strided}
use Rattle.arr_view.specs.Views.{at_steps, elements, has, lies, is_place, is_view, places, to_place}
use Rattle.arr_view.proofs.Checks.{lawful}
use Rattle.arr_view.proofs.Known.{same_tests}
use Rattle.arr_view.proofs.Places.{Inside, Span, Turned, ends_high, ends_low, in_steps, length_at, out_steps, reach, span_start, span_turns, steps, steps_down, steps_is, steps_up}

-- ---- tests that hold on one side

abbrev from_on : ℕ → ℤ → Bool
from_on l (pos n) = nat_le l n
from_on l (negsuc n) = false

abbrev up_to : ℕ → ℤ → Bool
up_to h (pos n) = nat_le n h
up_to h (negsuc n) = true

-- what holds at a place holds at each later one
abbrev pub Rising : (ℤ → Bool) → Type 0
Rising p = (y z : ℤ) → y ≤ℤ z → p y ≡ true → p z ≡ true

-- and at each earlier one
abbrev pub Falling : (ℤ → Bool) → Type 0
Falling p = (y z : ℤ) → z ≤ℤ y → p y ≡ true → p z ≡ true

rising : (l : ℕ) → Rising (from_on l)
rising l (pos m) (pos n) h e =
    let here : l ≤ m = leb-true l m e in
    le-leb l n (omega (arith, ints))
rising l (pos m) (negsuc n) h e = absurd (omega (arith, ints))
rising l (negsuc m) z h e = absurd (false≢true e)

falling : (h : ℕ) → Falling (up_to h)
falling h (pos m) (pos n) l e =
    let here : m ≤ h = leb-true m h e in
    le-leb n h (omega (arith, ints))
falling h (negsuc m) (pos n) l e = absurd (omega (arith, ints))
falling h y (negsuc n) l e = refl

-- ---- places that are moved

abbrev AllPlaces : (ℤ → Bool) → List ℕ → List ℤ → ℤ → Type 0
AllPlaces p ns ss z = list_all p (places ns ss z) ≡ true

moved_up : (p : ℤ → Bool) (ns : List ℕ) (ss : List ℤ) (y z : ℤ) → Rising p → y ≤ℤ z → AllPlaces p ns ss y → AllPlaces p ns ss z
moved_up p [] ss y z up h e = and_from (p z) true (up y z h (and_parts (p y) true e).0) refl
moved_up p (n ∷ ns) [] y z up h e = refl
moved_up p (n ∷ ns) (s ∷ ss) y z up h e =
    in_steps p (places ns ss) n s z (λ i k. moved_up p ns ss (y +ℤ steps i s) (z +ℤ steps i s) up (omega (arith, ints)) (out_steps p (places ns ss) n s y e i k))

moved_down : (p : ℤ → Bool) (ns : List ℕ) (ss : List ℤ) (y z : ℤ) → Falling p → z ≤ℤ y → AllPlaces p ns ss y → AllPlaces p ns ss z
moved_down p [] ss y z down h e = and_from (p z) true (down y z h (and_parts (p y) true e).0) refl
moved_down p (n ∷ ns) [] y z down h e = refl
moved_down p (n ∷ ns) (s ∷ ss) y z down h e =
    in_steps p (places ns ss) n s z (λ i k. moved_down p ns ss (y +ℤ steps i s) (z +ℤ steps i s) down (omega (arith, ints)) (out_steps p (places ns ss) n s y e i k))

-- a place of one step is among those of all steps
any_step : (p : ℤ → Bool) (f : ℤ → List ℤ) (n : ℕ) (s z : ℤ) (i : ℕ) → i < n → list_any p (f (z +ℤ steps i s)) ≡ true → list_any p (at_steps f n s z) ≡ true
any_step p f zero s z i h e = absurd (omega arith)
any_step p f (suc n) s z zero h e =
    let same : z +ℤ pos 0 ≡ z = omega (arith, ints) in
    list_any-append p (f z) (at_steps f n s (z +ℤ s)) ∙ ap (λ b. b || list_any p (at_steps f n s (z +ℤ s))) (subst (λ y. list_any p (f y) ≡ true) same e)
any_step p f (suc n) s z (suc i) h e =
    let same : z +ℤ (s +ℤ steps i s) ≡ (z +ℤ s) +ℤ steps i s = omega (arith, ints) in
    list_any-append p (f z) (at_steps f n s (z +ℤ s))
    ∙ ap (λ b. list_any p (f z) || b) (any_step p f n s (z +ℤ s) i (omega arith) (subst (λ y. list_any p (f y) ≡ true) same e)) ∙ or_true (list_any p (f z))
  where
    or_true : (b : Bool) → (b || true) ≡ true
    or_true true = refl
    or_true false = refl

-- ---- the two ends, after i dimensions

abbrev SomePlace : (ℤ → Bool) → List ℕ → List ℤ → ℤ → Type 0
SomePlace p ns ss z = list_any p (places ns ss z) ≡ true

pub record Ends (ns : List ℕ) (ss : List ℤ) (z : ℤ) (i : ℕ) (low high : ℤ) : Type 0 where
  pub span : Span ns ss z i low high
  pub floor : (p : ℤ → Bool) → Rising p → AllPlaces p (drop i ns) (drop i ss) low → AllPlaces p ns ss z
  pub ceiling : (p : ℤ → Bool) → Falling p → AllPlaces p (drop i ns) (drop i ss) high → AllPlaces p ns ss z
  pub lowest : (p : ℤ → Bool) → SomePlace p (drop i ns) (drop i ss) low → SomePlace p ns ss z
  pub highest : (p : ℤ → Bool) → SomePlace p (drop i ns) (drop i ss) high → SomePlace p ns ss z

next_dimension : (p : ℤ → Bool) (ns : List ℕ) (ss : List ℤ) (i : ℕ) (z : ℤ) → length ss ≡ length ns → i < length ns
    → ((j : ℕ) → j < get_or ns i 0 → AllPlaces p (drop (i + 1) ns) (drop (i + 1) ss) (z +ℤ steps j (get_or ss i (pos 0)))) → AllPlaces p (drop i ns) (drop i ss) z
next_dimension p ns ss i z same l h =
    ap₂ (λ a b. list_all p (places a b z)) (drop_more ns i 0 l) (drop_more ss i (pos 0) (omega arith))
    ∙ in_steps p (places (drop (i + 1) ns) (drop (i + 1) ss)) (get_or ns i 0) (get_or ss i (pos 0)) z h

some_dimension : (p : ℤ → Bool) (ns : List ℕ) (ss : List ℤ) (i j : ℕ) (z y : ℤ) → length ss ≡ length ns → i < length ns → j < get_or ns i 0 → y ≡ z +ℤ steps j (get_or ss i (pos 0))
    → SomePlace p (drop (i + 1) ns) (drop (i + 1) ss) y → SomePlace p (drop i ns) (drop i ss) z
some_dimension p ns ss i j z y same l h y_is e =
    ap₂ (λ a b. list_any p (places a b z)) (drop_more ns i 0 l) (drop_more ss i (pos 0) (omega arith))
    ∙ any_step p (places (drop (i + 1) ns) (drop (i + 1) ss)) (get_or ns i 0) (get_or ss i (pos 0)) z j h (subst (λ x. SomePlace p (drop (i + 1) ns) (drop (i + 1) ss) x) y_is e)

-- the ends of all places are places
not_low : (x : ℤ) → (x <ℤ pos 0 → ⊥) → pos 0 ≤ℤ x
not_low (pos n) never = omega (arith, ints)
not_low (negsuc n) never = absurd (never (omega (arith, ints)))

not_high : (x : ℤ) → (pos 1048576 ≤ℤ x → ⊥) → x <ℤ pos 1048576
not_high (pos n) never =
    elim (nat_le 1048576 n) as (λ b. nat_le 1048576 n ≡ b → pos n <ℤ pos 1048576) [
      | true ↦ λ e.
          let over : 1048576 ≤ n = leb-true 1048576 n e in
          absurd (never (omega (arith, ints)))
      | false ↦ λ e.
          let under : n < 1048576 = leb-false 1048576 n e in
          omega (arith, ints)
    ] refl
not_high (negsuc n) never = omega (arith, ints)

stays_low : (ns : List ℕ) (ss : List ℤ) (z : ℤ) (i : ℕ) (low high r : ℤ) → length ss ≡ length ns → list_all (nat_le 1) ns ≡ true → i < length ns
    → Span ns ss z i low high → r ≡ reach (get_or ns i 0) (get_or ss i (pos 0)) → Inside ns ss z → pos 0 ≤ℤ (low +ℤ r)
stays_low ns ss z i low high r same all l span e inside =
    not_low (low +ℤ r) (λ out. false≢true (ends_low ns ss z i low high r same all l span e out ∙ inside))

stays_high : (ns : List ℕ) (ss : List ℤ) (z : ℤ) (i : ℕ) (low high r : ℤ) → length ss ≡ length ns → list_all (nat_le 1) ns ≡ true → i < length ns
    → Span ns ss z i low high → r ≡ reach (get_or ns i 0) (get_or ss i (pos 0)) → Inside ns ss z → (high +ℤ r) <ℤ pos 1048576
stays_high ns ss z i low high r same all l span e inside =
    not_high (high +ℤ r) (λ out. false≢true (ends_high ns ss z i low high r same all l span e out ∙ inside))

pub ends_start : (ns : List ℕ) (ss : List ℤ) (n : ℕ) → n < 1048576 → Ends ns ss (pos n) 0 (pos n) (pos n)
ends_start ns ss n h = record { span = span_start ns ss n h; floor = λ p up x. x; ceiling = λ p down x. x; lowest = λ p x. x; highest = λ p x. x }

-- one dimension more
pub ends_turn : (ns : List ℕ) (ss : List ℤ) (z : ℤ) (i : ℕ) (low high r low' high' : ℤ) → length ss ≡ length ns → list_all (nat_le 1) ns ≡ true → i < length ns → Inside ns ss z
    → Ends ns ss z i low high → r ≡ reach (get_or ns i 0) (get_or ss i (pos 0)) → Turned (get_or ss i (pos 0)) r low high low' high' → Ends ns ss z (i + 1) low' high'
ends_turn ns ss z i low high r low' high' same all l inside ends e (inl t) =
    let k : ℕ = get_or ns i 0 - 1 in
    let s : ℤ = get_or ss i (pos 0) in
    let ms : List ℕ = drop (i + 1) ns in
    let ts : List ℤ = drop (i + 1) ss in
    let down : s ≤ℤ pos 0 = t.0 in
    let some : 1 ≤ get_or ns i 0 = length_at i ns all l in
    let far : r ≡ steps k s = e ∙ sym (steps_is k s) in
    let low_is : low' ≡ low +ℤ r = t.1 in
    let high_is : high' ≡ high = t.2 in
    let to : high <ℤ pos 1048576 = ends.span.to in
    let from : pos 0 ≤ℤ (low +ℤ r) = stays_low ns ss z i low high r same all l ends.span e inside in
    record {
      span = span_turns ns ss z i low high r low' high' same all l ends.span e (inl t) (omega (arith, ints)) (omega (arith, ints));
      floor = λ p up x.
          ends.floor p up (next_dimension p ns ss i low same l (λ j h.
          let way : (steps j s ≤ℤ pos 0) × (steps k s ≤ℤ steps j s) = steps_down j k s down (omega arith) in
          moved_up p ms ts low' (low +ℤ steps j s) up (omega (arith, ints, way.1)) x));
      ceiling = λ p falls x.
          ends.ceiling p falls (next_dimension p ns ss i high same l (λ j h.
          let way : (steps j s ≤ℤ pos 0) × (steps k s ≤ℤ steps j s) = steps_down j k s down (omega arith) in
          moved_down p ms ts high' (high +ℤ steps j s) falls (omega (arith, ints, way.0)) x));
      lowest = λ p x. ends.lowest p (some_dimension p ns ss i k low low' same l (omega arith) (omega (arith, ints)) x);
      highest = λ p x. ends.highest p (some_dimension p ns ss i 0 high high' same l (omega arith) (omega (arith, ints)) x);
    }
ends_turn ns ss z i low high r low' high' same all l inside ends e (inr t) =
    let k : ℕ = get_or ns i 0 - 1 in
    let s : ℤ = get_or ss i (pos 0) in
    let ms : List ℕ = drop (i + 1) ns in
    let ts : List ℤ = drop (i + 1) ss in
    let up : pos 0 ≤ℤ s = t.0 in
    let some : 1 ≤ get_or ns i 0 = length_at i ns all l in
    let far : r ≡ steps k s = e ∙ sym (steps_is k s) in
    let low_is : low' ≡ low = t.1 in
    let high_is : high' ≡ high +ℤ r = t.2 in
    let from : pos 0 ≤ℤ low = ends.span.from in
    let to : (high +ℤ r) <ℤ pos 1048576 = stays_high ns ss z i low high r same all l ends.span e inside in
    record {
      span = span_turns ns ss z i low high r low' high' same all l ends.span e (inr t) (omega (arith, ints)) (omega (arith, ints));
      floor = λ p rises x.
          ends.floor p rises (next_dimension p ns ss i low same l (λ j h.
          let way : (pos 0 ≤ℤ steps j s) × (steps j s ≤ℤ steps k s) = steps_up j k s up (omega arith) in
          moved_up p ms ts low' (low +ℤ steps j s) rises (omega (arith, ints, way.0)) x));
      ceiling = λ p falls x.
          ends.ceiling p falls (next_dimension p ns ss i high same l (λ j h.
          let way : (pos 0 ≤ℤ steps j s) × (steps j s ≤ℤ steps k s) = steps_up j k s up (omega arith) in
          moved_down p ms ts high' (high +ℤ steps j s) falls (omega (arith, ints, way.1)) x));
      lowest = λ p x. ends.lowest p (some_dimension p ns ss i 0 low low' same l (omega arith) (omega (arith, ints)) x);
      highest = λ p x. ends.highest p (some_dimension p ns ss i k high high' same l (omega arith) (omega (arith, ints)) x);
    }

-- ---- the elements between the ends

both_sides : (l h : ℕ) (zs : List ℤ) → list_all is_place zs ≡ true → list_all (from_on l) zs ≡ true → list_all (up_to h) zs ≡ true → list_all (lies l h) (map to_place zs) ≡ true
both_sides l h [] a b c = refl
both_sides l h (pos n ∷ zs) a b c =
    let inside = and_parts (is_place (pos n)) _ a in
    let from = and_parts (nat_le l n) _ b in
    let to = and_parts (nat_le n h) _ c in
    and_from (lies l h n) _ (and_from (nat_le l n) _ from.0 to.0) (both_sides l h zs inside.1 from.1 to.1)
both_sides l h (negsuc n ∷ zs) a b c = absurd (false≢true a)

pub ends_all : (v : Strided) (i : ℕ) (low high : ℤ) (l h : ℕ) → is_view v ≡ true → length v.lengths ≤ i → Ends v.lengths v.strides (pos v.start) i low high → low ≡ pos l → high ≡ pos h
    → list_all (lies l h) (elements v) ≡ true
unfolding elements
ends_all v i low high l h law done ends low_is high_is =
    let none : drop i v.lengths ≡ [] = drop_all i v.lengths done in
    let one : (p : ℤ → Bool) (y : ℤ) → p y ≡ true → AllPlaces p (drop i v.lengths) (drop i v.strides) y =
    λ p y e. ap (λ ms. list_all p (places ms (drop i v.strides) y)) none ∙ and_from (p y) true e refl in
    both_sides l h (places v.lengths v.strides (pos v.start)) (lawful v law).inside
    (ends.floor (from_on l) (rising l) (one (from_on l) low (ap (from_on l) low_is ∙ le-leb l l (omega arith))))
    (ends.ceiling (up_to h) (falling h) (one (up_to h) high (ap (up_to h) high_is ∙ le-leb h h (omega arith))))

has_place : (n : ℕ) (zs : List ℤ) → has (map to_place zs) n ≡ list_any (λ y. nat_eq n (to_place y)) zs
has_place n [] = refl
has_place n (z ∷ zs) = ap (λ b. nat_eq n (to_place z) || b) (has_place n zs)

-- an end is an element
end_is : (v : Strided) (i : ℕ) (end : ℤ) (n : ℕ) → length v.lengths ≤ i → end ≡ pos n
    → ((p : ℤ → Bool) → SomePlace p (drop i v.lengths) (drop i v.strides) end → SomePlace p v.lengths v.strides (pos v.start)) → has (elements v) n ≡ true
unfolding elements
end_is v i end n done same found =
    let none : drop i v.lengths ≡ [] = drop_all i v.lengths done in
    let test : ℤ → Bool = λ y. nat_eq n (to_place y) in
    has_place n (places v.lengths v.strides (pos v.start))
    ∙ found test (ap (λ ms. list_any test (places ms (drop i v.strides) end)) none ∙ ap (λ b. b || false) (ap test same ∙ eq-eqb n n refl))

pub ends_are : (v : Strided) (i : ℕ) (low high : ℤ) (l h : ℕ) → length v.lengths ≤ i → Ends v.lengths v.strides (pos v.start) i low high → low ≡ pos l → high ≡ pos h
    → (has (elements v) l ≡ true) × (has (elements v) h ≡ true)
ends_are v i low high l h done ends low_is high_is = (end_is v i low l done low_is ends.lowest, end_is v i high h done high_is ends.highest)

-- ---- what the greatest element tells

-- an element of a list passes what all pass
pub passes : (q : ℕ → Bool) (ys : List ℕ) (x : ℕ) → list_all q ys ≡ true → has ys x ≡ true → q x ≡ true
passes q [] x all h = absurd (false≢true h)
passes q (y ∷ ys) x all h =
    let parts = and_parts (q y) (list_all q ys) all in
    elim (x == y) as (λ b. (x == y) ≡ b → q x ≡ true) [
      | true ↦ λ e. ap q (eqb-true x y e) ∙ parts.0
      | false ↦ λ e. passes q ys x parts.1 (sym (ap (λ b. b || has ys x) e) ∙ h)
    ] refl

-- what follows from one test holds of all that pass it
pub weaker : (p q : ℕ → Bool) (xs : List ℕ) → ((x : ℕ) → p x ≡ true → q x ≡ true) → list_all p xs ≡ true → list_all q xs ≡ true
weaker p q [] h all = refl
weaker p q (x ∷ xs) h all =
    let parts = and_parts (p x) (list_all p xs) all in
    and_from (q x) (list_all q xs) (h x parts.0) (weaker p q xs h parts.1)

-- all lie below a number exactly where the greatest does
pub all_below : (xs : List ℕ) (least greatest count : ℕ) → list_all (lies least greatest) xs ≡ true → has xs greatest ≡ true → nat_lt greatest count ≡ list_all (λ e. nat_lt e count) xs
all_below xs least greatest count between there =
    same_tests (nat_lt greatest count) (list_all (λ e. nat_lt e count) xs)
    (λ low. weaker (lies least greatest) (λ e. nat_lt e count) xs (λ e in_range.
    let high : e ≤ greatest = leb-true e greatest (and_parts (nat_le least e) (nat_le e greatest) in_range).1 in
    let below : greatest < count = ltb-true greatest count low in
    lt-ltb e count (omega arith)) between)
    (λ all. passes (λ e. nat_lt e count) xs greatest all there)
