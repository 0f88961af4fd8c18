-- Where the places of a view lie.
use Rattle.std.proofs.Common.{◌≡◌, ◌⊎◌, inl, inr, ℕ, zero, suc, ◌+◌, ◌-◌, ◌*◌, ◌<◌, ◌≤◌, ℤ, pos, negsuc, ◌+ℤ◌, ◌*ℤ◌, ◌≤ℤ◌, ◌<ℤ◌, List, [], ◌∷◌, ◌++◌, Bool, true, length, get_or, refl, ap, sym, ◌∙◌, subst, arith, length-append, length-drop, drop, false, leb-true, ap₂, unsigned_abs}
use Rattle.std.specs.Prelude.{nat_le}
use Rattle.std.specs.List.{list_all}
use Rattle.std.proofs.lemmas.Int.{ints}
use Rattle.std.proofs.lemmas.Bool.{and_parts, and_from, ltb-true, lt-ltb, false≢true, false_from_ne_true}
use Rattle.std.proofs.lemmas.List.{get_or_append_left, get_or-append-add, drop_more, drop_all}
use Rattle.std.proofs.lemmas.List.Folds.{list_all-append}
use lib.IntN.{suc_ℤ-*ℤ, zero-*ℤ}
use Rattle.arr_view.specs.Views.{at_steps, places, positions, is_place, to_place}

-- i steps of s
abbrev pub steps : ℕ → ℤ → ℤ
steps zero s = pos 0
steps (suc i) s = s +ℤ steps i s

pub steps_is : (i : ℕ) (s : ℤ) → steps i s ≡ pos i *ℤ s
steps_is zero s = sym (zero-*ℤ s)
steps_is (suc i) s =
    let turned : s +ℤ (pos i *ℤ s) ≡ (pos i *ℤ s) +ℤ s = omega (arith, ints) in
    ap (λ x. s +ℤ x) (steps_is i s) ∙ turned ∙ sym (suc_ℤ-*ℤ (pos i) s)

pub steps_up : (i n : ℕ) (s : ℤ) → pos 0 ≤ℤ s → i ≤ n → (pos 0 ≤ℤ steps i s) × (steps i s ≤ℤ steps n s)
steps_up zero zero s a h = (omega (arith, ints), omega (arith, ints))
steps_up zero (suc n) s a h =
    let ih : (pos 0 ≤ℤ pos 0) × (pos 0 ≤ℤ steps n s) = steps_up zero n s a (omega arith) in
    (omega (arith, ints), omega (arith, ints, ih.1))
steps_up (suc i) zero s a h = absurd (omega arith)
steps_up (suc i) (suc n) s a h =
    let ih : (pos 0 ≤ℤ steps i s) × (steps i s ≤ℤ steps n s) = steps_up i n s a (omega arith) in
    (omega (arith, ints, ih.0), omega (arith, ints, ih.1))

pub steps_down : (i n : ℕ) (s : ℤ) → s ≤ℤ pos 0 → i ≤ n → (steps i s ≤ℤ pos 0) × (steps n s ≤ℤ steps i s)
steps_down zero zero s a h = (omega (arith, ints), omega (arith, ints))
steps_down zero (suc n) s a h =
    let ih : (pos 0 ≤ℤ pos 0) × (steps n s ≤ℤ pos 0) = steps_down zero n s a (omega arith) in
    (omega (arith, ints), omega (arith, ints, ih.1))
steps_down (suc i) zero s a h = absurd (omega arith)
steps_down (suc i) (suc n) s a h =
    let ih : (steps i s ≤ℤ pos 0) × (steps n s ≤ℤ steps i s) = steps_down i n s a (omega arith) in
    (omega (arith, ints, ih.0), omega (arith, ints, ih.1))

-- what holds of each place holds of each place of each step, and the other way round
pub out_steps : (p : ℤ → Bool) (f : ℤ → List ℤ) (n : ℕ) (s z : ℤ) → list_all p (at_steps f n s z) ≡ true → (i : ℕ) → i < n → list_all p (f (z +ℤ steps i s)) ≡ true
out_steps p f zero s z e i h = absurd (omega arith)
out_steps p f (suc n) s z e zero h =
    let parts = and_parts (list_all p (f z)) (list_all p (at_steps f n s (z +ℤ s))) (sym (list_all-append p (f z) (at_steps f n s (z +ℤ s))) ∙ e) in
    let same : z ≡ z +ℤ pos 0 = omega (arith, ints) in
    subst (λ y. list_all p (f y) ≡ true) same parts.0
out_steps p f (suc n) s z e (suc i) h =
    let parts = and_parts (list_all p (f z)) (list_all p (at_steps f n s (z +ℤ s))) (sym (list_all-append p (f z) (at_steps f n s (z +ℤ s))) ∙ e) in
    let same : (z +ℤ s) +ℤ steps i s ≡ z +ℤ (s +ℤ steps i s) = omega (arith, ints) in
    subst (λ y. list_all p (f y) ≡ true) same (out_steps p f n s (z +ℤ s) parts.1 i (omega arith))

pub in_steps : (p : ℤ → Bool) (f : ℤ → List ℤ) (n : ℕ) (s z : ℤ) → ((i : ℕ) → i < n → list_all p (f (z +ℤ steps i s)) ≡ true) → list_all p (at_steps f n s z) ≡ true
in_steps p f zero s z h = refl
in_steps p f (suc n) s z h =
    let first : z +ℤ pos 0 ≡ z = omega (arith, ints) in
    list_all-append p (f z) (at_steps f n s (z +ℤ s))
    ∙ and_from (list_all p (f z)) (list_all p (at_steps f n s (z +ℤ s))) (subst (λ y. list_all p (f y) ≡ true) first (h 0 (omega arith)))
    (in_steps p f n s (z +ℤ s) (λ i k.
    let same : z +ℤ (s +ℤ steps i s) ≡ (z +ℤ s) +ℤ steps i s = omega (arith, ints) in
    subst (λ y. list_all p (f y) ≡ true) same (h (suc i) (omega arith))))

pub place_low : (z : ℤ) → is_place z ≡ true → pos 0 ≤ℤ z
place_low (pos n) e = omega (arith, ints)
place_low (negsuc n) e = absurd (false≢true e)

pub place_high : (z : ℤ) → is_place z ≡ true → z <ℤ pos 1048576
place_high (pos n) e =
    let h : n < 1048576 = ltb-true n 1048576 e in
    omega (arith, ints)
place_high (negsuc n) e = absurd (false≢true e)

pub place_from : (z : ℤ) → pos 0 ≤ℤ z → z <ℤ pos 1048576 → is_place z ≡ true
place_from (pos n) a b = lt-ltb n 1048576 (omega (arith, ints))
place_from (negsuc n) a b = absurd (omega (arith, ints))

-- all places from z on are places of a base
abbrev pub Inside : List ℕ → List ℤ → ℤ → Type 0
Inside ns ss z = list_all is_place (places ns ss z) ≡ true

pub between : (ns : List ℕ) (ss : List ℤ) (low high z : ℤ) → low ≤ℤ z → z ≤ℤ high → Inside ns ss low → Inside ns ss high → Inside ns ss z
between [] ss low high z a b l h =
    let from : pos 0 ≤ℤ low = place_low low (and_parts (is_place low) true l).0 in
    let to : high <ℤ pos 1048576 = place_high high (and_parts (is_place high) true h).0 in
    and_from (is_place z) true (place_from z (omega (arith, ints)) (omega (arith, ints))) refl
between (n ∷ ns) [] low high z a b l h = refl
between (n ∷ ns) (s ∷ ss) low high z a b l h =
    in_steps is_place (places ns ss) n s z (λ i k.
    between ns ss (low +ℤ steps i s) (high +ℤ steps i s) (z +ℤ steps i s) (omega (arith, ints)) (omega (arith, ints))
    (out_steps is_place (places ns ss) n s low l i k) (out_steps is_place (places ns ss) n s high h i k))

-- the least and the greatest place of one dimension decide for all its places
pub from_ends_down : (n : ℕ) (s : ℤ) (ns : List ℕ) (ss : List ℤ) (low high : ℤ) → s ≤ℤ pos 0 → low ≤ℤ high → Inside ns ss (low +ℤ steps n s) → Inside ns ss high
    → Inside (suc n ∷ ns) (s ∷ ss) low × Inside (suc n ∷ ns) (s ∷ ss) high
from_ends_down n s ns ss low high a b l h = (
  in_steps is_place (places ns ss) (suc n) s low (λ i k.
      let t : (steps i s ≤ℤ pos 0) × (steps n s ≤ℤ steps i s) = steps_down i n s a (omega arith) in
      between ns ss (low +ℤ steps n s) high (low +ℤ steps i s) (omega (arith, ints, t.0, t.1)) (omega (arith, ints, t.0, t.1)) l h),
  in_steps is_place (places ns ss) (suc n) s high (λ i k.
      let t : (steps i s ≤ℤ pos 0) × (steps n s ≤ℤ steps i s) = steps_down i n s a (omega arith) in
      between ns ss (low +ℤ steps n s) high (high +ℤ steps i s) (omega (arith, ints, t.0, t.1)) (omega (arith, ints, t.0, t.1)) l h),
)

pub from_ends_up : (n : ℕ) (s : ℤ) (ns : List ℕ) (ss : List ℤ) (low high : ℤ) → pos 0 ≤ℤ s → low ≤ℤ high → Inside ns ss low → Inside ns ss (high +ℤ steps n s)
    → Inside (suc n ∷ ns) (s ∷ ss) low × Inside (suc n ∷ ns) (s ∷ ss) high
from_ends_up n s ns ss low high a b l h = (
  in_steps is_place (places ns ss) (suc n) s low (λ i k.
      let t : (pos 0 ≤ℤ steps i s) × (steps i s ≤ℤ steps n s) = steps_up i n s a (omega arith) in
      between ns ss low (high +ℤ steps n s) (low +ℤ steps i s) (omega (arith, ints, t.0, t.1)) (omega (arith, ints, t.0, t.1)) l h),
  in_steps is_place (places ns ss) (suc n) s high (λ i k.
      let t : (pos 0 ≤ℤ steps i s) × (steps i s ≤ℤ steps n s) = steps_up i n s a (omega arith) in
      between ns ss low (high +ℤ steps n s) (high +ℤ steps i s) (omega (arith, ints, t.0, t.1)) (omega (arith, ints, t.0, t.1)) l h),
)

pub at_end : (n : ℕ) (s : ℤ) (ns : List ℕ) (ss : List ℤ) (z : ℤ) → Inside (suc n ∷ ns) (s ∷ ss) z → Inside ns ss (z +ℤ steps n s)
at_end n s ns ss z e = out_steps is_place (places ns ss) (suc n) s z e n (omega arith)

pub at_first : (n : ℕ) (s : ℤ) (ns : List ℕ) (ss : List ℤ) (z : ℤ) → Inside (suc n ∷ ns) (s ∷ ss) z → Inside ns ss z
at_first n s ns ss z e =
    let same : z +ℤ pos 0 ≡ z = omega (arith, ints) in
    subst (λ y. Inside ns ss y) same (out_steps is_place (places ns ss) (suc n) s z e 0 (omega arith))

-- the first of the places is the one that the walk begins at
pub begins_inside : (ns : List ℕ) (ss : List ℤ) (z : ℤ) → list_all (nat_le 1) ns ≡ true → length ss ≡ length ns → Inside ns ss z → is_place z ≡ true
begins_inside [] ss z h k e = (and_parts (is_place z) true e).0
begins_inside (zero ∷ ns) ss z h k e = absurd (false≢true h)
begins_inside (suc n ∷ ns) [] z h k e = absurd (omega arith)
begins_inside (suc n ∷ ns) (s ∷ ss) z h k e = begins_inside ns ss z (and_parts (nat_le 1 (suc n)) (list_all (nat_le 1) ns) h).1 (omega arith) (at_first n s ns ss z e)

-- the place at a position: q whole steps of the first dimension, and r positions into the rest
pub get_steps : (f : ℤ → List ℤ) (m : ℕ) → ((z : ℤ) → length (f z) ≡ m) → (n : ℕ) (s z : ℤ) (q r : ℕ) (d : ℤ) → q < n → r < m
    → get_or (at_steps f n s z) (q * m + r) d ≡ get_or (f (z +ℤ steps q s)) r d
get_steps f m h zero s z q r d a b = absurd (omega arith)
get_steps f m h (suc n) s z zero r d a b =
    let long : length (f z) ≡ m = h z in
    let same : z ≡ z +ℤ pos 0 = omega (arith, ints) in
    ap (λ k. get_or (f z ++ at_steps f n s (z +ℤ s)) k d) (let e : 0 * m + r ≡ r = omega arith in e)
    ∙ get_or_append_left (f z) (at_steps f n s (z +ℤ s)) d r (omega arith) ∙ ap (λ y. get_or (f y) r d) same
get_steps f m h (suc n) s z (suc q) r d a b =
    let long : length (f z) ≡ m = h z in
    let same : (z +ℤ s) +ℤ steps q s ≡ z +ℤ (s +ℤ steps q s) = omega (arith, ints) in
    ap (λ k. get_or (f z ++ at_steps f n s (z +ℤ s)) k d) (let e : suc q * m + r ≡ length (f z) + (q * m + r) = omega arith in e)
    ∙ get_or-append-add (f z) (at_steps f n s (z +ℤ s)) (q * m + r) d ∙ get_steps f m h n s (z +ℤ s) q r d (omega arith) b ∙ ap (λ y. get_or (f y) r d) same

-- ---- lengths

pub length-at_steps : (f : ℤ → List ℤ) (k : ℕ) → ((z : ℤ) → length (f z) ≡ k) → (n : ℕ) (s z : ℤ) → length (at_steps f n s z) ≡ n * k
length-at_steps f k h zero s z = omega arith
length-at_steps f k h (suc n) s z =
    let a : length (f z) ≡ k = h z in
    let b : length (at_steps f n s (z +ℤ s)) ≡ n * k = length-at_steps f k h n s (z +ℤ s) in
    length-append (f z) (at_steps f n s (z +ℤ s)) ∙ omega arith

pub length-places : (ns : List ℕ) (ss : List ℤ) (z : ℤ) → length ss ≡ length ns → length (places ns ss z) ≡ positions ns
length-places [] ss z h = refl
length-places (n ∷ ns) [] z h = absurd (omega arith)
length-places (n ∷ ns) (s ∷ ss) z h = length-at_steps (places ns ss) (positions ns) (λ y. length-places ns ss y (omega arith)) n s z

-- ---- the least and the greatest place, one dimension after another

abbrev pub reach : ℕ → ℤ → ℤ
reach n s = pos (n - 1) *ℤ s

-- after i dimensions, from `low` and from `high`, which decide for all places from z
pub record Span (ns : List ℕ) (ss : List ℤ) (z : ℤ) (i : ℕ) (low high : ℤ) : Type 0 where
  pub from : pos 0 ≤ℤ low
  pub order : low ≤ℤ high
  pub to : high <ℤ pos 1048576
  pub gives : Inside (drop i ns) (drop i ss) low → Inside (drop i ns) (drop i ss) high → Inside ns ss z
  pub takes : Inside ns ss z → Inside (drop i ns) (drop i ss) low × Inside (drop i ns) (drop i ss) high

pub span_start : (ns : List ℕ) (ss : List ℤ) (n : ℕ) → n < 1048576 → Span ns ss (pos n) 0 (pos n) (pos n)
span_start ns ss n h =
    record {
      from = omega (arith, ints);
      order = omega (arith, ints);
      to = omega (arith, ints);
      gives = λ a b. a;
      takes = λ a. (a, a);
    }

pub lengths_from : (i : ℕ) (ns : List ℕ) → list_all (nat_le 1) ns ≡ true → list_all (nat_le 1) (drop i ns) ≡ true
lengths_from zero ns h = h
lengths_from (suc i) [] h = refl
lengths_from (suc i) (n ∷ ns) h = lengths_from i ns (and_parts (nat_le 1 n) (list_all (nat_le 1) ns) h).1

pub length_at : (i : ℕ) (ns : List ℕ) → list_all (nat_le 1) ns ≡ true → i < length ns → 1 ≤ get_or ns i 0
length_at i [] h l = absurd (omega arith)
length_at zero (n ∷ ns) h l = leb-true 1 n (and_parts (nat_le 1 n) (list_all (nat_le 1) ns) h).0
length_at (suc i) (n ∷ ns) h l = length_at i ns (and_parts (nat_le 1 n) (list_all (nat_le 1) ns) h).1 (omega arith)

-- the dimension that comes next, the first of those that are left
left_at : (ns : List ℕ) (ss : List ℤ) (i : ℕ) (z : ℤ) → length ss ≡ length ns → list_all (nat_le 1) ns ≡ true → i < length ns
    → list_all is_place (places (drop i ns) (drop i ss) z) ≡ list_all is_place (places (suc (get_or ns i 0 - 1) ∷ drop (i + 1) ns) (get_or ss i (pos 0) ∷ drop (i + 1) ss) z)
left_at ns ss i z same all l =
    let some : 1 ≤ get_or ns i 0 = length_at i ns all l in
    let whole : get_or ns i 0 ≡ suc (get_or ns i 0 - 1) = omega arith in
    ap₂ (λ a b. list_all is_place (places a b z)) (drop_more ns i 0 l ∙ ap (λ k. k ∷ drop (i + 1) ns) whole) (drop_more ss i (pos 0) (omega arith))

pub span_down : (ns : List ℕ) (ss : List ℤ) (z : ℤ) (i : ℕ) (low high r : ℤ) → length ss ≡ length ns → list_all (nat_le 1) ns ≡ true → i < length ns
    → Span ns ss z i low high → get_or ss i (pos 0) ≤ℤ pos 0 → r ≡ reach (get_or ns i 0) (get_or ss i (pos 0)) → pos 0 ≤ℤ (low +ℤ r) → Span ns ss z (i + 1) (low +ℤ r) high
span_down ns ss z i low high r same all l span down e from =
    let k : ℕ = get_or ns i 0 - 1 in
    let s : ℤ = get_or ss i (pos 0) in
    let far : r ≡ steps k s = e ∙ sym (steps_is k s) in
    let less : steps k s ≤ℤ pos 0 = (steps_down k k s down (omega arith)).0 in
    let a : pos 0 ≤ℤ low = span.from in
    let b : low ≤ℤ high = span.order in
    record {
      from = from;
      order = omega (arith, ints);
      to = span.to;
      gives = λ x y.
          let both = from_ends_down k s (drop (i + 1) ns) (drop (i + 1) ss) low high down b (subst (λ t. Inside (drop (i + 1) ns) (drop (i + 1) ss) (low +ℤ t)) far x) y in
          span.gives (left_at ns ss i low same all l ∙ both.0) (left_at ns ss i high same all l ∙ both.1);
      takes = λ x.
          let both = span.takes x in (
            subst (λ t. Inside (drop (i + 1) ns) (drop (i + 1) ss) (low +ℤ t)) (sym far) (at_end k s (drop (i + 1) ns) (drop (i + 1) ss) low (sym (left_at ns ss i low same all l) ∙ both.0)),
            at_first k s (drop (i + 1) ns) (drop (i + 1) ss) high (sym (left_at ns ss i high same all l) ∙ both.1),
          );
    }

pub span_up : (ns : List ℕ) (ss : List ℤ) (z : ℤ) (i : ℕ) (low high r : ℤ) → length ss ≡ length ns → list_all (nat_le 1) ns ≡ true → i < length ns
    → Span ns ss z i low high → pos 0 ≤ℤ get_or ss i (pos 0) → r ≡ reach (get_or ns i 0) (get_or ss i (pos 0)) → (high +ℤ r) <ℤ pos 1048576 → Span ns ss z (i + 1) low (high +ℤ r)
span_up ns ss z i low high r same all l span up e to =
    let k : ℕ = get_or ns i 0 - 1 in
    let s : ℤ = get_or ss i (pos 0) in
    let far : r ≡ steps k s = e ∙ sym (steps_is k s) in
    let more : pos 0 ≤ℤ steps k s = (steps_up k k s up (omega arith)).0 in
    let a : pos 0 ≤ℤ low = span.from in
    let b : low ≤ℤ high = span.order in
    record {
      from = span.from;
      order = omega (arith, ints);
      to = to;
      gives = λ x y.
          let both = from_ends_up k s (drop (i + 1) ns) (drop (i + 1) ss) low high up b x (subst (λ t. Inside (drop (i + 1) ns) (drop (i + 1) ss) (high +ℤ t)) far y) in
          span.gives (left_at ns ss i low same all l ∙ both.0) (left_at ns ss i high same all l ∙ both.1);
      takes = λ x.
          let both = span.takes x in (
            at_first k s (drop (i + 1) ns) (drop (i + 1) ss) low (sym (left_at ns ss i low same all l) ∙ both.0),
            subst (λ t. Inside (drop (i + 1) ns) (drop (i + 1) ss) (high +ℤ t)) (sym far) (at_end k s (drop (i + 1) ns) (drop (i + 1) ss) high (sym (left_at ns ss i high same all l) ∙ both.1)),
          );
    }

pub first_left : (ns : List ℕ) (ss : List ℤ) (i : ℕ) (z : ℤ) → length ss ≡ length ns → list_all (nat_le 1) ns ≡ true → Inside (drop i ns) (drop i ss) z → is_place z ≡ true
first_left ns ss i z same all e =
    begins_inside (drop i ns) (drop i ss) z (lengths_from i ns all) (length-drop i ss ∙ ap (λ n. n - i) same ∙ sym (length-drop i ns)) e

-- an end outside the base
pub ends_low : (ns : List ℕ) (ss : List ℤ) (z : ℤ) (i : ℕ) (low high r : ℤ) → length ss ≡ length ns → list_all (nat_le 1) ns ≡ true → i < length ns
    → Span ns ss z i low high → r ≡ reach (get_or ns i 0) (get_or ss i (pos 0)) → (low +ℤ r) <ℤ pos 0 → false ≡ list_all is_place (places ns ss z)
ends_low ns ss z i low high r same all l span e out =
    let k : ℕ = get_or ns i 0 - 1 in
    let s : ℤ = get_or ss i (pos 0) in
    let far : r ≡ steps k s = e ∙ sym (steps_is k s) in
    sym (false_from_ne_true (list_all is_place (places ns ss z)) (λ x.
    let inside : Inside (drop (i + 1) ns) (drop (i + 1) ss) (low +ℤ steps k s) = at_end k s (drop (i + 1) ns) (drop (i + 1) ss) low (sym (left_at ns ss i low same all l) ∙ (span.takes x).0) in
    let low_place : pos 0 ≤ℤ (low +ℤ steps k s) = place_low (low +ℤ steps k s) (first_left ns ss (i + 1) (low +ℤ steps k s) same all inside) in
    absurd (omega (arith, ints))))

pub ends_high : (ns : List ℕ) (ss : List ℤ) (z : ℤ) (i : ℕ) (low high r : ℤ) → length ss ≡ length ns → list_all (nat_le 1) ns ≡ true → i < length ns
    → Span ns ss z i low high → r ≡ reach (get_or ns i 0) (get_or ss i (pos 0)) → pos 1048576 ≤ℤ (high +ℤ r) → false ≡ list_all is_place (places ns ss z)
ends_high ns ss z i low high r same all l span e out =
    let k : ℕ = get_or ns i 0 - 1 in
    let s : ℤ = get_or ss i (pos 0) in
    let far : r ≡ steps k s = e ∙ sym (steps_is k s) in
    sym (false_from_ne_true (list_all is_place (places ns ss z)) (λ x.
    let inside : Inside (drop (i + 1) ns) (drop (i + 1) ss) (high +ℤ steps k s) = at_end k s (drop (i + 1) ns) (drop (i + 1) ss) high (sym (left_at ns ss i high same all l) ∙ (span.takes x).1) in
    let high_place : (high +ℤ steps k s) <ℤ pos 1048576 = place_high (high +ℤ steps k s) (first_left ns ss (i + 1) (high +ℤ steps k s) same all inside) in
    absurd (omega (arith, ints))))

pub starts_high : (ns : List ℕ) (ss : List ℤ) (n : ℕ) → length ss ≡ length ns → list_all (nat_le 1) ns ≡ true → 1048576 ≤ n → false ≡ list_all is_place (places ns ss (pos n))
starts_high ns ss n same all out =
    sym (false_from_ne_true (list_all is_place (places ns ss (pos n))) (λ x.
    let high_place : pos n <ℤ pos 1048576 = place_high (pos n) (begins_inside ns ss (pos n) all same x) in
    absurd (omega (arith, ints))))

-- where no dimension is left
pub span_whole : (ns : List ℕ) (ss : List ℤ) (z : ℤ) (i : ℕ) (low high : ℤ) → length ns ≤ i → Span ns ss z i low high → true ≡ list_all is_place (places ns ss z)
span_whole ns ss z i low high l span =
    let a : pos 0 ≤ℤ low = span.from in
    let b : low ≤ℤ high = span.order in
    let c : high <ℤ pos 1048576 = span.to in
    let none : drop i ns ≡ [] = drop_all i ns l in
    let one : (y : ℤ) → is_place y ≡ true → Inside (drop i ns) (drop i ss) y = λ y h. ap (λ ms. list_all is_place (places ms (drop i ss) y)) none ∙ and_from (is_place y) true h refl in
    sym (span.gives (one low (place_from low (omega (arith, ints)) (omega (arith, ints)))) (one high (place_from high (omega (arith, ints)) (omega (arith, ints)))))

-- one turn: the end on the stride's side moves by r
abbrev pub Turned : ℤ → ℤ → ℤ → ℤ → ℤ → ℤ → Type 0
Turned s r low high low' high' = ((s ≤ℤ pos 0) × (low' ≡ low +ℤ r) × (high' ≡ high)) ⊎ ((pos 0 ≤ℤ s) × (low' ≡ low) × (high' ≡ high +ℤ r))

pub span_turns : (ns : List ℕ) (ss : List ℤ) (z : ℤ) (i : ℕ) (low high r low' high' : ℤ) → length ss ≡ length ns → list_all (nat_le 1) ns ≡ true → i < length ns
    → Span ns ss z i low high → r ≡ reach (get_or ns i 0) (get_or ss i (pos 0)) → Turned (get_or ss i (pos 0)) r low high low' high'
    → pos 0 ≤ℤ low' → high' <ℤ pos 1048576 → Span ns ss z (i + 1) low' high'
span_turns ns ss z i low high r low' high' same all l span e (inl t) from to =
    let P : ℤ → ℤ → Type 0 = Span ns ss z (i + 1) in
    let moved : P (low +ℤ r) high = span_down ns ss z i low high r same all l span t.0 e (subst (λ y. pos 0 ≤ℤ y) t.1 from) in
    subst (λ y. P low' y) (sym t.2) (subst (λ x. P x high) (sym t.1) moved)
span_turns ns ss z i low high r low' high' same all l span e (inr t) from to =
    let P : ℤ → ℤ → Type 0 = Span ns ss z (i + 1) in
    let moved : P low (high +ℤ r) = span_up ns ss z i low high r same all l span t.0 e (subst (λ y. y <ℤ pos 1048576) t.2 to) in
    subst (λ y. P low' y) (sym t.2) (subst (λ x. P x (high +ℤ r)) (sym t.1) moved)

pub span_fails : (ns : List ℕ) (ss : List ℤ) (z : ℤ) (i : ℕ) (low high r low' high' : ℤ) → length ss ≡ length ns → list_all (nat_le 1) ns ≡ true → i < length ns
    → Span ns ss z i low high → r ≡ reach (get_or ns i 0) (get_or ss i (pos 0)) → Turned (get_or ss i (pos 0)) r low high low' high'
    → (low' <ℤ pos 0) ⊎ (pos 1048576 ≤ℤ high') → false ≡ list_all is_place (places ns ss z)
span_fails ns ss z i low high r low' high' same all l span e (inl t) (inl out) = ends_low ns ss z i low high r same all l span e (subst (λ y. y <ℤ pos 0) t.1 out)
span_fails ns ss z i low high r low' high' same all l span e (inl t) (inr out) =
    let to : high <ℤ pos 1048576 = span.to in
    let over : pos 1048576 ≤ℤ high = subst (λ y. pos 1048576 ≤ℤ y) t.2 out in
    absurd (omega (arith, ints))
span_fails ns ss z i low high r low' high' same all l span e (inr t) (inl out) =
    let from : pos 0 ≤ℤ low = span.from in
    let under : low <ℤ pos 0 = subst (λ y. y <ℤ pos 0) t.1 out in
    absurd (omega (arith, ints))
span_fails ns ss z i low high r low' high' same all l span e (inr t) (inr out) = ends_high ns ss z i low high r same all l span e (subst (λ y. pos 1048576 ≤ℤ y) t.2 out)

pub natural : (z : ℤ) → is_place z ≡ true → unsigned_abs z ≡ to_place z
natural (pos n) e = refl
natural (negsuc n) e = absurd (false≢true e)
