-- Two operations of a formed list that do not depend on one another are separate.
use Rattle.std.proofs.Common.{◌≡◌, ◌≢◌, ℕ, ℤ, pos, ◌+◌, ◌<◌, ◌≤◌, suc, zero, List, [], ◌∷◌, ◌++◌, Bool, true, false, not, ◌||◌, ◌&&◌, refl, ap, sym, ◌∙◌, arith, Option, Some, None, map, length}
use Rattle.std.proofs.lemmas.Bool.{false≢true, eqb-true, eq-eqb, eqb-false, ne_eqb, ltb-true}
use Rattle.std.specs.Prelude.{nat_eq, ◌==◌, nat_lt, nat_le}
use Rattle.std.specs.List.{AllByRecursion, list_all, list_any, range_with_len}
use Rattle.std.specs.Option.{option_to_list}
use Rattle.arr_view.specs.Strided.{Strided}
use Rattle.arr_view.specs.Views.{elements, places, to_place, positions, has, share, overlap, same_lists, strides_kept}
use Rattle.arr_ops.specs.Ops.{views, outputs, freed, named, some_pair, disturbs, dep}
use Rattle.arr_ops.specs.Formed.{is_whole, inside_made, slot_numbers}
use Rattle.arr_ops.specs.declared.op.Op.{Op}
use Rattle.arr_ops.proofs.Pairs.{Pairs, All_weaker}
use Rattle.arr_ops.proofs.Writes.{or_left, or_right}
use Rattle.arr_ops.proofs.Commute.{Spared, Misses, Separate}
use Rattle.arr_ops.proofs.Tests.{both_left, both_right, same_from_test}

-- ---- a view has an element

abbrev pub IsCons : {A : Type 0} → List A → Type 0
IsCons [] = ⊥
IsCons (x ∷ xs) = Unit {0}

cons_append : {A : Type 0} (xs ys : List A) → IsCons xs → IsCons (xs ++ ys)
cons_append [] ys h = absurd h
cons_append (x ∷ xs) ys h = tt

cons_places : (ns : List ℕ) (ss : List ℤ) (z : ℤ) → list_all (nat_le 1) ns ≡ true → strides_kept ns ss ≡ true → IsCons (places ns ss z)
cons_places [] ss z a b = tt
cons_places (n ∷ ns) [] z a b = absurd (false≢true b)
cons_places (zero ∷ ns) (s ∷ ss) z a b = absurd (false≢true a)
cons_places (suc n ∷ ns) (s ∷ ss) z a b =
    cons_append (places ns ss z) _ (cons_places ns ss z (both_right (nat_le 1 (suc n)) (list_all (nat_le 1) ns) a) (both_right _ (strides_kept ns ss) b))

cons_map : {A B : Type 0} (f : A → B) (xs : List A) → IsCons xs → IsCons (map f xs)
cons_map f [] h = absurd h
cons_map f (x ∷ xs) h = tt

pub cons_elements : (v : Strided) → list_all (nat_le 1) v.lengths ≡ true → strides_kept v.lengths v.strides ≡ true → IsCons (elements v)
unfolding elements
cons_elements v a b = cons_map to_place (places v.lengths v.strides (pos v.start)) (cons_places v.lengths v.strides (pos v.start) a b)

-- ---- a view in a base that the other makes

has_range : (k n e : ℕ) → k ≤ e → e < k + n → has (range_with_len k n) e ≡ true
has_range k zero e a b = absurd (omega arith)
has_range k (suc n) e a b =
    elim (nat_eq e k) as (λ t. nat_eq e k ≡ t → (t || has (range_with_len (k + 1) n) e) ≡ true) [
      | true ↦ λ p. refl
      | false ↦ λ p. let ne : e ≢ k = eqb-false e k p in has_range (k + 1) n e (omega arith) (omega arith)
    ] refl

any_member : (p : ℕ → Bool) (xs : List ℕ) (e : ℕ) → has xs e ≡ true → p e ≡ true → list_any p xs ≡ true
any_member p [] e h t = h
any_member p (x ∷ xs) e h t =
    elim (nat_eq e x) as (λ b. nat_eq e x ≡ b → (b || has xs e) ≡ true → (p x || list_any p xs) ≡ true) [
      | true ↦ λ q k. ap (λ b. b || list_any p xs) (ap p (sym (eqb-true e x q)) ∙ t)
      | false ↦ λ q k. or_true (p x) (list_any p xs) (any_member p xs e k t)
    ] refl h
  where
    or_true : (a b : Bool) → b ≡ true → (a || b) ≡ true
    or_true true b h = refl
    or_true false b h = h

-- a whole base shares an element with what lies in it
share_whole : (n : ℕ) (vs ws : List ℕ) → vs ≡ range_with_len 0 n → IsCons ws → list_all (λ e. nat_lt e n) ws ≡ true → share vs ws ≡ true
share_whole n vs [] s c l = absurd c
share_whole n vs (w ∷ ws) s c l =
    let lt : w < n = ltb-true w n (both_left (nat_lt w n) (list_all (λ e. nat_lt e n) ws) l) in
    ap (λ us. share us (w ∷ ws)) s
    ∙ any_member (has (w ∷ ws)) (range_with_len 0 n) w (has_range 0 n w (omega arith) (omega arith)) (ap (λ b. b || has ws w) (eq-eqb w w refl))

-- a view that misses a whole base lies in another
other_base : (v w : Strided) → is_whole v ≡ true → IsCons (elements w) → overlap v w ≡ false
    → (not (v.base == w.base) || list_all (λ e. nat_lt e (positions v.lengths)) (elements w)) ≡ true → (v.base == w.base) ≡ false
other_base v w whole c apart l =
    elim (v.base == w.base) as (λ b. (not b || list_all (λ e. nat_lt e (positions v.lengths)) (elements w)) ≡ true → (b && share (elements v) (elements w)) ≡ false → b ≡ false) [
      | true ↦ λ k o. absurd (false≢true (sym o ∙ share_whole (positions v.lengths) (elements v) (elements w)
          (same_from_test (elements v) (range_with_len 0 (positions v.lengths)) whole) c k))
      | false ↦ λ k o. refl
    ] l apart

-- ---- one operation beside the views of another

abbrev pub Whole : Option Strided → Bool → Type 0
Whole None makes = Unit {0}
Whole (Some v) makes = makes ≡ true → is_whole v ≡ true

-- the test that `inside_made` makes at each view
abbrev pub inside : Option Strided → Bool → List Strided → Bool
inside out makes ws =
    not makes || list_all (λ (o : Strided). list_all (λ (v : Strided). not (o.base == v.base) || list_all (λ e. nat_lt e (positions o.lengths)) (elements v)) ws) (option_to_list out)

tail_inside : (makes a b : Bool) → (not makes || ((a && b) && true)) ≡ true → (not makes || (b && true)) ≡ true
tail_inside false a b e = refl
tail_inside true true b e = e
tail_inside true false b e = absurd (false≢true e)

head_inside : (makes a b : Bool) → makes ≡ true → (not makes || ((a && b) && true)) ≡ true → a ≡ true
head_inside false a b m e = absurd (false≢true m)
head_inside true a b m e = both_left a b (both_left (a && b) true e)

misses_all : (out : Option Strided) (makes : Bool) (ws : List Strided) → Whole out makes → AllByRecursion (λ w. IsCons (elements w)) ws
    → some_pair overlap (option_to_list out) ws ≡ false → inside out makes ws ≡ true → AllByRecursion (Misses out makes) ws
misses_all out makes [] whole c o i = tt
misses_all None makes (w ∷ ws) whole c o i = (tt, misses_all None makes ws whole c.1 refl i)
misses_all (Some v) makes (w ∷ ws) whole c o i =
    let o' : list_any (overlap v) (w ∷ ws) ≡ false = or_left (list_any (overlap v) (w ∷ ws)) false o in
    let apart : overlap v w ≡ false = or_left (overlap v w) (list_any (overlap v) ws) o' in
    let rest : list_any (overlap v) ws ≡ false = or_right (overlap v w) (list_any (overlap v) ws) o' in
    let test : Strided → Bool = λ u. not (v.base == u.base) || list_all (λ e. nat_lt e (positions v.lengths)) (elements u) in (
      (apart, λ m. other_base v w (whole m) c.0 apart (head_inside makes (test w) (list_all test ws) m i)),
      misses_all (Some v) makes ws whole c.1 (ap (λ b. b || false) rest) (tail_inside makes (test w) (list_all test ws) i),
    )

kept_all : (frees : Option ℕ) (ws : List Strided) (more : List ℕ) → list_any (has (map (λ (v : Strided). v.base) ws ++ more)) (option_to_list frees) ≡ false
    → AllByRecursion (λ (w : Strided). has (option_to_list frees) w.base ≡ false) ws
kept_all frees [] more h = tt
kept_all None (w ∷ ws) more h = (refl, kept_all None ws more h)
kept_all (Some b) (w ∷ ws) more h =
    let h' : has (map (λ (v : Strided). v.base) (w ∷ ws) ++ more) b ≡ false = or_left (has (map (λ (v : Strided). v.base) (w ∷ ws) ++ more) b) false h in
    let others : List ℕ = map (λ (v : Strided). v.base) ws ++ more in
    let first : nat_eq b w.base ≡ false = or_left (nat_eq b w.base) (has others b) h' in (
      ap (λ t. t || false) (ne_eqb w.base b (λ e. eqb-false b w.base first (sym e))),
      kept_all (Some b) ws more (ap (λ t. t || false) (or_right (nat_eq b w.base) (has others b) h')),
    )

spared_all : (f : Op) (ws : List Strided) → AllByRecursion (λ (w : Strided). has (freed f) w.base ≡ false) ws → AllByRecursion (Misses f.out f.makes) ws → AllByRecursion (Spared f) ws
spared_all f [] a b = tt
spared_all f (w ∷ ws) a b = (record { kept = a.0; missed = b.0 }, spared_all f ws a.1 b.1)

-- ---- what a formed list says of an operation

pub record Sound (f : Op) : Type 0 where
  pub whole : Whole f.out f.makes
  pub cons : AllByRecursion (λ w. IsCons (elements w)) (views f)

abbrev pub SlotsApart : Op → Op → Type 0
SlotsApart f g = (i j : ℕ) → f.slot ≡ Some i → g.slot ≡ Some j → i ≢ j

spared_by : (f g : Op) → Sound f → Sound g → inside_made f g ≡ true → disturbs f g ≡ false → AllByRecursion (Spared f) (views g)
spared_by f g sf sg i d =
    spared_all f (views g)
    (kept_all f.frees (views g) (freed g) (or_right (some_pair overlap (outputs f) (views g)) (list_any (has (named g)) (freed f)) d))
    (misses_all f.out f.makes (views g) sf.whole sg.cons (or_left (some_pair overlap (outputs f) (views g)) (list_any (has (named g)) (freed f)) d) i)

pub separate : (f g : Op) → Sound f → Sound g → inside_made f g ≡ true → inside_made g f ≡ true → SlotsApart f g → dep f g ≡ false → Separate f g
separate f g sf sg i j slots d =
    record {
      left = spared_by f g sf sg i (or_left (disturbs f g) (disturbs g f) d);
      right = spared_by g f sg sf j (or_right (disturbs f g) (disturbs g f) d);
      slots = slots;
    }

-- ---- slots in order

AtLeast : ℕ → Op → Type 0
AtLeast k op = (i : ℕ) → op.slot ≡ Some i → k ≤ i

-- a slot in front of a range is its first number
record Front (o : Option ℕ) (k : ℕ) (rest : List ℕ) : Type 0 where
  after : ℕ
  count : ℕ
  range : rest ≡ range_with_len after count
  later : k ≤ after
  within : (i : ℕ) → o ≡ Some i → (k ≤ i) × (i < after)

front : (o : Option ℕ) (k n : ℕ) (rest : List ℕ) → option_to_list o ++ rest ≡ range_with_len k n → Front o k rest
front None k n rest e = record { after = k; count = n; range = e; later = omega arith; within = λ i d. absurd (cc) }
front (Some i) k zero rest e = absurd (cc)
front (Some i) k (suc n) rest e =
    let head : i ≡ k = cc in
    record { after = k + 1; count = n; range = cc; later = omega arith; within = λ j d. let same : i ≡ j = cc in (omega arith, omega arith) }

slots_in_order : (xs : List Op) (k n : ℕ) → slot_numbers xs ≡ range_with_len k n → AllByRecursion (AtLeast k) xs × Pairs SlotsApart xs
unfolding AtLeast
slots_in_order [] k n e = (tt, tt)
slots_in_order (x ∷ xs) k n e =
    let f : Front x.slot k (slot_numbers xs) = front x.slot k n (slot_numbers xs) e in
    let ih : AllByRecursion (AtLeast f.after) xs × Pairs SlotsApart xs = slots_in_order xs f.after f.count f.range in (
      (λ i p. (f.within i p).0, All_weaker (AtLeast f.after) (AtLeast k) (λ y h i p. let l : f.after ≤ i = h i p in let m : k ≤ f.after = f.later in omega arith) xs ih.0),
      (All_weaker (AtLeast f.after) (SlotsApart x) (λ y h i j p q. let l : f.after ≤ j = h j q in let m : i < f.after = (f.within i p).1 in omega arith) xs ih.0, ih.1),
    )

pub slots_apart : (xs : List Op) → same_lists (slot_numbers xs) (range_with_len 1 (length (slot_numbers xs))) ≡ true → Pairs SlotsApart xs
slots_apart xs e = (slots_in_order xs 1 (length (slot_numbers xs)) (same_from_test (slot_numbers xs) (range_with_len 1 (length (slot_numbers xs))) e)).1
