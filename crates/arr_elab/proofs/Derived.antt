-- Views from views: what is made of a lawful view is one, and its elements are elements of the first.
use Rattle.std.proofs.Common.{◌≡◌, ℕ, zero, suc, ◌+◌, ◌-◌, ◌<◌, ◌≤◌, ℤ, pos, ◌+ℤ◌, ◌*ℤ◌, List, [], ◌∷◌, ◌++◌, Bool, true, false, cond, not, ◌||◌, ◌&&◌, length, drop, map, reverse, refl, ap, sym, ◌∙◌, subst, arith}
use Rattle.std.specs.Prelude.{nat_lt, nat_le, ◌==◌, replicate, Result, Ok, Err}
use Rattle.std.specs.List.{list_all, range_with_len}
use Rattle.std.proofs.lemmas.Int.{ints}
use Rattle.std.proofs.lemmas.Bool.{and_parts, and_from, eqb-true, ltb-true, lt-ltb, leb-true}
use Rattle.std.proofs.lemmas.List.{length-reverse}
use Rattle.std.proofs.lemmas.List.Folds.{list_all-map}
use Rattle.arr_view.specs.Strided.{Strided}
use Rattle.arr_view.specs.Views.{elements, places, positions, to_place, is_place, is_view, whole_strides, kept_strides}
use Rattle.arr_view.proofs.Places.{steps_is, in_steps, out_steps}
use Rattle.arr_view.proofs.Checks.{same_rank}
use Rattle.arr_view.proofs.Strides.{keeps}
use Rattle.arr_shape.specs.declared.fault.ShapeFault.TheVariants.{ShapeMismatch, RankRange, NotContiguous, CountMismatch, OutsideBase}
use Rattle.arr_shape.specs.Shapes.{padded, is_shape}
use Rattle.arr_shape.specs.Views.{place_at, element_at, is_index, own_index, spread_from, spread, all_spread, spread_strides, padded_strides, transpose, reshape, is_consecutive, strided, is_within}
use Rattle.arr_shape.specs.Slices.{scaled, cut_view, AreCuts}
use Rattle.arr_shape.proofs.Shapes.{shape_of}
use Rattle.arr_shape.proofs.Made.{strided_of, is_made, sound_view}
use Rattle.arr_shape.proofs.Indexes.{shifted, index_length, index_turned, place_turned, sound_turned}
use Rattle.arr_shape.proofs.Spreads.{sound_spread, spread_element}
use Rattle.arr_shape.proofs.CutViews.{add_times, times_times, firsts, counts, place_is, begins, sound_cuts}
use Rattle.arr_shape.proofs.Consecutive.{lists_same, sound_whole, elements_whole, ends_inside}
use Rattle.arr_shape.proofs.Bases.{places_kept, within_parts}

-- ---- which answer a test gives

pub ok_if : {A F : Type 0} (b : Bool) (x w : A) (f : F) → cond b (Ok x) (Err f) ≡ Ok w → (b ≡ true) × (x ≡ w)
ok_if true x w f e = (refl, cc)
ok_if false x w f e = absurd (let g : Err f ≡ Ok w = e in cc)

pub ok_unless : {A F : Type 0} (b : Bool) (f : F) (r : Result A F) (w : A) → cond b (Err f) r ≡ Ok w → (b ≡ false) × (r ≡ Ok w)
ok_unless true f r w e = absurd (let g : Err f ≡ Ok w = e in cc)
ok_unless false f r w e = (refl, e)

pub not_false : (b : Bool) → not b ≡ false → b ≡ true
not_false true e = refl
not_false false e = absurd (let g : true ≡ false = e in cc)

pub not_true : (b : Bool) → not b ≡ true → b ≡ false
not_true true e = absurd (let g : false ≡ true = e in cc)
not_true false e = refl

-- ---- all elements by their indices

module _ (q : ℤ → Bool) where
  at_index : (ns : List ℕ) (ss : List ℤ) (z : ℤ) (is : List ℕ) → length ss ≡ length ns → is_index ns is ≡ true → list_all q (places ns ss z) ≡ true → q (place_at z ss is) ≡ true
  at_index [] [] z is same e h = (and_parts (q z) true h).0
  at_index [] (s ∷ ss) z is same e h = absurd (omega arith)
  at_index (n ∷ ns) [] z is same e h = absurd (omega arith)
  at_index (n ∷ ns) (s ∷ ss) z [] same e h = absurd (let f : false ≡ true = e in cc)
  at_index (n ∷ ns) (s ∷ ss) z (i ∷ is) same e h =
      let both = and_parts (nat_lt i n) (is_index ns is) e in
      at_index ns ss (z +ℤ (pos i *ℤ s)) is (omega arith) both.1
      (subst (λ t. list_all q (places ns ss (z +ℤ t)) ≡ true) (steps_is i s) (out_steps q (places ns ss) n s z h i (ltb-true i n both.0)))

  at_all : (ns : List ℕ) (ss : List ℤ) (z : ℤ) → length ss ≡ length ns → ((is : List ℕ) → is_index ns is ≡ true → q (place_at z ss is) ≡ true) → list_all q (places ns ss z) ≡ true
  at_all [] ss z same h = and_from (q z) true (none ss (h [] refl)) refl
    where
      none : (ss : List ℤ) → q (place_at z ss []) ≡ true → q z ≡ true
      none [] e = e
      none (s ∷ ss) e = e
  at_all (n ∷ ns) [] z same h = absurd (omega arith)
  at_all (n ∷ ns) (s ∷ ss) z same h =
      in_steps q (places ns ss) n s z (λ i k.
      subst (λ t. list_all q (places ns ss (z +ℤ t)) ≡ true) (sym (steps_is i s)) (at_all ns ss (z +ℤ (pos i *ℤ s)) (omega arith) (λ is e. h (i ∷ is) (and_from (nat_lt i n) (is_index ns is) (lt-ltb i n k) e))))

-- the elements lie below a number
abbrev pub is_below : ℕ → Strided → Bool
is_below n v = list_all (λ e. nat_lt e n) (elements v)

by_places : (n : ℕ) (v : Strided) → is_below n v ≡ list_all (λ z. nat_lt (to_place z) n) (places v.lengths v.strides (pos v.start))
unfolding elements
by_places n v = list_all-map (λ e. nat_lt e n) to_place (places v.lengths v.strides (pos v.start))

-- an index that has the place y
abbrev pub Own : List ℕ → List ℤ → ℤ → ℤ → Type 0
Own ns ss z y = (own : List ℕ) × (is_index ns own ≡ true) × (y ≡ place_at z ss own)

-- each element of w is one of v
abbrev pub Drawn : Strided → Strided → Type 0
Drawn v w = (index : List ℕ) → is_index w.lengths index ≡ true → Own v.lengths v.strides (pos v.start) (element_at w index)

-- w is a lawful view of the same base, with elements of v
pub record Derived (v w : Strided) : Type 0 where
  pub lawful : is_view w ≡ true
  pub base : w.base ≡ v.base
  pub inside : (n : ℕ) → is_below n v ≡ true → is_below n w ≡ true

drawn : (v w : Strided) → is_view v ≡ true → is_view w ≡ true → w.base ≡ v.base → Drawn v w → Derived v w
drawn v w a b e h =
    record {
      lawful = b;
      base = e;
      inside = λ n all.
          by_places n w ∙ at_all (λ z. nat_lt (to_place z) n) w.lengths w.strides (pos w.start) (same_rank w b) (λ is f.
          let own = h is f in
          ap (λ z. nat_lt (to_place z) n) own.2 ∙ at_index (λ z. nat_lt (to_place z) n) v.lengths v.strides (pos v.start) own.0 (same_rank v a) own.1 (sym (by_places n v) ∙ all));
    }

-- ---- spread

own_valid : (ms ns is : List ℕ) → length ms ≡ length ns → is_index ms is ≡ true → all_spread ms ns ≡ true → is_index ns (own_index ns is) ≡ true
own_valid [] [] [] same e h = refl
own_valid [] [] (i ∷ is) same e h = absurd (let f : false ≡ true = e in cc)
own_valid [] (n ∷ ns) is same e h = absurd (omega arith)
own_valid (m ∷ ms) [] is same e h = absurd (omega arith)
own_valid (m ∷ ms) (n ∷ ns) [] same e h = absurd (let f : false ≡ true = e in cc)
own_valid (m ∷ ms) (n ∷ ns) (i ∷ is) same e h =
    let both = and_parts (nat_lt i m) (is_index ms is) e in
    let fits = and_parts (n == m || n == 1) (all_spread ms ns) h in
    and_from (nat_lt (cond (n == 1) 0 i) n) (is_index ns (own_index ns is)) (here (n == 1) (n == m) refl refl fits.0 (ltb-true i m both.0)) (own_valid ms ns is (omega arith) both.1 fits.1)
  where
    here : (a b : Bool) → (n == 1) ≡ a → (n == m) ≡ b → (b || a) ≡ true → i < m → nat_lt (cond a 0 i) n ≡ true
    here true b e f g l = let one : n ≡ 1 = eqb-true n 1 e in lt-ltb 0 n (omega arith)
    here false true e f g l = let even : n ≡ m = eqb-true n m f in lt-ltb i n (omega arith)
    here false false e f g l = absurd (let f : false ≡ true = g in cc)

front_valid : (k : ℕ) (ms ns is : List ℕ) → length ms ≡ k + length ns → is_index ms is ≡ true → all_spread ms (replicate k 1 ++ ns) ≡ true → is_index ns (own_index ns (drop k is)) ≡ true
front_valid zero ms ns is same e h = own_valid ms ns is (omega arith) e h
front_valid (suc k) [] ns is same e h = absurd (omega arith)
front_valid (suc k) (m ∷ ms) ns [] same e h = absurd (let f : false ≡ true = e in cc)
front_valid (suc k) (m ∷ ms) ns (i ∷ is) same e h =
    front_valid k ms ns is (omega arith) (and_parts (nat_lt i m) (is_index ms is) e).1 (and_parts (1 == m || 1 == 1) (all_spread ms (replicate k 1 ++ ns)) h).1

pub derived_spread : (v : Strided) (shape : List ℕ) (w : Strided) → is_view v ≡ true → is_shape shape ≡ true → spread v shape ≡ Ok w → Derived v w × (w.lengths ≡ shape)
derived_spread v shape w a good e =
    let made = ok_if (nat_le (length v.lengths) (length shape) && all_spread shape (padded (length shape) v.lengths)) wide w ShapeMismatch e in
    let fits = and_parts (nat_le (length v.lengths) (length shape)) (all_spread shape (padded (length shape) v.lengths)) made.0 in
    let long : length v.lengths ≤ length shape = leb-true (length v.lengths) (length shape) fits.0 in
    subst (λ x. Derived v x × (x.lengths ≡ shape)) made.1 (of long fits.1, refl)
  where
    wide : Strided
    wide = strided_of v.base v.start shape (spread_strides shape (padded (length shape) v.lengths) (padded_strides (length shape) v.strides))

    of : length v.lengths ≤ length shape → all_spread shape (padded (length shape) v.lengths) ≡ true → Derived v wide
    of long fits =
        let same : length v.strides ≡ length v.lengths = same_rank v a in
        drawn v wide a (is_made v.base v.start shape wide.strides (sound_spread v.start v.lengths v.strides shape same (sound_view v a) long (shape_of shape good) fits)) refl (λ index i.
        let many : length index ≡ length shape = index_length shape index i in (
          spread_from v.lengths index,
          subst (λ k. is_index v.lengths (own_index v.lengths (drop (k - length v.lengths) index)) ≡ true) (sym many) (front_valid (length shape - length v.lengths) shape v.lengths index (omega arith) i fits),
          spread_element v.start v.lengths v.strides shape same (sound_view v a) long fits index i,
        ))

-- ---- turned round

pub derived_turned : (v : Strided) → is_view v ≡ true → Derived v (transpose v)
derived_turned v a =
    let same : length v.strides ≡ length v.lengths = same_rank v a in
    drawn v (transpose v) a (is_made v.base v.start (reverse v.lengths) (reverse v.strides) (sound_turned v.start v.lengths v.strides same (sound_view v a))) refl (λ index i. (
      reverse index,
      index_turned v.lengths index i,
      place_turned (pos v.start) v.strides index (same ∙ sym (index_length (reverse v.lengths) index i ∙ length-reverse v.lengths)),
    ))

-- ---- sliced

spot_of : (i first j : ℕ) (step s z : ℤ) → pos i ≡ pos first +ℤ (pos j *ℤ step) → (z +ℤ (pos first *ℤ s)) +ℤ (pos j *ℤ (step *ℤ s)) ≡ z +ℤ (pos i *ℤ s)
spot_of i first j step s z e =
    group z (pos first *ℤ s) (pos j *ℤ (step *ℤ s)) ∙ ap (λ y. z +ℤ y) (ap (λ y. (pos first *ℤ s) +ℤ y) (sym (times_times j step s)) ∙ sym (add_times (pos first) (pos j *ℤ step) s) ∙ ap (λ y. y *ℤ s) (sym e))
  where
    group : (x y w : ℤ) → (x +ℤ y) +ℤ w ≡ x +ℤ (y +ℤ w)
    group x y w = omega (arith, ints)

cut_own : (ns : List ℕ) (cs : List _) (ss : List ℤ) (z : ℤ) (index : List ℕ) → AreCuts ns cs → length ss ≡ length ns → is_index (counts cs) index ≡ true
    → Own ns ss z (place_at (place_at z ss (firsts cs)) (scaled cs ss) index)
cut_own [] [] [] z [] h same e = ([], refl, refl)
cut_own [] [] [] z (i ∷ is) h same e = absurd (let f : false ≡ true = e in cc)
cut_own [] [] (s ∷ ss) z index h same e = absurd (omega arith)
cut_own [] (c ∷ cs) ss z index h same e = absurd h
cut_own (n ∷ ns) [] ss z index h same e = absurd h
cut_own (n ∷ ns) (c ∷ cs) [] z index h same e = absurd (omega arith)
cut_own (n ∷ ns) (c ∷ cs) (s ∷ ss) z [] h same e = absurd (let f : false ≡ true = e in cc)
cut_own (n ∷ ns) (c ∷ cs) (s ∷ ss) z (j ∷ js) h same e =
    let both = and_parts (nat_lt j c.count) (is_index (counts cs) js) e in
    let at = h.0.within j (ltb-true j c.count both.0) in
    let rest = cut_own ns cs ss (z +ℤ (pos at.0 *ℤ s)) js h.1 (omega arith) both.1 in (
      at.0 ∷ rest.0,
      and_from (nat_lt at.0 n) (is_index ns rest.0) (lt-ltb at.0 n at.1) rest.1,
      ap (λ y. place_at y (scaled cs ss) js) (sym (shifted (z +ℤ (pos c.first *ℤ s)) (pos j *ℤ (c.step *ℤ s)) ss (firsts cs)) ∙ ap (λ y. place_at y ss (firsts cs)) (spot_of at.0 c.first j c.step s z at.2)) ∙ rest.2,
    )

pub derived_cuts : (v : Strided) (cs : List _) → is_view v ≡ true → AreCuts v.lengths cs → Derived v (cut_view v cs)
derived_cuts v cs a h =
    let same : length v.strides ≡ length v.lengths = same_rank v a in
    let w : Strided = cut_view v cs in
    drawn v w a (is_made v.base w.start (counts cs) (scaled cs v.strides) (sound_cuts v.start v.lengths v.strides cs same h (sound_view v a))) refl (λ index i.
    let own = cut_own v.lengths cs v.strides (pos v.start) index h same i in (
      own.0,
      own.1,
      ap (λ z. place_at z (scaled cs v.strides) index) (place_is (place_at (pos v.start) v.strides (firsts cs)) (begins v.start v.lengths v.strides cs same h (sound_view v a))) ∙ own.2,
    ))

-- ---- reshaped

pub derived_reshaped : (v : Strided) (shape : List ℕ) (w : Strided) → is_view v ≡ true → is_shape shape ≡ true → reshape v shape ≡ Ok w → Derived v w
derived_reshaped v shape w a good e =
    let many = ok_unless (not (positions v.lengths == positions shape)) CountMismatch (cond (not (is_consecutive v)) (Err NotContiguous) (Ok other)) w e in
    let close = ok_unless (not (is_consecutive v)) NotContiguous (Ok other) w many.1 in
    let is : other ≡ w = (let f : Ok other ≡ Ok w = close.1 in cc) in
    subst (Derived v) is (of (eqb-true (positions v.lengths) (positions shape) (not_false (positions v.lengths == positions shape) many.0)) (not_false (is_consecutive v) close.0))
  where
    other : Strided
    other = strided_of v.base v.start shape (whole_strides shape)

    of : positions v.lengths ≡ positions shape → is_consecutive v ≡ true → Derived v other
    of even close =
        let ends : v.start + positions v.lengths ≤ 1048576 = ends_inside v a close in
        let same : elements other ≡ elements v = elements_whole v.base v.start shape ∙ ap (range_with_len v.start) (sym even) ∙ sym (lists_same (elements v) (range_with_len v.start (positions v.lengths)) close) in
        record {
          lawful = is_made v.base v.start shape (whole_strides shape) (sound_whole v.start shape (shape_of shape good) (omega arith));
          base = refl;
          inside = λ n h. ap (list_all (λ e. nat_lt e n)) same ∙ h;
        }

-- ---- by strides

-- a lawful view of a base of so many elements
pub record Lies (b count : ℕ) (w : Strided) : Type 0 where
  pub lawful : is_view w ≡ true
  pub base : w.base ≡ b
  pub inside : is_below count w ≡ true

below_kept : (base count start : ℕ) (shape : List ℕ) (ss : List ℤ)
    → is_below count (strided_of base start shape (kept_strides shape ss)) ≡ list_all (λ e. nat_lt e count) (map to_place (places shape ss (pos start)))
unfolding elements
below_kept base count start shape ss = ap (λ zs. list_all (λ e. nat_lt e count) (map to_place zs)) (places_kept shape ss (pos start))

pub lies_strided : (base count start : ℕ) (shape : List ℕ) (ss : List ℤ) (w : Strided) → is_shape shape ≡ true → strided base count start shape ss ≡ Ok w → Lies base count w
lies_strided base count start shape ss w good e =
    let many = ok_unless (not (length ss == length shape)) RankRange (cond (not (list_all (is_within count) (places shape ss (pos start)))) (Err OutsideBase) (Ok view)) w e in
    let there = ok_unless (not (list_all (is_within count) (places shape ss (pos start)))) OutsideBase (Ok view) w many.1 in
    let is : view ≡ w = (let f : Ok view ≡ Ok w = there.1 in cc) in
    subst (Lies base count) is (of (eqb-true (length ss) (length shape) (not_false (length ss == length shape) many.0)) (not_false (list_all (is_within count) (places shape ss (pos start))) there.0))
  where
    view : Strided
    view = strided_of base start shape (kept_strides shape ss)

    of : length ss ≡ length shape → list_all (is_within count) (places shape ss (pos start)) ≡ true → Lies base count view
    of same all =
        let parts = and_parts (list_all is_place (places shape ss (pos start))) (list_all (λ e. nat_lt e count) (map to_place (places shape ss (pos start)))) (sym (within_parts count (places shape ss (pos start))) ∙ all) in
        let s = shape_of shape good in
        record {
          lawful = is_made base start shape (kept_strides shape ss) (record { rank = s.rank; lengths = s.lengths; kept = keeps shape ss same; size = s.size; inside = ap (list_all is_place) (places_kept shape ss (pos start)) ∙ parts.0 });
          base = refl;
          inside = below_kept base count start shape ss ∙ parts.1;
        }
