-- The elements of a slice are those of the view at the indices that it takes.
use Rattle.std.proofs.Common.{◌≡◌, ℕ, zero, suc, ◌+◌, ◌-◌, ◌*◌, ◌<◌, ◌≤◌, ℤ, pos, negsuc, ◌+ℤ◌, ◌*ℤ◌, List, [], ◌∷◌, Bool, true, false, cond, ◌||◌, length, get_or, refl, ap, ap₂, sym, ◌∙◌, subst, arith}
use Rattle.std.specs.Prelude.{nat_le, nat_lt, ◌==◌, Option, unwrap_or, Result, Ok, Err}
use Rattle.std.specs.List.{range_with_len, list_all}
use Rattle.std.proofs.Math.IntN.{pos-*ℤ-pos, pos-*ℤ-negsuc}
use Rattle.std.proofs.Common.{neg_ℤ}
use Rattle.std.proofs.lemmas.Int.{ints}
use Rattle.std.proofs.lemmas.Bool.{and_parts, ltb-true, leb-true, ne_eqb, cond-false}
use Rattle.std.proofs.lemmas.List.FromFn.{get_or-range_with_len}
use Rattle.arr_view.specs.Strided.{Strided}
use Rattle.arr_view.specs.Views.{is_view}
use Rattle.arr_view.proofs.Checks.{same_rank}
use Rattle.arr_shape.specs.declared.bounds.Cut.{Cut}
use Rattle.arr_shape.specs.declared.bounds.Slice.{Slice}
use Rattle.arr_shape.specs.declared.fault.ShapeFault.{ShapeFault}
use Rattle.arr_shape.specs.declared.fault.ShapeFault.TheVariants.{SliceRange}
use Rattle.arr_shape.specs.Views.{place_at, element_at, is_index}
use Rattle.arr_shape.specs.Slices.{rising, falling, cut_of, cut_by, cut, floor_of, lies_above, whole_cut, and_then, all_cuts, scaled, cut_view, taken_by, taken, picked, AreCuts}
use Rattle.arr_shape.proofs.Indexes.{shifted}
use Rattle.arr_shape.proofs.Wholes.{whole_spot}
use Rattle.arr_shape.proofs.CutViews.{add_times, times_times, firsts, counts, place_is, begins}
use Rattle.arr_shape.proofs.Made.{sound_view}

-- ---- one dimension

rising_at : (most i stop d j : ℕ) → j < length (rising most i stop d) → get_or (rising most i stop d) j 0 ≡ i + j * d
rising_at zero i stop d j h = absurd (omega arith)
rising_at (suc most) i stop d j h = by (nat_lt i stop) (rising_at most (i + d) stop d) j h
  where
    by : (t : Bool) → ((j : ℕ) → j < length (rising most (i + d) stop d) → get_or (rising most (i + d) stop d) j 0 ≡ i + d + j * d)
        → (j : ℕ) → j < length (cond t (i ∷ rising most (i + d) stop d) []) → get_or (cond t (i ∷ rising most (i + d) stop d) []) j 0 ≡ i + j * d
    by true rest zero h = omega arith
    by true rest (suc j) h = rest j (omega arith) ∙ (let e : i + d + j * d ≡ i + suc j * d = omega arith in e)
    by false rest j h = absurd (omega arith)

abbrev Falls : List ℕ → ℕ → ℕ → ℕ → Type 0
Falls xs i d below = (j : ℕ) → j < length xs → get_or xs j 0 + (below + j * d) ≡ i

falling_at : (most i floor d : ℕ) → Falls (falling most i floor d) i d 0
falling_at zero i floor d j h = absurd (omega arith)
falling_at (suc most) i floor d j h = by (nat_le floor i) (falling_at most (i - d) floor d) j h
  where
    later : (t : Bool) → nat_le d i ≡ t → Falls (falling most (i - d) floor d) (i - d) d 0 → Falls (cond t (falling most (i - d) floor d) []) i d d
    later true e rest j h =
        let on : get_or (falling most (i - d) floor d) j 0 + (0 + j * d) ≡ i - d = rest j h in
        let low : d ≤ i = leb-true d i e in
        omega arith
    later false e rest j h = absurd (omega arith)

    by : (t : Bool) → Falls (falling most (i - d) floor d) (i - d) d 0 → Falls (cond t (i ∷ cond (nat_le d i) (falling most (i - d) floor d) []) []) i d 0
    by true rest zero h = omega arith
    by true rest (suc j) h =
        let on : get_or (cond (nat_le d i) (falling most (i - d) floor d) []) j 0 + (d + j * d) ≡ i = later (nat_le d i) refl rest j (omega arith) in
        ap (λ t. get_or (cond (nat_le d i) (falling most (i - d) floor d) []) j 0 + t) (let e : 0 + suc j * d ≡ d + j * d = omega arith in e) ∙ on
    by false rest j h = absurd (omega arith)

-- index j of the cut is the j-th of the list
abbrev pub Lists : List ℕ → Cut → Type 0
Lists xs c = (j : ℕ) → j < c.count → pos (get_or xs j 0) ≡ pos c.first +ℤ (pos j *ℤ c.step)

same_first : (xs : List ℕ) (z : ℤ) (c : Cut) → cut_of xs z ≡ Ok c → ((j : ℕ) → j < length xs → pos (get_or xs j 0) ≡ pos (get_or xs 0 0) +ℤ (pos j *ℤ z)) → Lists xs c
same_first [] z c e h j b = absurd (let f : cut_of [] z ≡ Ok c = e in cc)
same_first (x ∷ []) z c e h j b =
    let is : record { first = x; count = 1; step = pos 0 } ≡ c = cc in
    subst (λ (d : Cut). (j : ℕ) → j < d.count → pos (get_or (x ∷ []) j 0) ≡ pos d.first +ℤ (pos j *ℤ d.step)) is
    (λ j b. let none : j ≡ 0 = omega arith in subst (λ k. pos (get_or (x ∷ []) k 0) ≡ pos x +ℤ (pos k *ℤ pos 0)) (sym none) (only x)) j b
  where
    only : (x : ℕ) → pos x ≡ pos x +ℤ (pos 0 *ℤ pos 0)
    only x = omega (arith, ints)
same_first (x ∷ (y ∷ ys)) z c e h j b =
    let more : cond (length (y ∷ ys) == 0) (pos 0) z ≡ z = cond-false (length (y ∷ ys) == 0) (pos 0) z (ne_eqb (length (y ∷ ys)) 0 (λ e. omega arith)) in
    let found : record { first = x; count = suc (length (y ∷ ys)); step = cond (length (y ∷ ys) == 0) (pos 0) z } ≡ c = cc in
    let is : record { first = x; count = suc (length (y ∷ ys)); step = z } ≡ c = sym (ap (λ t. record { first = x; count = suc (length (y ∷ ys)); step = t }) more) ∙ found in
    subst (λ (d : Cut). (j : ℕ) → j < d.count → pos (get_or (x ∷ (y ∷ ys)) j 0) ≡ pos d.first +ℤ (pos j *ℤ d.step)) is h j b

not_refused : (t : Bool) (r : Result Cut ShapeFault) (c : Cut) → cond t (Err SliceRange) r ≡ Ok c → r ≡ Ok c
not_refused true r c e = absurd (let f : Err SliceRange ≡ Ok c = e in cc)
not_refused false r c e = e

up_list : (n i stop d : ℕ) (c : Cut) → cut_of (rising n i stop d) (pos d) ≡ Ok c → Lists (rising n i stop d) c
up_list n i stop d c e =
    same_first (rising n i stop d) (pos d) c e (λ j b.
    let first : get_or (rising n i stop d) 0 0 ≡ i = rising_at n i stop d 0 (omega arith) ∙ (let f : i + 0 * d ≡ i = omega arith in f) in
    ap pos (rising_at n i stop d j b) ∙ (let f : pos (i + j * d) ≡ pos i +ℤ pos (j * d) = omega (arith, ints) in f) ∙ ap₂ (λ a t. pos a +ℤ t) (sym first) (sym (pos-*ℤ-pos j d)))

down_list : (n i floor k : ℕ) (c : Cut) → cut_of (falling n i floor (suc k)) (negsuc k) ≡ Ok c → Lists (falling n i floor (suc k)) c
down_list n i floor k c e =
    same_first (falling n i floor (suc k)) (negsuc k) c e (λ j b.
    let first : get_or (falling n i floor (suc k)) 0 0 + (0 + 0 * suc k) ≡ i = falling_at n i floor (suc k) 0 (omega arith) in
    let all : get_or (falling n i floor (suc k)) j 0 + (0 + j * suc k) ≡ i = falling_at n i floor (suc k) j b in
    away (get_or (falling n i floor (suc k)) j 0) (j * suc k) (get_or (falling n i floor (suc k)) 0 0) (omega arith) ∙ ap (λ t. pos (get_or (falling n i floor (suc k)) 0 0) +ℤ t) (sym (pos-*ℤ-negsuc j k)))
  where
    away : (x m a : ℕ) → x + m ≡ a → pos x ≡ pos a +ℤ neg_ℤ (pos m)
    away x m a e = omega (arith, ints)

cut_list : (n : ℕ) (start stop : Option ℕ) (step : ℤ) (c : Cut) → cut_by n start stop step ≡ Ok c → Lists (taken_by n start stop step) c
cut_list n start stop (pos zero) c e = absurd (let f : cut_by n start stop (pos zero) ≡ Ok c = e in cc)
cut_list n start stop (pos (suc k)) c e = up_list n (unwrap_or start 0) (unwrap_or stop n) (suc k) c (not_refused (lies_above n start || lies_above n stop) _ c e)
cut_list n start stop (negsuc k) c e = down_list n (unwrap_or start (n - 1)) (floor_of stop) k c (not_refused (lies_above (n - 1) start || lies_above (n - 1) stop) _ c e)

whole_list : (n : ℕ) → Lists (range_with_len 0 n) (whole_cut n)
whole_list n j b = ap pos (get_or-range_with_len 0 n j 0 b) ∙ ap pos (let e : 0 + j ≡ j = omega arith in e) ∙ whole_spot n j b (n == 1) refl

-- ---- all dimensions

record Both (r : Result Cut ShapeFault) (rest : Result (List Cut) ShapeFault) (cs : List Cut) : Type 0 where
  one : Cut
  others : List Cut
  first : r ≡ Ok one
  later : rest ≡ Ok others
  is : one ∷ others ≡ cs

both_there : (r : Result Cut ShapeFault) (rest : Result (List Cut) ShapeFault) (cs : List Cut) → and_then r rest ≡ Ok cs → Both r rest cs
both_there (Err e) rest cs h = absurd (let f : and_then (Err e) rest ≡ Ok cs = h in cc)
both_there (Ok c) (Err e) cs h = absurd (let f : and_then (Ok c) (Err e) ≡ Ok cs = h in cc)
both_there (Ok c) (Ok rest) cs h = record { one = c; others = rest; first = refl; later = refl; is = let f : Ok (c ∷ rest) ≡ Ok cs = h in cc }

abbrev At : List (List ℕ) → List Cut → List ℤ → Type 0
At lists cs ss = (z : ℤ) (index : List ℕ) → is_index (counts cs) index ≡ true → place_at (place_at z ss (firsts cs)) (scaled cs ss) index ≡ place_at z ss (picked lists index)

spot_of : (i first j : ℕ) (step s z : ℤ) → pos i ≡ pos first +ℤ (pos j *ℤ step) → (z +ℤ (pos first *ℤ s)) +ℤ (pos j *ℤ (step *ℤ s)) ≡ z +ℤ (pos i *ℤ s)
spot_of i first j step s z e =
    group z (pos first *ℤ s) (pos j *ℤ (step *ℤ s)) ∙ ap (λ y. z +ℤ y) (ap (λ y. (pos first *ℤ s) +ℤ y) (sym (times_times j step s)) ∙ sym (add_times (pos first) (pos j *ℤ step) s) ∙ ap (λ y. y *ℤ s) (sym e))
  where
    group : (x y w : ℤ) → (x +ℤ y) +ℤ w ≡ x +ℤ (y +ℤ w)
    group x y w = omega (arith, ints)

one_more : (xs : List ℕ) (rest : List (List ℕ)) (c : Cut) (cs : List Cut) (s : ℤ) (ss : List ℤ) → Lists xs c → At rest cs ss → At (xs ∷ rest) (c ∷ cs) (s ∷ ss)
one_more xs rest c cs s ss h later z [] e = absurd (let f : false ≡ true = e in cc)
one_more xs rest c cs s ss h later z (j ∷ js) e =
    let both = and_parts (nat_lt j c.count) (is_index (counts cs) js) e in
    ap (λ y. place_at y (scaled cs ss) js) (sym (shifted (z +ℤ (pos c.first *ℤ s)) (pos j *ℤ (c.step *ℤ s)) ss (firsts cs)))
    ∙ later ((z +ℤ (pos c.first *ℤ s)) +ℤ (pos j *ℤ (c.step *ℤ s))) js both.1
    ∙ ap (λ y. place_at y ss (picked rest js)) (spot_of (get_or xs j 0) c.first j c.step s z (h j (ltb-true j c.count both.0)))

pub taken_at : (ns : List ℕ) (slices : List Slice) (cs : List Cut) (ss : List ℤ) → all_cuts ns slices ≡ Ok cs → length ss ≡ length ns → list_all (nat_le 1) ns ≡ true → At (taken ns slices) cs ss
taken_at [] slices cs [] e same all = subst (λ ds. At [] ds []) (let f : Ok [] ≡ Ok cs = e in let g : [] ≡ cs = cc in g) none
  where
    none : At [] [] []
    none z [] e = refl
    none z (i ∷ is) e = refl
taken_at [] slices cs (s ∷ ss) e same all = absurd (omega arith)
taken_at (n ∷ ns) slices cs [] e same all = absurd (omega arith)
taken_at (n ∷ ns) [] cs (s ∷ ss) e same all =
    let some = and_parts (nat_le 1 n) (list_all (nat_le 1) ns) all in
    let b = both_there (Ok (whole_cut n)) (all_cuts ns []) cs e in
    let whole : whole_cut n ≡ b.one = (let f : Ok (whole_cut n) ≡ Ok b.one = b.first in cc) in
    subst (λ ds. At (range_with_len 0 n ∷ taken ns []) ds (s ∷ ss)) b.is
    (one_more (range_with_len 0 n) (taken ns []) b.one b.others s ss (subst (Lists (range_with_len 0 n)) whole (whole_list n)) (taken_at ns [] b.others ss b.later (omega arith) some.1))
taken_at (n ∷ ns) (slice ∷ slices) cs (s ∷ ss) e same all =
    let some = and_parts (nat_le 1 n) (list_all (nat_le 1) ns) all in
    let b = both_there (cut n slice) (all_cuts ns slices) cs e in
    subst (λ ds. At (taken_by n slice.start slice.stop slice.step ∷ taken ns slices) ds (s ∷ ss)) b.is
    (one_more (taken_by n slice.start slice.stop slice.step) (taken ns slices) b.one b.others s ss (cut_list n slice.start slice.stop slice.step b.one b.first) (taken_at ns slices b.others ss b.later (omega arith) some.1))

-- ---- the view

pub slice_element : (v : Strided) (slices : List Slice) (cs : List Cut) → is_view v ≡ true → all_cuts v.lengths slices ≡ Ok cs → AreCuts v.lengths cs
    → (index : List ℕ) → is_index (counts cs) index ≡ true → element_at (cut_view v cs) index ≡ element_at v (picked (taken v.lengths slices) index)
slice_element v slices cs e is lawful index i =
    ap (λ z. place_at z (scaled cs v.strides) index) (place_is (place_at (pos v.start) v.strides (firsts cs)) (begins v.start v.lengths v.strides cs (same_rank v e) lawful (sound_view v e)))
    ∙ taken_at v.lengths slices cs v.strides is (same_rank v e) (sound_view v e).lengths (pos v.start) index i
