-- Views that are spread.
use Rattle.std.proofs.Common.{◌≡◌, ℕ, zero, suc, ◌+◌, ◌-◌, ◌<◌, ◌≤◌, ℤ, pos, ◌+ℤ◌, ◌*ℤ◌, List, [], ◌∷◌, ◌++◌, Bool, true, false, cond, not, ◌||◌, ◌&&◌, length, get_or, drop, refl, ap, ap₂, sym, ◌∙◌, subst, arith, length-append}
use Rattle.std.specs.Prelude.{nat_le, ◌==◌, replicate}
use Rattle.std.proofs.lemmas.Int.{ints}
use Rattle.std.proofs.lemmas.Bool.{and_parts, and_from, and_right, eqb-true, le-leb}
use Rattle.std.proofs.lemmas.List.{drop_more, length-replicate}
use Rattle.arr_view.specs.Views.{places, is_place, is_zero, strides_kept}
use Rattle.arr_view.proofs.Places.{Inside, steps, steps_is, in_steps, out_steps}
use Rattle.std.specs.Prelude.{Ok, Err}
use Rattle.std.specs.List.{list_all}
use Rattle.arr_view.specs.Strided.{Strided}
use Rattle.arr_shape.specs.declared.fault.ShapeFault.TheVariants.{ShapeMismatch}
use Rattle.arr_shape.specs.Shapes.{padded}
use Rattle.arr_shape.specs.Views.{place_at, is_index, own_index, spread_from, spread, all_spread, spread_strides, padded_strides}
use Rattle.arr_shape.proofs.Shapes.{IsShape, length-padded}
use Rattle.arr_shape.proofs.Made.{Sound, strided_of, zero_is}
use Rattle.arr_shape.proofs.Indexes.{index_length}

pub spread_turn : (ms ns : List ℕ) (i : ℕ) → i < length ms → i < length ns → all_spread (drop i ms) (drop i ns) ≡ ((get_or ns i 1 == get_or ms i 0 || get_or ns i 1 == 1) && all_spread (drop (i + 1) ms) (drop (i + 1) ns))
spread_turn ms ns i a b = ap₂ all_spread (drop_more ms i 0 a) (drop_more ns i 1 b)

pub strides_turn : (ms ns : List ℕ) (ss : List ℤ) (i : ℕ) → i < length ms → i < length ns → i < length ss
    → spread_strides (drop i ms) (drop i ns) (drop i ss) ≡ cond (get_or ns i 1 == get_or ms i 0) (get_or ss i (pos 0)) (pos 0) ∷ spread_strides (drop (i + 1) ms) (drop (i + 1) ns) (drop (i + 1) ss)
strides_turn ms ns ss i a b d = ap₂ (λ xs ys. spread_strides xs ys (drop i ss)) (drop_more ms i 0 a) (drop_more ns i 1 b) ∙ ap (λ ys. spread_strides (get_or ms i 0 ∷ drop (i + 1) ms) (get_or ns i 1 ∷ drop (i + 1) ns) ys) (drop_more ss i (pos 0) d)

pub length-padded_strides : (rank : ℕ) (ss : List ℤ) → length ss ≤ rank → length (padded_strides rank ss) ≡ rank
length-padded_strides rank ss h = length-append (replicate (rank - length ss) (pos 0)) ss ∙ ap (λ k. k + length ss) (length-replicate (rank - length ss) (pos 0)) ∙ omega arith

or_true : (b : Bool) → (b || true) ≡ true
or_true true = refl
or_true false = refl

pub length-spread_strides : (ms ns : List ℕ) (ss : List ℤ) → length ns ≡ length ms → length ss ≡ length ms → length (spread_strides ms ns ss) ≡ length ms
length-spread_strides [] ns ss a b = refl
length-spread_strides (m ∷ ms) [] ss a b = absurd (omega arith)
length-spread_strides (m ∷ ms) (n ∷ ns) [] a b = absurd (omega arith)
length-spread_strides (m ∷ ms) (n ∷ ns) (s ∷ ss) a b = ap suc (length-spread_strides ms ns ss (omega arith) (omega arith))

pub spread_kept : (ms ns : List ℕ) (ss : List ℤ) → length ns ≡ length ms → strides_kept ns ss ≡ true → strides_kept ms (spread_strides ms ns ss) ≡ true
spread_kept [] ns ss a e = refl
spread_kept (m ∷ ms) [] ss a e = absurd (omega arith)
spread_kept (m ∷ ms) (n ∷ ns) [] a e = absurd (let f : false ≡ true = e in cc)
spread_kept (m ∷ ms) (n ∷ ns) (s ∷ ss) a e =
    let both = and_parts (not (n == 1) || is_zero s) (strides_kept ns ss) e in
    and_from (not (m == 1) || is_zero (cond (n == m) s (pos 0))) (strides_kept ms (spread_strides ms ns ss)) (either (n == m) refl both.0) (spread_kept ms ns ss (omega arith) both.1)
  where
    either : (b : Bool) → (n == m) ≡ b → (not (n == 1) || is_zero s) ≡ true → (not (m == 1) || is_zero (cond b s (pos 0))) ≡ true
    either true f h = ap (λ k. not (k == 1) || is_zero s) (sym (eqb-true n m f)) ∙ h
    either false f h = or_true (not (m == 1))

steps_none : (i : ℕ) → steps i (pos 0) ≡ pos 0
steps_none zero = refl
steps_none (suc i) = ap (λ t. pos 0 +ℤ t) (steps_none i)

inside_turn : (m n : ℕ) (s : ℤ) (ms ns : List ℕ) (ss : List ℤ) (z : ℤ) → ((y : ℤ) → Inside ns ss y → Inside ms (spread_strides ms ns ss) y) → Inside (n ∷ ns) (s ∷ ss) z
    → (t : Bool) → (n == m) ≡ t → (t || n == 1) ≡ true → Inside (m ∷ ms) (cond t s (pos 0) ∷ spread_strides ms ns ss) z
inside_turn m n s ms ns ss z rest h true f g =
    in_steps is_place (places ms (spread_strides ms ns ss)) m s z (λ i k.
    rest (z +ℤ steps i s) (out_steps is_place (places ns ss) n s z h i (subst (λ j. i < j) (sym (eqb-true n m f)) k)))
inside_turn m n s ms ns ss z rest h false f g =
    let one : n ≡ 1 = eqb-true n 1 g in
    let first : Inside ns ss (z +ℤ pos 0) = out_steps is_place (places ns ss) n s z h 0 (omega arith) in
    in_steps is_place (places ms (spread_strides ms ns ss)) m (pos 0) z (λ i k.
    subst (λ t. Inside ms (spread_strides ms ns ss) (z +ℤ t)) (sym (steps_none i)) (rest (z +ℤ pos 0) first))

pub spread_inside : (ms ns : List ℕ) (ss : List ℤ) (z : ℤ) → length ns ≡ length ms → length ss ≡ length ms → all_spread ms ns ≡ true → Inside ns ss z → Inside ms (spread_strides ms ns ss) z
spread_inside [] [] ss z a b e h = h
spread_inside [] (n ∷ ns) ss z a b e h = absurd (omega arith)
spread_inside (m ∷ ms) [] ss z a b e h = absurd (omega arith)
spread_inside (m ∷ ms) (n ∷ ns) [] z a b e h = absurd (omega arith)
spread_inside (m ∷ ms) (n ∷ ns) (s ∷ ss) z a b e h =
    let both = and_parts (n == m || n == 1) (all_spread ms ns) e in
    inside_turn m n s ms ns ss z (λ y. spread_inside ms ns ss y (omega arith) (omega arith) both.1) h (n == m) refl both.0

pub padded_kept : (k : ℕ) (ns : List ℕ) (ss : List ℤ) → strides_kept ns ss ≡ true → strides_kept (replicate k 1 ++ ns) (replicate k (pos 0) ++ ss) ≡ true
padded_kept zero ns ss e = e
padded_kept (suc k) ns ss e = padded_kept k ns ss e

pub padded_inside : (k : ℕ) (ns : List ℕ) (ss : List ℤ) (z : ℤ) → Inside ns ss z → Inside (replicate k 1 ++ ns) (replicate k (pos 0) ++ ss) z
padded_inside zero ns ss z h = h
padded_inside (suc k) ns ss z h =
    in_steps is_place (places (replicate k 1 ++ ns) (replicate k (pos 0) ++ ss)) 1 (pos 0) z (λ i j.
    padded_inside k ns ss (z +ℤ steps i (pos 0)) (let same : z ≡ z +ℤ pos 0 = omega (arith, ints) in subst (λ y. Inside ns ss y) (same ∙ ap (λ t. z +ℤ t) (sym (steps_none i))) h))

-- ---- the whole rule

-- a view and a shape, with the view's lists as long as the shape
module _ (start : ℕ) (ns : List ℕ) (ss : List ℤ) (shape : List ℕ) (same : length ss ≡ length ns) (view : Sound start ns ss) (wide : length ns ≤ length shape) where
  own_lengths : List ℕ
  own_lengths = padded (length shape) ns

  pub long_lengths : length (padded (length shape) ns) ≡ length shape
  long_lengths = length-padded (length shape) ns wide

  pub long_strides : length (padded_strides (length shape) ss) ≡ length shape
  long_strides = length-padded_strides (length shape) ss (omega arith)

  own_kept : strides_kept (padded (length shape) ns) (padded_strides (length shape) ss) ≡ true
  own_kept = ap (λ k. strides_kept (padded (length shape) ns) (replicate (length shape - k) (pos 0) ++ ss)) same ∙ padded_kept (length shape - length ns) ns ss view.kept

  own_inside : Inside (padded (length shape) ns) (padded_strides (length shape) ss) (pos start)
  own_inside = ap (λ k. list_all is_place (places (padded (length shape) ns) (replicate (length shape - k) (pos 0) ++ ss) (pos start))) same ∙ padded_inside (length shape - length ns) ns ss (pos start) view.inside

  pub sound_spread : IsShape shape → all_spread shape (padded (length shape) ns) ≡ true → Sound start shape (spread_strides shape (padded (length shape) ns) (padded_strides (length shape) ss))
  sound_spread good e =
      record {
        rank = good.rank;
        lengths = good.lengths;
        kept = spread_kept shape (padded (length shape) ns) (padded_strides (length shape) ss) long_lengths own_kept;
        size = good.size;
        inside = spread_inside shape (padded (length shape) ns) (padded_strides (length shape) ss) (pos start) long_lengths long_strides e own_inside;
      }

-- the answer, where it fits and where it does not
pub spread_made : (v : Strided) (shape : List ℕ) → length v.lengths ≤ length shape → all_spread shape (padded (length shape) v.lengths) ≡ true
    → spread v shape ≡ Ok (strided_of v.base v.start shape (spread_strides shape (padded (length shape) v.lengths) (padded_strides (length shape) v.strides)))
spread_made v shape h e =
    ap (λ b. cond b (Ok (strided_of v.base v.start shape (spread_strides shape (padded (length shape) v.lengths) (padded_strides (length shape) v.strides)))) (Err ShapeMismatch))
    (and_from (nat_le (length v.lengths) (length shape)) _ (le-leb (length v.lengths) (length shape) h) e)

pub spread_refused : (v : Strided) (shape : List ℕ) → all_spread shape (padded (length shape) v.lengths) ≡ false → spread v shape ≡ Err ShapeMismatch
spread_refused v shape e =
    ap (λ b. cond b (Ok (strided_of v.base v.start shape (spread_strides shape (padded (length shape) v.lengths) (padded_strides (length shape) v.strides)))) (Err ShapeMismatch))
    (and_right (nat_le (length v.lengths) (length shape)) _ e)

-- ---- its elements

stays : (i : ℕ) (s : ℤ) (m n : ℕ) → (n == m || n == 1) ≡ true → (not (n == 1) || is_zero s) ≡ true → (pos i *ℤ cond (n == m) s (pos 0)) ≡ (pos (cond (n == 1) 0 i) *ℤ s)
stays i s m n e f = by (n == m) (n == 1) e f
  where
    none : (j : ℕ) → (pos j *ℤ pos 0) ≡ pos 0
    none j = sym (steps_is j (pos 0)) ∙ steps_none j

    first : (t : ℤ) → (pos 0 *ℤ t) ≡ pos 0
    first t = sym (steps_is 0 t)

    by : (a b : Bool) → (a || b) ≡ true → (not b || is_zero s) ≡ true → (pos i *ℤ cond a s (pos 0)) ≡ (pos (cond b 0 i) *ℤ s)
    by true true e f = ap (λ t. pos i *ℤ t) (zero_is s f) ∙ none i ∙ sym (first s)
    by true false e f = refl
    by false true e f = none i ∙ sym (first s)
    by false false e f = absurd (let g : false ≡ true = e in cc)

spread_place : (ms ns : List ℕ) (ss : List ℤ) (z : ℤ) (is : List ℕ) → all_spread ms ns ≡ true → strides_kept ns ss ≡ true → length ns ≡ length ms → length is ≡ length ms
    → place_at z (spread_strides ms ns ss) is ≡ place_at z ss (own_index ns is)
spread_place [] [] [] z [] e f a b = refl
spread_place [] [] [] z (i ∷ is) e f a b = absurd (omega arith)
spread_place [] [] (s ∷ ss) z is e f a b = absurd (let g : false ≡ true = f in cc)
spread_place [] (n ∷ ns) ss z is e f a b = absurd (omega arith)
spread_place (m ∷ ms) [] ss z is e f a b = absurd (omega arith)
spread_place (m ∷ ms) (n ∷ ns) [] z is e f a b = absurd (let g : false ≡ true = f in cc)
spread_place (m ∷ ms) (n ∷ ns) (s ∷ ss) z [] e f a b = absurd (omega arith)
spread_place (m ∷ ms) (n ∷ ns) (s ∷ ss) z (i ∷ is) e f a b =
    let fits = and_parts (n == m || n == 1) (all_spread ms ns) e in
    let kept = and_parts (not (n == 1) || is_zero s) (strides_kept ns ss) f in
    ap (λ t. place_at (z +ℤ t) (spread_strides ms ns ss) is) (stays i s m n fits.0 kept.0) ∙ spread_place ms ns ss (z +ℤ (pos (cond (n == 1) 0 i) *ℤ s)) is fits.1 kept.1 (omega arith) (omega arith)

front_place : (k : ℕ) (ns : List ℕ) (ss : List ℤ) (z : ℤ) (is : List ℕ) → k ≤ length is
    → place_at z (replicate k (pos 0) ++ ss) (own_index (replicate k 1 ++ ns) is) ≡ place_at z ss (own_index ns (drop k is))
front_place zero ns ss z is h = refl
front_place (suc k) ns ss z [] h = absurd (omega arith)
front_place (suc k) ns ss z (i ∷ is) h =
    let still : z +ℤ pos 0 ≡ z = omega (arith, ints) in
    ap (λ y. place_at y (replicate k (pos 0) ++ ss) (own_index (replicate k 1 ++ ns) is)) still ∙ front_place k ns ss z is (omega arith)

pub spread_element : (start : ℕ) (ns : List ℕ) (ss : List ℤ) (shape : List ℕ) (same : length ss ≡ length ns) → Sound start ns ss → length ns ≤ length shape → all_spread shape (padded (length shape) ns) ≡ true
    → (index : List ℕ) → is_index shape index ≡ true
    → place_at (pos start) (spread_strides shape (padded (length shape) ns) (padded_strides (length shape) ss)) index ≡ place_at (pos start) ss (spread_from ns index)
spread_element start ns ss shape same view wide fits index e =
    let long : length index ≡ length shape = index_length shape index e in
    spread_place shape (padded (length shape) ns) (padded_strides (length shape) ss) (pos start) index fits (own_kept start ns ss shape same view wide) (long_lengths start ns ss shape same view wide) long
    ∙ ap (λ k. place_at (pos start) (replicate (length shape - k) (pos 0) ++ ss) (own_index (padded (length shape) ns) index)) same
    ∙ front_place (length shape - length ns) ns ss (pos start) index (omega arith)
    ∙ ap (λ k. place_at (pos start) ss (own_index ns (drop (k - length ns) index))) (sym long)
