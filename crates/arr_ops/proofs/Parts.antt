-- The tests of well_formed, part by part.
use Rattle.std.proofs.Common.{◌≡◌, ℕ, suc, ◌+◌, ◌-◌, ◌≤◌, ◌<◌, List, [], ◌∷◌, ◌++◌, Bool, true, false, cond, not, ◌||◌, ◌&&◌, length, get_or, take, drop, refl, ap, ap₂, sym, ◌∙◌, arith, length-drop}
use Rattle.std.specs.Prelude.{nat_le, ◌==◌, is_some, is_none, Option, Some, None}
use Rattle.std.proofs.lemmas.Bool.{and_parts, false≢true, le-leb, ne_eqb, eq-eqb}
use Rattle.std.proofs.lemmas.List.{at_drop_more, at_drop_all, take-append-drop}
use Rattle.arr_view.specs.Strided.{Strided}
use Rattle.std.proofs.Common.{pos}
use Rattle.std.proofs.lemmas.List.{length-map}
use Rattle.arr_view.specs.Views.{has, is_view, positions, same_lists, repeated, elements, places, to_place}
use Rattle.arr_view.proofs.Checks.{lawful, same_rank}
use Rattle.arr_view.proofs.Counting.{some_position}
use Rattle.arr_view.proofs.Places.{length-places}
use Rattle.std.proofs.Common.{length-append, map}
use Rattle.std.proofs.lemmas.List.{length-take-le}
use Rattle.std.specs.Option.{option_to_list}
use Rattle.arr_num.specs.Kinds.{Kind, Binary, Unary, Counting, Reduction, Scan, Ending, Printing, kind, walks}
use Rattle.arr_num.specs.declared.code.Code.{Code}
use Rattle.arr_num.specs.declared.code.Code.TheVariants.{Sync}
use Rattle.arr_ops.specs.declared.op.Op.{Op}
use Rattle.arr_ops.specs.Ops.{inputs, walked, keeps_bases}
use Rattle.arr_ops.specs.Formed.{dropped_axis, operands_kept, elementwise, plain, is_array}

pub and_true : (b : Bool) → b ≡ (b && true)
and_true true = refl
and_true false = refl

-- a view has a position
pub view_test : (v : Strided) (n : ℕ) → is_view v ≡ true → n ≡ positions v.lengths → nat_le 1 n ≡ is_view v
view_test v n h e = le-leb 1 n (let some : 1 ≤ positions v.lengths = some_position v.lengths (lawful v h).lengths in omega arith) ∙ sym h

-- ---- lists, place by place

pub has_more : (xs : List ℕ) (x i : ℕ) → i < length xs → (get_or xs i 0 ≡ x → ⊥) → has (drop i xs) x ≡ has (drop (i + 1) xs) x
has_more xs x i l h =
    at_drop_more (λ ys. has ys x) xs i 0 l ∙ ap (λ b. b || has (drop (i + 1) xs) x) (ne_eqb x (get_or xs i 0) (λ e. h (sym e)))

pub has_here : (xs : List ℕ) (x i : ℕ) → i < length xs → get_or xs i 0 ≡ x → has (drop i xs) x ≡ true
has_here xs x i l e = at_drop_more (λ ys. has ys x) xs i 0 l ∙ ap (λ b. b || has (drop (i + 1) xs) x) (eq-eqb x (get_or xs i 0) (sym e))

pub has_none : (xs : List ℕ) (x i : ℕ) → length xs ≤ i → has (drop i xs) x ≡ false
has_none xs x i l = at_drop_all (λ ys. has ys x) xs i l

pub repeats_more : (xs : List ℕ) (i : ℕ) → i < length xs → has (drop (i + 1) xs) (get_or xs i 0) ≡ false → repeated (drop i xs) ≡ repeated (drop (i + 1) xs)
repeats_more xs i l h = at_drop_more repeated xs i 0 l ∙ ap (λ b. b || repeated (drop (i + 1) xs)) h

pub repeats_here : (xs : List ℕ) (i : ℕ) → i < length xs → has (drop (i + 1) xs) (get_or xs i 0) ≡ true → repeated (drop i xs) ≡ true
repeats_here xs i l h = at_drop_more repeated xs i 0 l ∙ ap (λ b. b || repeated (drop (i + 1) xs)) h

pub length-elements : (v : Strided) → is_view v ≡ true → length (elements v) ≡ positions v.lengths
unfolding elements
length-elements v h = length-map (places v.lengths v.strides (pos v.start)) to_place ∙ length-places v.lengths v.strides (pos v.start) (same_rank v h)

-- two lists in two parts
pub same_in_parts : (xs ys zs ws : List ℕ) → length xs ≡ length zs → same_lists (xs ++ ys) (zs ++ ws) ≡ (same_lists xs zs && same_lists ys ws)
same_in_parts [] ys [] ws e = refl
same_in_parts [] ys (z ∷ zs) ws e = absurd (omega arith)
same_in_parts (x ∷ xs) ys [] ws e = absurd (omega arith)
same_in_parts (x ∷ xs) ys (z ∷ zs) ws e =
    elim (x == z) as (λ b. (b && same_lists (xs ++ ys) (zs ++ ws)) ≡ ((b && same_lists xs zs) && same_lists ys ws)) [ true ↦ same_in_parts xs ys zs ws (omega arith) | false ↦ refl ]

pub unlike : (xs ys : List ℕ) → (length xs ≡ length ys → ⊥) → same_lists xs ys ≡ false
unlike [] [] h = absurd (h refl)
unlike [] (y ∷ ys) h = refl
unlike (x ∷ xs) [] h = refl
unlike (x ∷ xs) (y ∷ ys) h =
    elim (x == y) as (λ b. (b && same_lists xs ys) ≡ false) [ true ↦ unlike xs ys (λ e. h (ap suc e)) | false ↦ refl ]

-- ---- a shape without an axis

dropped_is : (axis : ℕ) (whole : List ℕ) → (length whole ≡ 1 → ⊥) → dropped_axis axis whole ≡ take axis whole ++ drop (suc axis) whole
dropped_is axis [] h = refl
dropped_is axis (n ∷ []) h = absurd (h refl)
dropped_is axis (n ∷ m ∷ ms) h = refl

pub lacks : (shape whole : List ℕ) (axis : ℕ) → length shape + 1 ≡ length whole → axis < length whole → (length whole ≡ 1 → ⊥)
    → same_lists shape (dropped_axis axis whole) ≡ (same_lists (take axis shape) (take axis whole) && same_lists (drop axis shape) (drop (axis + 1) whole))
lacks shape whole axis e l h =
    let short : length (take axis shape) ≡ axis = length-take-le axis shape (omega arith) in
    let long : length (take axis whole) ≡ axis = length-take-le axis whole (omega arith) in
    ap₂ same_lists (sym (take-append-drop axis shape)) (dropped_is axis whole h ∙ ap (λ k. take axis whole ++ drop k whole) (let f : suc axis ≡ axis + 1 = omega arith in f))
    ∙ same_in_parts (take axis shape) (drop axis shape) (take axis whole) (drop (axis + 1) whole) (omega arith)

pub lacks_not : (shape whole : List ℕ) (axis : ℕ) → (length shape + 1 ≡ length whole → ⊥) → axis < length whole → (length whole ≡ 1 → ⊥) → false ≡ same_lists shape (dropped_axis axis whole)
lacks_not shape whole axis e l h =
    let cut : length (take axis whole ++ drop (suc axis) whole) ≡ axis + (length whole - suc axis) =
    length-append (take axis whole) (drop (suc axis) whole) ∙ ap₂ (λ a b. a + b) (length-take-le axis whole (omega arith)) (length-drop (suc axis) whole) in
    sym (ap (same_lists shape) (dropped_is axis whole h) ∙ unlike shape (take axis whole ++ drop (suc axis) whole) (λ f. e (omega arith)))

pub only_one : (axis : ℕ) (whole : List ℕ) → length whole ≡ 1 → dropped_axis axis whole ≡ 1 ∷ []
only_one axis [] e = absurd (omega arith)
only_one axis (n ∷ []) e = refl
only_one axis (n ∷ m ∷ ms) e = absurd (omega arith)

-- ---- what kinds have

pub out_there : (k : Kind) (op : Op) → operands_kept k op ≡ true → is_some op.out ≡ not (keeps_bases k)
out_there Binary op h = (and_parts (is_some op.out) _ (and_parts (plain op) _ (and_parts (elementwise op) _ h).0).1).0
out_there Unary op h = (and_parts (is_some op.out) _ (and_parts (plain op) _ (and_parts (elementwise op) _ h).0).1).0
out_there Counting op h = (and_parts (is_some op.out) _ (and_parts (plain op) _ (and_parts (elementwise op) _ h).0).1).0
out_there Reduction op h = (and_parts (is_some op.out) _ h).0
out_there Scan op h = (and_parts (is_some op.out) _ h).0
out_there Ending op h = absent op.out (and_parts (is_none op.out) _ (and_parts (is_some op.frees) _ h).1).0
  where
    absent : (o : Option Strided) → is_none o ≡ true → is_some o ≡ false
    absent None h = refl
    absent (Some v) h = absurd (false≢true h)
out_there Printing op h = absent op.out (and_parts (is_none op.out) _ (and_parts (is_array op.first) _ (and_parts (is_some op.slot) _ h).1).1).0
  where
    absent : (o : Option Strided) → is_none o ≡ true → is_some o ≡ false
    absent None h = refl
    absent (Some v) h = absurd (false≢true h)

pub prints : (code : Code) → kind code ≡ Printing → code ≡ Sync
prints Sync e = refl
prints _ e = absurd (cc)

-- no output, and no SYNC: FREE
pub only_ends : (op : Op) → operands_kept (kind op.code) op ≡ true → op.out ≡ None → (op.code ≡ Sync → ⊥) → kind op.code ≡ Ending
only_ends op h e ne =
    by_kind (kind op.code) refl (sym (out_there (kind op.code) op h) ∙ ap is_some e)
  where
    by_kind : (k : Kind) → kind op.code ≡ k → not (keeps_bases k) ≡ false → kind op.code ≡ Ending
    by_kind Binary f g = absurd (false≢true (sym g))
    by_kind Unary f g = absurd (false≢true (sym g))
    by_kind Counting f g = absurd (false≢true (sym g))
    by_kind Reduction f g = absurd (false≢true (sym g))
    by_kind Scan f g = absurd (false≢true (sym g))
    by_kind Ending f g = f
    by_kind Printing f g = absurd (ne (prints op.code f))

pub walks_none : (op : Op) → kind op.code ≡ Ending → op.out ≡ None → walked op ≡ []
walks_none op e f = ap₂ (λ k o. map (λ (v : Strided). v.lengths) (cond (walks k) (inputs op) (option_to_list o))) e f
