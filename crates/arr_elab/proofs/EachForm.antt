-- Each form of an expression keeps a scene, where its arguments do.
use Rattle.std.proofs.Common.{◌≡◌, ℕ, List, [], ◌∷◌, Bool, true, not, length, get_or, map, refl, ap, sym, ◌∙◌, subst, arith}
use Rattle.std.specs.Prelude.{nat_lt, ◌==◌, Ok, Err}
use Rattle.std.proofs.Math.ListN.{get_or-map}
use Rattle.std.proofs.lemmas.Bool.{ltb-true, ltb-false, eqb-false}
use Rattle.arr_num.specs.declared.elem.Elem.{Elem}
use Rattle.arr_num.specs.declared.elem.Elem.TheVariants.{U8}
use Rattle.arr_num.specs.Numbers.{in_type}
use Rattle.arr_view.specs.Strided.{Strided}
use Rattle.arr_ops.specs.declared.op.Op.{Op}
use Rattle.arr_ops.specs.declared.op.Operand.TheVariants as operand
use Rattle.arr_num.specs.Types.{same_elem, same_elem_is}
use Rattle.arr_shape.specs.declared.fault.ShapeFault.TheVariants.{AxisRange}
use Rattle.arr_shape.specs.Shapes.{is_shape, checked_shape, checked_axis, broadcast}
use Rattle.arr_shape.specs.Views.{spread, transpose, reshape, strided}
use Rattle.arr_shape.specs.Slices.{slice}
use Rattle.arr_tree.specs.declared.refusal.Place.{Place}
use Rattle.arr_tree.specs.declared.refusal.Kind.TheVariants.{TypeMismatch, LiteralRange, RankRange, EmptyArray, TooManyElements}
use Rattle.arr_tree.specs.declared.tree.Code16.{Code16}
use Rattle.arr_tree.specs.declared.tree.Type4.{Type4}
use Rattle.arr_tree.specs.declared.tree.Cut.{Cut}
use Rattle.arr_tree.specs.declared.tree.Word.{Word}
use Rattle.arr_tree.specs.declared.tree.Lengths.{Lengths}
use Rattle.arr_tree.specs.declared.tree.Steps.{Steps}
use Rattle.arr_elab.specs.declared.value.Value.{Value}
use Rattle.arr_elab.specs.declared.value.Value.TheVariants as value
use Rattle.arr_elab.specs.declared.value.Prepared.{Prepared}
use Rattle.arr_elab.specs.declared.value.Prepared.TheVariants.{Ready, Open}
use Rattle.arr_elab.specs.State.{State, Reading, ◌>>=◌}
use Rattle.arr_elab.specs.Codes.{elem_of, binary_code}
use Rattle.arr_tree.specs.Trees.{signed}
use Rattle.arr_elab.specs.Expressions.{pending, seen, settled, array, lookup, named, literal, unary, cast, power, joined, binary, fold, range, filled, full, bounds, index, broadcasted, transposed, reshaped, strided_anew}
use Rattle.arr_elab.specs.Recording.{Scene, length_of}
use Rattle.arr_elab.proofs.Derived.{not_true, Lies, is_below, ok_if, derived_spread, derived_turned, derived_reshaped, lies_strided}
use Rattle.arr_elab.proofs.Sliced.{derived_slice}
use Rattle.arr_elab.proofs.Scenes.{Stands, stands_derived, stands_lying}
use Rattle.arr_elab.proofs.Keeping.{Keeps}
use Rattle.arr_elab.proofs.Shaped.{view_shape, checked_is, line_shape, broadcast_shape}
use Rattle.arr_elab.proofs.Waiting.{Pends, pends_copy, pends_unary, pends_power, pends_fold, pends_number, pends_range, pends_pair, number, view}
use Rattle.arr_elab.proofs.Sound.{Reads, Sound, at_once, in_turn, needed, by_rule, IsArray, IsValue, IsPrepared, value_on, value_sound, array_sound, lookup_sound}

opened : (at : Place) (shape : List ℕ) (op : Op) (scene : Scene) (s : State) (r : Prepared × State) → Keeps s scene → Pends scene shape op → pending at shape op s ≡ Ok r → Reads IsPrepared scene r
opened at shape op scene s r k h e = at_once IsPrepared scene s (Open (record { at = at; shape = shape; op = op })) r k h e

looked : (t : Elem) (v : Strided) (scene : Scene) (s : State) (r : Prepared × State) → Keeps s scene → Stands scene t v → seen t v s ≡ Ok r → Reads IsPrepared scene r
looked t v scene s r k h e = at_once IsPrepared scene s (Ready (value.Array (record { view = v; elem = t }))) r k h e

-- ---- names and literals

pub named_sound : (word : Word) → Sound IsPrepared (named word)
named_sound word scene s r k e = in_turn IsArray IsPrepared scene (lookup word s) _ r e (λ a f. lookup_sound word scene s a k f) (λ a next g j i e. looked a.0.elem a.0.view next a.1 r j i e)

pub literal_sound : (at : Place) (negative : Bool) (size : ℕ) → Sound IsPrepared (literal at negative size)
literal_sound at negative size scene s r k e = at_once IsPrepared scene s (Ready (value.Literal at (signed negative size))) r k tt e

-- ---- operators

pub unary_sound : (at : Place) (c : Code16) (of : Reading Prepared) → Sound IsPrepared of → Sound IsPrepared (unary at c of)
unary_sound at c of h scene s r k e =
    in_turn IsArray IsPrepared scene (array of s) _ r e (λ a f. array_sound of h scene s a k f) (λ a next g j i e. opened at a.0.view.lengths _ next a.1 r j (pends_unary next c a.0.elem a.0.view i) e)

pub cast_sound : (at : Place) (to : Type4) (of : Reading Prepared) → Sound IsPrepared of → Sound IsPrepared (cast at to of)
cast_sound at to of h scene s r k e =
    in_turn IsArray IsPrepared scene (array of s) _ r e (λ a f. array_sound of h scene s a k f)
    (λ a next g j i e. opened at a.0.view.lengths _ next a.1 r j (pends_copy next (elem_of to) a.0.elem a.0.view i) e)

pub power_sound : (at : Place) (of : Reading Prepared) (exponent : ℕ) → Sound IsPrepared of → Sound IsPrepared (power at of exponent)
power_sound at of exponent h scene s r k e =
    in_turn IsArray IsPrepared scene (array of s) _ r e (λ a f. array_sound of h scene s a k f)
    (λ a next g j i e. opened at a.0.view.lengths _ next a.1 r j (pends_power next a.0.elem a.0.view exponent i) e)

pub fold_sound : (at : Place) (c : Code16) (of : Reading Prepared) (axis : ℕ) (axis_at : Place) → Sound IsPrepared of → Sound IsPrepared (fold at c of axis axis_at)
fold_sound at c of axis axis_at h scene s r k e =
    in_turn IsArray IsPrepared scene (array of s) _ r e (λ a f. array_sound of h scene s a k f) (λ a next g j i e.
    let along = by_rule axis_at (checked_axis a.0.view.lengths axis) a.1 _ r e in
    let low = ok_if (nat_lt axis (length a.0.view.lengths)) axis along.0 AxisRange along.1 in
    opened at _ _ next a.1 r j (pends_fold next c a.0.elem a.0.view along.0 i (ltb-true along.0 (length a.0.view.lengths) (ap (λ n. nat_lt n (length a.0.view.lengths)) (sym low.1) ∙ low.0))) along.2)

-- a literal and an array, an array and a literal, two arrays
joined_reads : (at : Place) (c : Code16) (x y : Value) (scene : Scene) (s : State) (r : Prepared × State) → Keeps s scene → IsValue scene x → IsValue scene y → joined at (binary_code c) x y s ≡ Ok r → Reads IsPrepared scene r
joined_reads at c (value.Literal left x) (value.Literal right y) scene s r k h i e = absurd (let f : Err (record { at = at; kind = TypeMismatch }) ≡ Ok r = e in cc)
joined_reads at c (value.Literal left x) (value.Array b) scene s r k h i e =
    let fits = needed (in_type b.elem x) left LiteralRange s _ r e in
    opened at _ _ scene s r k (pends_pair scene b.elem b.view.lengths c (operand.Number x) (operand.Array b.view) (view_shape b.view i.placed.lawful) (number fits.0) (view i refl)) fits.1
joined_reads at c (value.Array a) (value.Literal right y) scene s r k h i e =
    let fits = needed (in_type a.elem y) right LiteralRange s _ r e in
    opened at _ _ scene s r k (pends_pair scene a.elem a.view.lengths c (operand.Array a.view) (operand.Number y) (view_shape a.view h.placed.lawful) (view h refl) (number fits.0)) fits.1
joined_reads at c (value.Array a) (value.Array b) scene s r k h i e =
    let types = needed (same_elem a.elem b.elem) at TypeMismatch s _ r e in
    let shape = by_rule at (broadcast a.view.lengths b.view.lengths) s _ r types.1 in
    let x = by_rule at (spread a.view shape.0) s _ r shape.2 in
    let y = by_rule at (spread b.view shape.0) s _ r x.2 in
    let good = broadcast_shape a.view.lengths b.view.lengths shape.0 (view_shape a.view h.placed.lawful) (view_shape b.view i.placed.lawful) shape.1 in
    let left = derived_spread a.view shape.0 x.0 h.placed.lawful good x.1 in
    let right = derived_spread b.view shape.0 y.0 i.placed.lawful good y.1 in
    let other = subst (λ t. Stands scene t y.0) (sym (same_elem_is a.elem b.elem types.0)) (stands_derived scene b.elem b.view y.0 i right.0) in
    opened at _ _ scene s r k (pends_pair scene a.elem shape.0 c (operand.Array x.0) (operand.Array y.0) good (view (stands_derived scene a.elem a.view x.0 h left.0) left.1) (view other right.1)) y.2

pub binary_sound : (at : Place) (c : Code16) (left right : Reading Prepared) → Sound IsPrepared left → Sound IsPrepared right → Sound IsPrepared (binary at c left right)
binary_sound at c left right h i scene s r k e =
    in_turn IsValue IsPrepared scene ((left >>= settled) s) _ r e (λ a f. value_sound left h scene s a k f) (λ a next g j x e.
    in_turn IsValue IsPrepared next ((right >>= settled) a.1) _ r e (λ b f. value_sound right i next a.1 b j f) (λ b last l m y e. joined_reads at c a.0 b.0 last b.1 r m (value_on next last a.0 l x) y e))

-- ---- arrays made from nothing

pub range_sound : (at : Place) (count : ℕ) (count_at : Place) (to : Type4) → Sound IsPrepared (range at count count_at to)
range_sound at count count_at to scene s r k e =
    let some = needed (not (count == 0)) count_at EmptyArray s _ r e in
    let few = needed (not (nat_lt 1048576 count)) count_at TooManyElements s _ r some.1 in
    let none : count ≡ 0 → ⊥ = eqb-false count 0 (not_true (count == 0) some.0) in
    opened at _ _ scene s r k (pends_range scene (elem_of to) (count ∷ []) (line_shape count (omega arith) (ltb-false 1048576 count (not_true (nat_lt 1048576 count) few.0)))) few.1

filled_reads : (at : Place) (shape : List ℕ) (t : Elem) (v : Value) (scene : Scene) (s : State) (r : Prepared × State) → Keeps s scene → is_shape shape ≡ true → filled at shape t v s ≡ Ok r → Reads IsPrepared scene r
filled_reads at shape t (value.Literal literal_at z) scene s r k good e =
    let fits = needed (in_type t z) literal_at LiteralRange s _ r e in
    opened at _ _ scene s r k (pends_number scene t shape z good fits.0) fits.1
filled_reads at shape t (value.Array a) scene s r k good e = absurd (let f : Err (record { at = at; kind = TypeMismatch }) ≡ Ok r = e in cc)

pub full_sound : (at : Place) (shape : Lengths) (of : Reading Prepared) (to : Type4) → Sound IsPrepared of → Sound IsPrepared (full at shape of to)
full_sound at shape of to h scene s r k e =
    let lengths = by_rule shape.at (checked_shape shape.list) s _ r e in
    in_turn IsValue IsPrepared scene ((of >>= settled) s) _ r lengths.2 (λ a f. value_sound of h scene s a k f)
    (λ a next g j i e. filled_reads at lengths.0 (elem_of to) a.0 next a.1 r j (checked_is shape.list lengths.0 lengths.1) e)

-- ---- views

pub index_sound : (at : Place) (of : Reading Prepared) (cuts : List Cut) → Sound IsPrepared of → Sound IsPrepared (index at of cuts)
index_sound at of cuts h scene s r k e =
    in_turn IsArray IsPrepared scene (array of s) _ r e (λ a f. array_sound of h scene s a k f) (λ a next g j i e.
    let w = by_rule at (slice a.0.view (map bounds cuts)) a.1 _ r e in
    looked a.0.elem w.0 next a.1 r j (stands_derived next a.0.elem a.0.view w.0 i (derived_slice a.0.view (map bounds cuts) w.0 i.placed.lawful w.1)) w.2)

pub broadcasted_sound : (at : Place) (of : Reading Prepared) (shape : Lengths) → Sound IsPrepared of → Sound IsPrepared (broadcasted at of shape)
broadcasted_sound at of shape h scene s r k e =
    in_turn IsArray IsPrepared scene (array of s) _ r e (λ a f. array_sound of h scene s a k f) (λ a next g j i e.
    let lengths = by_rule shape.at (checked_shape shape.list) a.1 _ r e in
    let w = by_rule at (spread a.0.view lengths.0) a.1 _ r lengths.2 in
    looked a.0.elem w.0 next a.1 r j (stands_derived next a.0.elem a.0.view w.0 i (derived_spread a.0.view lengths.0 w.0 i.placed.lawful (checked_is shape.list lengths.0 lengths.1) w.1).0) w.2)

pub transposed_sound : (of : Reading Prepared) → Sound IsPrepared of → Sound IsPrepared (transposed of)
transposed_sound of h scene s r k e =
    in_turn IsArray IsPrepared scene (array of s) _ r e (λ a f. array_sound of h scene s a k f)
    (λ a next g j i e. looked a.0.elem (transpose a.0.view) next a.1 r j (stands_derived next a.0.elem a.0.view (transpose a.0.view) i (derived_turned a.0.view i.placed.lawful)) e)

pub reshaped_sound : (at : Place) (of : Reading Prepared) (shape : Lengths) → Sound IsPrepared of → Sound IsPrepared (reshaped at of shape)
reshaped_sound at of shape h scene s r k e =
    in_turn IsArray IsPrepared scene (array of s) _ r e (λ a f. array_sound of h scene s a k f) (λ a next g j i e.
    let lengths = by_rule shape.at (checked_shape shape.list) a.1 _ r e in
    let w = by_rule at (reshape a.0.view lengths.0) a.1 _ r lengths.2 in
    looked a.0.elem w.0 next a.1 r j (stands_derived next a.0.elem a.0.view w.0 i (derived_reshaped a.0.view lengths.0 w.0 i.placed.lawful (checked_is shape.list lengths.0 lengths.1) w.1)) w.2)

-- the length of a base, as the scene and the state have it
same_length : (s : State) (scene : Scene) (b : ℕ) → Keeps s scene → get_or s.bases b 0 ≡ length_of scene b
same_length s scene b k = ap (λ xs. get_or xs b 0) (sym k.lengths) ∙ get_or-map (λ (p : ℕ × Elem). p.0) scene.bases b (0, U8)

stands_strided : (s : State) (scene : Scene) (t : Elem) (v w : Strided) → Keeps s scene → Stands scene t v → Lies v.base (get_or s.bases v.base 0) w → Stands scene t w
stands_strided s scene t v w k h l = stands_lying scene t v w h (record { lawful = l.lawful; base = l.base; inside = ap (λ n. is_below n w) (sym (same_length s scene v.base k)) ∙ l.inside })

pub strided_sound : (at : Place) (of : Reading Prepared) (start : ℕ) (shape : Lengths) (strides : Steps) → Sound IsPrepared of → Sound IsPrepared (strided_anew at of start shape strides)
strided_sound at of start shape strides h scene s r k e =
    in_turn IsArray IsPrepared scene (array of s) _ r e (λ a f. array_sound of h scene s a k f) (λ a next g j i e.
    let lengths = by_rule shape.at (checked_shape shape.list) a.1 _ r e in
    let same = needed (length strides.list == length lengths.0) strides.at RankRange a.1 _ r lengths.2 in
    let w = by_rule at (strided a.0.view.base (get_or a.1.bases a.0.view.base 0) start lengths.0 strides.list) a.1 _ r same.1 in
    let lies = lies_strided a.0.view.base (get_or a.1.bases a.0.view.base 0) start lengths.0 strides.list w.0 (checked_is shape.list lengths.0 lengths.1) w.1 in
    looked a.0.elem w.0 next a.1 r j (stands_strided a.1 next a.0.elem a.0.view w.0 j i lies) w.2)
