-- How many operations the reading of each form of an expression adds.
use Rattle.std.proofs.Common.{◌≡◌, ℕ, ◌+◌, ◌≤◌, List, [], ◌∷◌, ◌++◌, Bool, true, false, cond, not, length, get_or, map, refl, subst, arith}
use Rattle.std.specs.Prelude.{nat_lt, ◌==◌, Option, Some, None, Ok, Err}
use Rattle.arr_num.specs.declared.elem.Elem.{Elem}
use Rattle.arr_num.specs.declared.code.Code.{Code}
use Rattle.arr_num.specs.Numbers.{in_type}
use Rattle.arr_view.specs.Strided.{Strided}
use Rattle.arr_view.specs.Views.{positions, whole_view}
use Rattle.arr_ops.specs.declared.op.Op.{Op}
use Rattle.arr_num.specs.Types.{same_elem}
use Rattle.arr_shape.specs.Shapes.{checked_shape, checked_axis, broadcast}
use Rattle.arr_shape.specs.Views.{spread, transpose, reshape, strided}
use Rattle.arr_shape.specs.Slices.{slice}
use Rattle.arr_tree.specs.declared.refusal.Place.{Place}
use Rattle.arr_tree.specs.declared.refusal.Kind.TheVariants.{TypeMismatch, LiteralRange, RankRange, EmptyArray, TooManyElements, UnknownName, TooMuchLive}
use Rattle.arr_tree.specs.declared.tree.Code16.{Code16}
use Rattle.arr_tree.specs.declared.tree.Type4.{Type4}
use Rattle.arr_tree.specs.declared.tree.Cut.{Cut}
use Rattle.arr_tree.specs.declared.tree.Word.{Word}
use Rattle.arr_tree.specs.declared.tree.Lengths.{Lengths}
use Rattle.arr_tree.specs.declared.tree.Steps.{Steps}
use Rattle.arr_elab.specs.declared.value.Array.{Array}
use Rattle.arr_elab.specs.declared.value.Value.{Value}
use Rattle.arr_elab.specs.declared.value.Value.TheVariants as value
use Rattle.arr_elab.specs.declared.value.Pending.{Pending}
use Rattle.arr_elab.specs.declared.value.Prepared.{Prepared}
use Rattle.arr_elab.specs.declared.value.Prepared.TheVariants.{Ready, Open}
use Rattle.arr_elab.specs.declared.step.Step.{Step}
use Rattle.arr_elab.specs.declared.step.Step.TheVariants.{Act}
use Rattle.arr_elab.specs.declared.step.Step.TheVariants as step
use Rattle.arr_elab.specs.State.{State, Reading, Checked, and_then, ◌>>=◌, pure, stands_for, fresh, live, most_live}
use Rattle.arr_elab.specs.Steps.{deeds}
use Rattle.arr_elab.specs.Codes.{elem_of, binary_code}
use Rattle.arr_tree.specs.Trees.{signed}
use Rattle.arr_elab.specs.Expressions.{onto, pending, seen, settled, array_of, array, written, found, lookup, named, literal, unary, cast, power, joined, binary, fold, range, filled, full, bounds, index, broadcasted, transposed, reshaped, strided_anew}
use Rattle.arr_elab.proofs.Sound.{needed, by_rule}

-- ---- how many operations a reading adds

abbrev pub count : State → ℕ
count s = deeds s.steps

-- an operation that waits is counted before it is recorded
abbrev pub waits : Prepared → ℕ
waits (Ready v) = 0
waits (Open p) = 1

abbrev pub nothing : {X : Type 0} → X → ℕ
nothing x = 0

-- at most n operations are added, and those that wait in what is read
abbrev pub Adds : {X : Type 0} → (X → ℕ) → ℕ → Reading X → Type 0
Adds {X} P n p = (s : State) (r : X × State) → p s ≡ Ok r → P r.0 + count r.1 ≤ count s + n

-- what was read first, and what goes on from there
pub in_turn : {X Y : Type 0} (got : Checked (X × State)) (f : X × State → Checked (Y × State)) (r : Y × State) → and_then got f ≡ Ok r → (a : X × State) × (got ≡ Ok a) × (f a ≡ Ok r)
in_turn (Err x) f r e = absurd (let g : Err x ≡ Ok r = e in cc)
in_turn (Ok a) f r e = (a, refl, e)

pub at_once : {X : Type 0} (P : X → ℕ) (n : ℕ) (s : State) (x : X) (r : X × State) → pure x s ≡ Ok r → P x + count s ≤ n → P r.0 + count r.1 ≤ n
at_once P n s x r e h = let is : (x, s) ≡ r = cc in subst (λ (q : _). P q.0 + count q.1 ≤ n) is h

pub deeds_join : (xs ys : List Step) → deeds (xs ++ ys) ≡ deeds xs + deeds ys
deeds_join [] ys = omega arith
deeds_join (Act op ∷ xs) ys = let h = deeds_join xs ys in omega arith
deeds_join (step.Gather g ∷ xs) ys = let h = deeds_join xs ys in omega arith
deeds_join (step.Scatter g ∷ xs) ys = let h = deeds_join xs ys in omega arith
deeds_join (step.Name n b ∷ xs) ys = deeds_join xs ys
deeds_join (step.Forget n ∷ xs) ys = deeds_join xs ys
deeds_join (step.Done ∷ xs) ys = deeds_join xs ys
deeds_join (step.Cut ∷ xs) ys = deeds_join xs ys

-- ---- values and arrays

opened : (at : Place) (shape : List ℕ) (op : Op) (n : ℕ) (s : State) (r : Prepared × State) → pending at shape op s ≡ Ok r → count s + 1 ≤ n → waits r.0 + count r.1 ≤ n
opened at shape op n s r e h = at_once waits n s (Open (record { at = at; shape = shape; op = op })) r e (omega arith)

looked : (t : Elem) (v : Strided) (n : ℕ) (s : State) (r : Prepared × State) → seen t v s ≡ Ok r → count s ≤ n → waits r.0 + count r.1 ≤ n
looked t v n s r e h = at_once waits n s (Ready (value.Array (record { view = v; elem = t }))) r e (omega arith)

pub fresh_adds : (at : Place) (shape : List ℕ) → Adds nothing 0 (fresh at shape)
unfolding fresh
fresh_adds at shape s r e = by (nat_lt most_live (live s + positions shape)) e
  where
    more : State
    more = record s { bases = s.bases ++ positions shape ∷ [] }

    made : Checked (Strided × State)
    made = Ok (whole_view (length s.bases) shape, more)

    by : (b : Bool) → cond b (Err (record { at = at; kind = TooMuchLive })) made ≡ Ok r → 0 + count r.1 ≤ count s + 0
    by true e = absurd (let f : Err (record { at = at; kind = TooMuchLive }) ≡ Ok r = e in cc)
    by false e = at_once nothing (count s + 0) more (whole_view (length s.bases) shape) r e (omega arith)

pub written_adds : (p : Pending) → Adds nothing 1 (written p)
unfolding written
written_adds p s r e =
    let a = in_turn (fresh p.at p.shape s) _ r e in
    let one = fresh_adds p.at p.shape s a.0 a.1 in
    let more = deeds_join a.0.1.steps (Act (onto p.op a.0.0 true) ∷ []) in
    at_once nothing (count s + 1) (record a.0.1 { steps = a.0.1.steps ++ Act (onto p.op a.0.0 true) ∷ [] }) (record { view = a.0.0; elem = p.op.to }) r a.2 (omega arith)

settled_adds : (x : Prepared) → Adds nothing (waits x) (settled x)
settled_adds (Ready v) s r e = at_once nothing (count s + 0) s v r e (omega arith)
settled_adds (Open p) s r e =
    let a = in_turn (written p s) _ r e in
    let one = written_adds p s a.0 a.1 in
    at_once nothing (count s + 1) a.0.1 (value.Array a.0.0) r a.2 (omega arith)

pub value_adds : (of : Reading Prepared) (n : ℕ) → Adds waits n of → Adds nothing n (of >>= settled)
value_adds of n h s r e =
    let a = in_turn (of s) _ r e in
    let one = h s a.0 a.1 in
    let two = settled_adds a.0.0 a.0.1 r a.2 in
    omega arith

pub array_of_adds : (v : Value) → Adds nothing 0 (array_of v)
array_of_adds (value.Literal at number) s r e = absurd (let f : Err (record { at = at; kind = TypeMismatch }) ≡ Ok r = e in cc)
array_of_adds (value.Array a) s r e = at_once nothing (count s + 0) s a r e (omega arith)

pub array_adds : (of : Reading Prepared) (n : ℕ) → Adds waits n of → Adds nothing n (array of)
array_adds of n h s r e =
    let a = in_turn ((of >>= settled) s) _ r e in
    let one = value_adds of n h s a.0 a.1 in
    let two = array_of_adds a.0.0 a.0.1 r a.2 in
    omega arith

pub lookup_adds : (word : Word) → Adds nothing 0 (lookup word)
lookup_adds word s r e = by (stands_for s.names word.text) e
  where
    by : (o : Option Array) → found word.at o s ≡ Ok r → 0 + count r.1 ≤ count s + 0
    by None e = absurd (let g : Err (record { at = word.at; kind = UnknownName }) ≡ Ok r = e in cc)
    by (Some a) e = at_once nothing (count s + 0) s a r e (omega arith)

-- ---- each form

pub named_adds : (word : Word) → Adds waits 0 (named word)
named_adds word s r e =
    let a = in_turn (lookup word s) _ r e in
    let one = lookup_adds word s a.0 a.1 in
    looked a.0.0.elem a.0.0.view (count s + 0) a.0.1 r a.2 (omega arith)

pub literal_adds : (at : Place) (negative : Bool) (size : ℕ) → Adds waits 0 (literal at negative size)
literal_adds at negative size s r e = at_once waits (count s + 0) s (Ready (value.Literal at (signed negative size))) r e (omega arith)

pub unary_adds : (at : Place) (c : Code16) (of : Reading Prepared) (n : ℕ) → Adds waits n of → Adds waits (n + 1) (unary at c of)
unary_adds at c of n h s r e =
    let a = in_turn (array of s) _ r e in
    let one = array_adds of n h s a.0 a.1 in
    opened at _ _ (count s + (n + 1)) a.0.1 r a.2 (omega arith)

pub cast_adds : (at : Place) (to : Type4) (of : Reading Prepared) (n : ℕ) → Adds waits n of → Adds waits (n + 1) (cast at to of)
cast_adds at to of n h s r e =
    let a = in_turn (array of s) _ r e in
    let one = array_adds of n h s a.0 a.1 in
    opened at _ _ (count s + (n + 1)) a.0.1 r a.2 (omega arith)

pub power_adds : (at : Place) (of : Reading Prepared) (exponent n : ℕ) → Adds waits n of → Adds waits (n + 1) (power at of exponent)
power_adds at of exponent n h s r e =
    let a = in_turn (array of s) _ r e in
    let one = array_adds of n h s a.0 a.1 in
    opened at _ _ (count s + (n + 1)) a.0.1 r a.2 (omega arith)

pub fold_adds : (at : Place) (c : Code16) (of : Reading Prepared) (axis : ℕ) (axis_at : Place) (n : ℕ) → Adds waits n of → Adds waits (n + 1) (fold at c of axis axis_at)
fold_adds at c of axis axis_at n h s r e =
    let a = in_turn (array of s) _ r e in
    let one = array_adds of n h s a.0 a.1 in
    let along = by_rule axis_at (checked_axis a.0.0.view.lengths axis) a.0.1 _ r a.2 in
    opened at _ _ (count s + (n + 1)) a.0.1 r along.2 (omega arith)

joined_adds : (at : Place) (c : Code) (x y : Value) → Adds waits 1 (joined at c x y)
joined_adds at c (value.Literal left x) (value.Literal right y) s r e = absurd (let f : Err (record { at = at; kind = TypeMismatch }) ≡ Ok r = e in cc)
joined_adds at c (value.Literal left x) (value.Array b) s r e =
    let fits = needed (in_type b.elem x) left LiteralRange s _ r e in
    opened at _ _ (count s + 1) s r fits.1 (omega arith)
joined_adds at c (value.Array a) (value.Literal right y) s r e =
    let fits = needed (in_type a.elem y) right LiteralRange s _ r e in
    opened at _ _ (count s + 1) s r fits.1 (omega arith)
joined_adds at c (value.Array a) (value.Array b) s r e =
    let types = needed (same_elem a.elem b.elem) at TypeMismatch s _ r e in
    let shape = by_rule at (broadcast a.view.lengths b.view.lengths) s _ r types.1 in
    let x = by_rule at (spread a.view shape.0) s _ r shape.2 in
    let y = by_rule at (spread b.view shape.0) s _ r x.2 in
    opened at _ _ (count s + 1) s r y.2 (omega arith)

pub binary_adds : (at : Place) (c : Code16) (left right : Reading Prepared) (n m : ℕ) → Adds waits n left → Adds waits m right → Adds waits (n + m + 1) (binary at c left right)
binary_adds at c left right n m h k s r e =
    let a = in_turn ((left >>= settled) s) _ r e in
    let one = value_adds left n h s a.0 a.1 in
    let b = in_turn ((right >>= settled) a.0.1) _ r a.2 in
    let two = value_adds right m k a.0.1 b.0 b.1 in
    let last = joined_adds at (binary_code c) a.0.0 b.0.0 b.0.1 r b.2 in
    omega arith

pub range_adds : (at : Place) (number : ℕ) (number_at : Place) (to : Type4) → Adds waits 1 (range at number number_at to)
range_adds at number number_at to s r e =
    let some = needed (not (number == 0)) number_at EmptyArray s _ r e in
    let few = needed (not (nat_lt 1048576 number)) number_at TooManyElements s _ r some.1 in
    opened at _ _ (count s + 1) s r few.1 (omega arith)

filled_adds : (at : Place) (shape : List ℕ) (t : Elem) (v : Value) → Adds waits 1 (filled at shape t v)
filled_adds at shape t (value.Literal literal_at z) s r e =
    let fits = needed (in_type t z) literal_at LiteralRange s _ r e in
    opened at _ _ (count s + 1) s r fits.1 (omega arith)
filled_adds at shape t (value.Array a) s r e = absurd (let f : Err (record { at = at; kind = TypeMismatch }) ≡ Ok r = e in cc)

pub full_adds : (at : Place) (shape : Lengths) (of : Reading Prepared) (to : Type4) (n : ℕ) → Adds waits n of → Adds waits (n + 1) (full at shape of to)
full_adds at shape of to n h s r e =
    let lengths = by_rule shape.at (checked_shape shape.list) s _ r e in
    let a = in_turn ((of >>= settled) s) _ r lengths.2 in
    let one = value_adds of n h s a.0 a.1 in
    let last = filled_adds at lengths.0 (elem_of to) a.0.0 a.0.1 r a.2 in
    omega arith

pub index_adds : (at : Place) (of : Reading Prepared) (cuts : List Cut) (n : ℕ) → Adds waits n of → Adds waits n (index at of cuts)
index_adds at of cuts n h s r e =
    let a = in_turn (array of s) _ r e in
    let one = array_adds of n h s a.0 a.1 in
    let w = by_rule at (slice a.0.0.view (map bounds cuts)) a.0.1 _ r a.2 in
    looked a.0.0.elem w.0 (count s + n) a.0.1 r w.2 (omega arith)

pub broadcasted_adds : (at : Place) (of : Reading Prepared) (shape : Lengths) (n : ℕ) → Adds waits n of → Adds waits n (broadcasted at of shape)
broadcasted_adds at of shape n h s r e =
    let a = in_turn (array of s) _ r e in
    let one = array_adds of n h s a.0 a.1 in
    let lengths = by_rule shape.at (checked_shape shape.list) a.0.1 _ r a.2 in
    let w = by_rule at (spread a.0.0.view lengths.0) a.0.1 _ r lengths.2 in
    looked a.0.0.elem w.0 (count s + n) a.0.1 r w.2 (omega arith)

pub transposed_adds : (of : Reading Prepared) (n : ℕ) → Adds waits n of → Adds waits n (transposed of)
transposed_adds of n h s r e =
    let a = in_turn (array of s) _ r e in
    let one = array_adds of n h s a.0 a.1 in
    looked a.0.0.elem (transpose a.0.0.view) (count s + n) a.0.1 r a.2 (omega arith)

pub reshaped_adds : (at : Place) (of : Reading Prepared) (shape : Lengths) (n : ℕ) → Adds waits n of → Adds waits n (reshaped at of shape)
reshaped_adds at of shape n h s r e =
    let a = in_turn (array of s) _ r e in
    let one = array_adds of n h s a.0 a.1 in
    let lengths = by_rule shape.at (checked_shape shape.list) a.0.1 _ r a.2 in
    let w = by_rule at (reshape a.0.0.view lengths.0) a.0.1 _ r lengths.2 in
    looked a.0.0.elem w.0 (count s + n) a.0.1 r w.2 (omega arith)

pub strided_adds : (at : Place) (of : Reading Prepared) (start : ℕ) (shape : Lengths) (strides : Steps) (n : ℕ) → Adds waits n of → Adds waits n (strided_anew at of start shape strides)
strided_adds at of start shape strides n h s r e =
    let a = in_turn (array of s) _ r e in
    let one = array_adds of n h s a.0 a.1 in
    let lengths = by_rule shape.at (checked_shape shape.list) a.0.1 _ r a.2 in
    let same = needed (length strides.list == length lengths.0) strides.at RankRange a.0.1 _ r lengths.2 in
    let w = by_rule at (strided a.0.0.view.base (get_or a.0.1.bases a.0.0.view.base 0) start lengths.0 strides.list) a.0.1 _ r same.1 in
    looked a.0.0.elem w.0 (count s + n) a.0.1 r w.2 (omega arith)
