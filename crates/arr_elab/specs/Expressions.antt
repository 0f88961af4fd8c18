-- What an expression stands for, and what it records, by its outermost form. Arguments are evaluated from left to right, then the form
-- itself; the first refusal is the script's.
use Rattle.std.specs.Prelude.{ℕ, pos, List, [], ◌∷◌, Bool, true, false, not, ◌==◌, nat_lt, length, map, get_or, if◌then◌else◌, Option, Some, None, unwrap_or}
use Rattle.arr_num.specs.declared.elem.Elem.{Elem}
use Rattle.arr_num.specs.declared.elem.Elem.TheVariants as elem
use Rattle.arr_num.specs.declared.code.Code.{Code}
use Rattle.arr_num.specs.declared.code.Code.TheVariants as code
use Rattle.arr_num.specs.Numbers.{in_type, wrap}
use Rattle.arr_num.specs.Kinds.{is_reduction}
use Rattle.arr_num.specs.Types.{same_elem}
use Rattle.arr_view.specs.Strided.{Strided}
use Rattle.arr_view.specs.Views.{most_elements}
use Rattle.arr_ops.specs.declared.op.Op.{Op}
use Rattle.arr_ops.specs.declared.op.Operand.{Operand}
use Rattle.arr_ops.specs.declared.op.Operand.TheVariants as operand
use Rattle.arr_shape.specs.declared.bounds.Slice.{Slice}
use Rattle.arr_shape.specs.Shapes.{checked_shape, checked_axis, dropped_axis, broadcast}
use Rattle.arr_shape.specs.Views.{spread, transpose, reshape, strided}
use Rattle.arr_shape.specs.Slices.{slice}
use Rattle.arr_tree.specs.declared.refusal.Place.{Place}
use Rattle.arr_tree.specs.declared.refusal.Kind.TheVariants.{UnknownName, TypeMismatch, LiteralRange, RankRange, EmptyArray, TooManyElements}
use Rattle.arr_tree.specs.declared.tree.Code16.{Code16}
use Rattle.arr_tree.specs.declared.tree.Type4.{Type4}
use Rattle.arr_tree.specs.declared.tree.Cut.{Cut}
use Rattle.arr_tree.specs.declared.tree.Word.{Word}
use Rattle.arr_tree.specs.declared.tree.Lengths.{Lengths}
use Rattle.arr_tree.specs.declared.tree.Steps.{Steps}
use Rattle.arr_elab.specs.declared.value.Array.{Array}
use Rattle.arr_elab.specs.declared.value.Value.{Value}
use Rattle.arr_elab.specs.declared.value.Value.TheVariants as value
use Rattle.arr_elab.specs.declared.value.Pending.{Pending}
use Rattle.arr_elab.specs.declared.value.Prepared.{Prepared}
use Rattle.arr_elab.specs.declared.value.Prepared.TheVariants.{Ready, Open}
use Rattle.arr_elab.specs.State.{Reading, ◌>>=◌, ◌>>◌, pure, refuse, require, ruled, known, act, fresh, stands_for}
use Rattle.arr_elab.specs.Codes.{elem_of, binary_code, unary_code, fold_code, result_type}
use Rattle.arr_tree.specs.Trees.{signed}

-- ---- operations

-- without an output
abbrev pub operation : Code → Elem → Elem → Option Operand → Option Operand → Option ℕ → Op
operation code to from first second axis =
    record { code = code; to = to; from = from; out = None; first = first; second = second; axis = axis; slot = None; frees = None; makes = false }

-- with this output
abbrev pub onto : Op → Strided → Bool → Op
onto op out makes =
    record { code = op.code; to = op.to; from = op.from; out = Some out; first = op.first; second = op.second; axis = op.axis; slot = op.slot; frees = op.frees; makes = makes }

abbrev pub pending : Place → List ℕ → Op → Reading Prepared
pending at lengths op = pure (Open (record { at = at; shape = lengths; op = op }))

abbrev pub taken : Strided → Option Operand
taken view = Some (operand.Array view)

-- an operation writes a base of its own
unfoldable pub written : Pending → Reading Array
written p = do
  view ← fresh p.at p.shape
  act (onto p.op view true)
  pure (record { view = view; elem = p.op.to })

abbrev pub settled : Prepared → Reading Value
settled (Ready v) = pure v
settled (Open p) = do pure (value.Array (← written p))

-- the array of an expression where no literal may stand
abbrev pub array_of : Value → Reading Array
array_of (value.Literal at number) = refuse at TypeMismatch
array_of (value.Array array) = pure array

abbrev pub array : Reading Prepared → Reading Array
array of = of >>= settled >>= array_of

abbrev pub ready : Array → Reading Prepared
ready array = pure (Ready (value.Array array))

-- the same type, another view
abbrev pub seen : Elem → Strided → Reading Prepared
seen elem view = ready (record { view = view; elem = elem })

-- ---- names and literals

abbrev pub found : Place → Option Array → Reading Array
found at None = refuse at UnknownName
found at (Some array) = pure array

abbrev pub lookup : Word → Reading Array
lookup word = do found word.at (stands_for (← known).names word.text)

abbrev pub named : Word → Reading Prepared
named word = do ready (← lookup word)

abbrev pub literal : Place → Bool → ℕ → Reading Prepared
literal at negative size = pure (Ready (value.Literal at (signed negative size)))

-- ---- operators

abbrev pub unary : Place → Code16 → Reading Prepared → Reading Prepared
unary at sign of = do
  x ← array of
  pending at x.view.lengths (operation (unary_code sign) x.elem x.elem (taken x.view) None None)

abbrev pub cast : Place → Type4 → Reading Prepared → Reading Prepared
cast at to of = do
  x ← array of
  pending at x.view.lengths (operation code.Identity (elem_of to) x.elem (taken x.view) None None)

-- an exponent is a number of type u64
abbrev pub power : Place → Reading Prepared → ℕ → Reading Prepared
power at of exponent = do
  x ← array of
  pending at x.view.lengths (operation code.Power x.elem x.elem (taken x.view) (Some (operand.Number (wrap elem.U64 (pos exponent)))) None)

-- an operation of two operands of one type
abbrev pub of_two : Code → Elem → Operand → Operand → Op
of_two code elem x y = operation code (result_type code elem) elem (Some x) (Some y) None

abbrev pub paired : Place → Code → Elem → List ℕ → Operand → Operand → Reading Prepared
paired at code elem lengths x y = pending at lengths (of_two code elem x y)

-- of a literal and an array, of an array and a literal, of two arrays
abbrev pub joined : Place → Code → Value → Value → Reading Prepared
joined at code (value.Literal left x) (value.Literal right y) = refuse at TypeMismatch
joined at code (value.Literal left x) (value.Array b) =
    require (in_type b.elem x) left LiteralRange >> paired at code b.elem b.view.lengths (operand.Number x) (operand.Array b.view)
joined at code (value.Array a) (value.Literal right y) =
    require (in_type a.elem y) right LiteralRange >> paired at code a.elem a.view.lengths (operand.Array a.view) (operand.Number y)
joined at code (value.Array a) (value.Array b) = do
  require (same_elem a.elem b.elem) at TypeMismatch
  lengths ← ruled at (broadcast a.view.lengths b.view.lengths)
  x ← ruled at (spread a.view lengths)
  y ← ruled at (spread b.view lengths)
  paired at code a.elem lengths (operand.Array x) (operand.Array y)

abbrev pub binary : Place → Code16 → Reading Prepared → Reading Prepared → Reading Prepared
binary at sign left right = do
  x ← left >>= settled
  y ← right >>= settled
  joined at (binary_code sign) x y

-- a scan keeps the shape
abbrev pub fold_shape : Code → List ℕ → ℕ → List ℕ
fold_shape code lengths axis = if is_reduction code then dropped_axis axis lengths else lengths

abbrev pub fold : Place → Code16 → Reading Prepared → ℕ → Place → Reading Prepared
fold at sign of axis axis_at = do
  x ← array of
  along ← ruled axis_at (checked_axis x.view.lengths axis)
  pending at (fold_shape (fold_code sign) x.view.lengths along) (operation (fold_code sign) x.elem x.elem (taken x.view) None (Some along))

-- ---- arrays made from nothing

abbrev pub range : Place → ℕ → Place → Type4 → Reading Prepared
range at count count_at to = do
  require (not (count == 0)) count_at EmptyArray
  require (not (nat_lt most_elements count)) count_at TooManyElements
  pending at (count ∷ []) (operation code.Range (elem_of to) (elem_of to) None None None)

abbrev pub filled : Place → List ℕ → Elem → Value → Reading Prepared
filled at lengths elem (value.Array array) = refuse at TypeMismatch
filled at lengths elem (value.Literal literal_at number) =
    require (in_type elem number) literal_at LiteralRange >> pending at lengths (operation code.Identity elem elem (Some (operand.Number number)) None None)

abbrev pub full : Place → Lengths → Reading Prepared → Type4 → Reading Prepared
full at shape number to = do
  lengths ← ruled shape.at (checked_shape shape.list)
  filled at lengths (elem_of to) (← number >>= settled)

-- ---- views

abbrev pub bounds : Cut → Slice
bounds cut = record { start = cut.start; stop = cut.stop; step = unwrap_or cut.step (pos 1) }

abbrev pub index : Place → Reading Prepared → List Cut → Reading Prepared
index at of cuts = do
  x ← array of
  seen x.elem (← ruled at (slice x.view (map bounds cuts)))

abbrev pub broadcasted : Place → Reading Prepared → Lengths → Reading Prepared
broadcasted at of shape = do
  x ← array of
  lengths ← ruled shape.at (checked_shape shape.list)
  seen x.elem (← ruled at (spread x.view lengths))

abbrev pub transposed : Reading Prepared → Reading Prepared
transposed of = do
  x ← array of
  seen x.elem (transpose x.view)

abbrev pub reshaped : Place → Reading Prepared → Lengths → Reading Prepared
reshaped at of shape = do
  x ← array of
  lengths ← ruled shape.at (checked_shape shape.list)
  seen x.elem (← ruled at (reshape x.view lengths))

-- start and strides count elements of the whole base
abbrev pub strided_anew : Place → Reading Prepared → ℕ → Lengths → Steps → Reading Prepared
strided_anew at of start shape strides = do
  x ← array of
  lengths ← ruled shape.at (checked_shape shape.list)
  require (length strides.list == length lengths) strides.at RankRange
  s ← known
  seen x.elem (← ruled at (strided x.view.base (get_or s.bases x.view.base 0) start lengths strides.list))
