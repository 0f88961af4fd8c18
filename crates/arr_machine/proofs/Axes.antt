-- The axis and the input of an operation that folds.
use Rattle.std.proofs.Common.{◌≡◌, ℕ, ◌<◌, List, ◌++◌, Bool, true, ◌||◌, ◌&&◌, Option, Some, None, length, refl, ap, sym, subst, ◌∙◌}
use Rattle.std.specs.Prelude.{is_none, is_some, nat_lt}
use Rattle.std.specs.List.{AllByRecursion, list_all}
use Rattle.std.specs.Option.{option_to_list}
use Rattle.std.proofs.lemmas.Bool.{false≢true, ltb-true}
use Rattle.arr_num.specs.Kinds.{Kind, Reduction, Scan, folds, is_fold, kind, scans}
use Rattle.arr_view.specs.Strided.{Strided}
use Rattle.arr_view.specs.Views.{is_view}
use Rattle.arr_ops.specs.declared.op.Op.{Op}
use Rattle.arr_ops.specs.declared.op.Operand.{Operand}
use Rattle.arr_ops.specs.declared.op.Operand.TheVariants.{Array, Number}
use Rattle.arr_ops.specs.Formed.{along_axis, dropped_axis, is_array, operands_kept, same_elem, same_shape, well_formed}
use Rattle.arr_ops.specs.Memory.{lengths_of, or_zero}
use Rattle.arr_ops.specs.Ops.{inputs, outputs, view_of}
use Rattle.arr_ops.proofs.Spots.{all_left, all_right, none_from, operands_of, same_elem_is, views_of}
use Rattle.arr_ops.proofs.Tests.{both_left, both_right}

-- ---- its axis

axis_there : (op : Op) (after : ℕ → List ℕ → List ℕ) → along_axis op after ≡ true → is_some op.axis ≡ true
axis_there op after h =
    let a = both_right (is_some op.out) _ h in
    let b = both_right (is_array op.first) _ a in
    let c = both_right (is_none op.second) _ b in
    let d = both_right (is_none op.slot) _ c in
    let f = both_right (is_none op.frees) _ d in
    both_left (is_some op.axis) _ (both_right (same_elem op.to op.from) _ f)

pub axis_kept : (k : Kind) (op : Op) → (folds k || scans k) ≡ true → operands_kept k op ≡ true → is_some op.axis ≡ true
axis_kept Reduction op h kept = axis_there op dropped_axis kept
axis_kept Scan op h kept = axis_there op (λ axis lengths. lengths) kept
axis_kept _ op h kept = absurd (false≢true h)

pub some_at : {X : Type 0} (x : Option X) → is_some x ≡ true → (y : X) × (x ≡ Some y)
some_at None h = absurd (false≢true h)
some_at (Some y) h = (y, refl)

second_none : (op : Op) (after : ℕ → List ℕ → List ℕ) → along_axis op after ≡ true → op.second ≡ None
second_none op after h =
    let a = both_right (is_some op.out) _ h in
    let b = both_right (is_array op.first) _ a in
    none_from op.second (both_left (is_none op.second) _ b)

pub second_kept : (k : Kind) (op : Op) → (folds k || scans k) ≡ true → operands_kept k op ≡ true → op.second ≡ None
second_kept Reduction op h kept = second_none op dropped_axis kept
second_kept Scan op h kept = second_none op (λ axis lengths. lengths) kept
second_kept _ op h kept = absurd (false≢true h)

array_kept : (k : Kind) (op : Op) → (folds k || scans k) ≡ true → operands_kept k op ≡ true → is_array op.first ≡ true
array_kept Reduction op h kept = both_left (is_array op.first) _ (both_right (is_some op.out) _ kept)
array_kept Scan op h kept = both_left (is_array op.first) _ (both_right (is_some op.out) _ kept)
array_kept _ op h kept = absurd (false≢true h)

-- its first operand is a view
pub folds_array : (op : Op) → well_formed op ≡ true → is_fold op.code ≡ true → is_array op.first ≡ true
folds_array op well code = array_kept (kind op.code) op code (operands_of op well)

axis_lies : (op : Op) (after : ℕ → List ℕ → List ℕ) (input : Strided) → along_axis op after ≡ true → op.first ≡ Some (Array input) → or_zero op.axis < length (lengths_of op.first)
axis_lies op after input h first =
    let a = both_right (is_some op.out) _ h in
    let b = both_right (is_array op.first) _ a in
    let c = both_right (is_none op.second) _ b in
    let d = both_right (is_none op.slot) _ c in
    let f = both_right (is_none op.frees) _ d in
    let g = both_right (same_elem op.to op.from) _ f in
    let axis : (x : ℕ) × (op.axis ≡ Some x) = some_at op.axis (both_left (is_some op.axis) _ g) in
    let test : Option ℕ → Option Operand → Bool = λ x y. list_all (λ k. list_all (λ (v : Strided). nat_lt k (length v.lengths) && same_shape (after k v.lengths) (outputs op)) (view_of y ++ view_of op.second)) (option_to_list x) in
    let there : test (Some axis.0) (Some (Array input)) ≡ true = sym (ap (λ x. test x op.first) axis.1 ∙ ap (test (Some axis.0)) first) ∙ both_right (is_some op.axis) _ g in
    let below : axis.0 < length input.lengths = ltb-true axis.0 (length input.lengths) (both_left (nat_lt axis.0 (length input.lengths)) _ (both_left (nat_lt axis.0 (length input.lengths) && same_shape (after axis.0 input.lengths) (outputs op)) _ (both_left _ true there))) in
    subst (λ (l : List ℕ). or_zero op.axis < length l) (sym (ap lengths_of first)) (subst (λ x. x < length input.lengths) (sym (ap or_zero axis.1)) below)

lies_kept : (k : Kind) (op : Op) (input : Strided) → (folds k || scans k) ≡ true → operands_kept k op ≡ true → op.first ≡ Some (Array input) → or_zero op.axis < length (lengths_of op.first)
lies_kept Reduction op input h kept first = axis_lies op dropped_axis input kept first
lies_kept Scan op input h kept first = axis_lies op (λ axis lengths. lengths) input kept first
lies_kept _ op input h kept first = absurd (false≢true h)

-- the axis is one of its input's
pub axis_inside_it : (op : Op) (input : Strided) → well_formed op ≡ true → is_fold op.code ≡ true → op.first ≡ Some (Array input) → or_zero op.axis < length (lengths_of op.first)
axis_inside_it op input well code first = lies_kept (kind op.code) op input code (operands_of op well) first

pub view_kept : (op : Op) → well_formed op ≡ true → is_fold op.code ≡ true → (v : Strided) × (op.first ≡ Some (Array v))
view_kept op well code = array_at op.first (folds_array op well code)
  where
    array_at : (x : Option Operand) → is_array x ≡ true → (v : Strided) × (x ≡ Some (Array v))
    array_at None h = absurd (false≢true h)
    array_at (Some (Number z)) h = absurd (false≢true h)
    array_at (Some (Array v)) h = (v, refl)

pub input_view : (op : Op) (input : Strided) → well_formed op ≡ true → op.first ≡ Some (Array input) → is_view input ≡ true
input_view op input well first =
    (subst (λ x. AllByRecursion (λ v. is_view v ≡ true) (view_of x)) first (all_left (λ v. is_view v ≡ true) (view_of op.first) (view_of op.second) (all_right (λ v. is_view v ≡ true) (outputs op) (inputs op) (views_of op well)))).0

-- ---- its type

fold_types : (op : Op) (after : ℕ → List ℕ → List ℕ) → along_axis op after ≡ true → op.to ≡ op.from
fold_types op after h =
    let a = both_right (is_some op.out) _ h in
    let b = both_right (is_array op.first) _ a in
    let c = both_right (is_none op.second) _ b in
    let d = both_right (is_none op.slot) _ c in
    let f = both_right (is_none op.frees) _ d in
    same_elem_is op.to op.from (both_left (same_elem op.to op.from) _ f)

types_kept : (q : Kind) (op : Op) → (folds q || scans q) ≡ true → operands_kept q op ≡ true → op.to ≡ op.from
types_kept Reduction op h kept = fold_types op dropped_axis kept
types_kept Scan op h kept = fold_types op (λ axis lengths. lengths) kept
types_kept _ op h kept = absurd (false≢true h)

pub fold_type : (op : Op) → well_formed op ≡ true → is_fold op.code ≡ true → op.to ≡ op.from
fold_type op well code = types_kept (kind op.code) op code (operands_of op well)
