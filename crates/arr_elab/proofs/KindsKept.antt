-- Operations keep to their kinds, whatever they write of their shape.
use Rattle.std.proofs.Common.{◌≡◌, ℕ, ℤ, pos, List, [], ◌∷◌, ◌++◌, Bool, true, length, refl, ap, sym, ◌∙◌}
use Rattle.std.specs.Prelude.{nat_lt, ◌==◌, Some, None}
use Rattle.std.specs.List.{list_all}
use Rattle.std.proofs.lemmas.Bool.{and_from, eq-eqb}
use Rattle.arr_num.specs.declared.elem.Elem.{Elem}
use Rattle.arr_num.specs.declared.elem.Elem.TheVariants.{U64}
use Rattle.arr_num.specs.declared.code.Code.TheVariants as code
use Rattle.arr_num.specs.Numbers.{in_type, wrap}
use Rattle.arr_num.proofs.Wrapping.{in_type_wrap}
use Rattle.arr_view.specs.Strided.{Strided}
use Rattle.arr_view.specs.Views.{same_lists}
use Rattle.arr_ops.specs.declared.op.Operand.{Operand}
use Rattle.arr_ops.specs.declared.op.Operand.TheVariants as operand
use Rattle.arr_ops.specs.Ops.{view_of}
use Rattle.arr_ops.specs.Formed.{same_shape, kind_kept, numbers_of, with_slot, dropped_axis}
use Rattle.arr_num.specs.Types.{same_elem, same_elem_refl}
use Rattle.arr_tree.specs.declared.tree.Code16.{Code16}
use Rattle.arr_tree.specs.declared.tree.Code16.TheVariants as sign
use Rattle.arr_shape.specs.Shapes.{dropped_axis as without_axis}
use Rattle.arr_elab.specs.Codes.{binary_code, unary_code, fold_code, result_type}
use Rattle.arr_elab.specs.Expressions.{operation, onto, taken, fold_shape}

pub lists_self : (xs : List ℕ) → same_lists xs xs ≡ true
lists_self [] = refl
lists_self (x ∷ xs) = and_from (x == x) (same_lists xs xs) (eq-eqb x x refl) (lists_self xs)

pub lists_test : (xs ys : List ℕ) → xs ≡ ys → same_lists xs ys ≡ true
lists_test xs ys e = ap (same_lists xs) (sym e) ∙ lists_self xs

-- ---- one view

pub copy_kept : (t e : Elem) (v out : Strided) (makes : Bool) → out.lengths ≡ v.lengths → kind_kept (with_slot (onto (operation code.Identity t e (taken v) None None) out makes)) ≡ true
copy_kept t e v out makes same =
    let shape : same_lists v.lengths out.lengths ≡ true = lists_test v.lengths out.lengths (sym same) in
    rw shape

pub unary_kept : (c : Code16) (t : Elem) (v out : Strided) (makes : Bool) → out.lengths ≡ v.lengths → kind_kept (with_slot (onto (operation (unary_code c) t t (taken v) None None) out makes)) ≡ true
unary_kept c t v out makes same = by c (lists_test v.lengths out.lengths (sym same)) (same_elem_refl t)
  where
    by : (c : Code16) → same_lists v.lengths out.lengths ≡ true → same_elem t t ≡ true → kind_kept (with_slot (onto (operation (unary_code c) t t (taken v) None None) out makes)) ≡ true
    by sign.Absolute shape self = rw (shape, self)
    by _ shape self = rw (shape, self)

pub power_kept : (t : Elem) (n : ℕ) (v out : Strided) (makes : Bool) → out.lengths ≡ v.lengths
    → kind_kept (with_slot (onto (operation code.Power t t (taken v) (Some (operand.Number (wrap U64 (pos n)))) None) out makes)) ≡ true
power_kept t n v out makes same =
    let shape : same_lists v.lengths out.lengths ≡ true = lists_test v.lengths out.lengths (sym same) in
    let self : same_elem t t ≡ true = same_elem_refl t in
    let inside : in_type U64 (wrap U64 (pos n)) ≡ true = in_type_wrap U64 (pos n) in
    rw (shape, self, inside)

-- ---- two operands

pub pair_kept : (c : Code16) (t : Elem) (x y : Operand) (out : Strided) (makes : Bool) → same_shape out.lengths (view_of (Some x) ++ view_of (Some y)) ≡ true
    → list_all (in_type t) (numbers_of (Some x)) ≡ true → list_all (in_type t) (numbers_of (Some y)) ≡ true
    → kind_kept (with_slot (onto (operation (binary_code c) (result_type (binary_code c) t) t (Some x) (Some y) None) out makes)) ≡ true
pair_kept c t x y out makes shape left right = by c (same_elem_refl t)
  where
    by : (c : Code16) → same_elem t t ≡ true → kind_kept (with_slot (onto (operation (binary_code c) (result_type (binary_code c) t) t (Some x) (Some y) None) out makes)) ≡ true
    by sign.Equal self = rw (shape, left, right)
    by sign.NotEqual self = rw (shape, left, right)
    by sign.Less self = rw (shape, left, right)
    by sign.LessEqual self = rw (shape, left, right)
    by sign.Greater self = rw (shape, left, right)
    by sign.GreaterEqual self = rw (shape, left, right)
    by _ self = rw (shape, left, right, self)

-- ---- along an axis

dropped_same : (axis : ℕ) (lengths : List ℕ) → dropped_axis axis lengths ≡ without_axis axis lengths
dropped_same axis [] = refl
dropped_same axis (n ∷ []) = refl
dropped_same axis (n ∷ (m ∷ ms)) = refl

pub fold_kept : (c : Code16) (t : Elem) (axis : ℕ) (v out : Strided) (makes : Bool) → nat_lt axis (length v.lengths) ≡ true → out.lengths ≡ fold_shape (fold_code c) v.lengths axis
    → kind_kept (with_slot (onto (operation (fold_code c) t t (taken v) None (Some axis)) out makes)) ≡ true
fold_kept c t axis v out makes low same = by c (same_elem_refl t) same
  where
    dropped : out.lengths ≡ without_axis axis v.lengths → same_lists out.lengths (dropped_axis axis v.lengths) ≡ true
    dropped e = lists_test out.lengths (dropped_axis axis v.lengths) (e ∙ sym (dropped_same axis v.lengths))

    by : (c : Code16) → same_elem t t ≡ true → out.lengths ≡ fold_shape (fold_code c) v.lengths axis → kind_kept (with_slot (onto (operation (fold_code c) t t (taken v) None (Some axis)) out makes)) ≡ true
    by sign.AddAccumulate self e = rw (self, low, lists_test out.lengths v.lengths e)
    by sign.MultiplyAccumulate self e = rw (self, low, lists_test out.lengths v.lengths e)
    by _ self e = rw (self, low, dropped e)

-- ---- from nothing

pub number_kept : (t : Elem) (z : ℤ) (out : Strided) (makes : Bool) → in_type t z ≡ true → kind_kept (with_slot (onto (operation code.Identity t t (Some (operand.Number z)) None None) out makes)) ≡ true
number_kept t z out makes inside =
    let self : same_elem t t ≡ true = same_elem_refl t in
    rw (self, inside)

pub range_kept : (t : Elem) (out : Strided) (makes : Bool) → kind_kept (with_slot (onto (operation code.Range t t None None None) out makes)) ≡ true
range_kept t out makes =
    let self : same_elem t t ≡ true = same_elem_refl t in
    rw self
