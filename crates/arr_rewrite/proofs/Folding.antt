-- The constants of a well-formed operation: of which types they are, and that a value is the same in both of its types.
use Rattle.std.proofs.Common.{◌≡◌, ℤ, Bool, true, false, ◌||◌, ◌&&◌, refl, ap, sym, subst, ◌∙◌, Option, Some, None}
use Rattle.std.proofs.lemmas.Bool.{false≢true}
use Rattle.std.specs.Prelude.{is_some, is_none, int_lt, not}
use Rattle.std.specs.List.{list_all}
use Rattle.arr_num.specs.Kinds.{Kind, Binary, Unary, Counting, Reduction, Scan, Ending, Printing, kind, binds_one, binds_two, is_unary, is_binary}
use Rattle.arr_num.specs.Numbers.{in_type, may_stand_right, may_stand_alone, value, wrap, flag, same}
use Rattle.arr_num.specs.declared.elem.Elem.{Elem}
use Rattle.arr_num.specs.declared.elem.Elem.TheVariants.{U8, I32, I64, U64}
use Rattle.arr_num.specs.declared.code.Code.{Code}
use Rattle.arr_num.specs.declared.code.Code.TheVariants.{Power, Equal, NotEqual, Less, LessEqual, Greater, GreaterEqual, Absolute, Invert, Identity}
use Rattle.arr_num.proofs.Wrapping.{wrap_same}
use Rattle.arr_ops.specs.Formed.{well_formed, operands_kept, types_kept, numbers_kept, numbers_of, elementwise, is_array}
use Rattle.arr_ops.specs.declared.op.Op.{Op}
use Rattle.arr_ops.specs.declared.op.Operand.{Operand}
use Rattle.arr_ops.specs.declared.op.Operand.TheVariants.{Number}
use Rattle.arr_ops.proofs.Tests.{both_left, both_right}
use Rattle.arr_ops.proofs.Spots.{operands_of, types_of, same_elem_is}
use Rattle.arr_rewrite.specs.Rules.{is_identity}

-- ---- the types of constants

pub numbers_of_op : (op : Op) → well_formed op ≡ true → numbers_kept op.code op ≡ true
numbers_of_op op h = both_right (types_kept op.code op) _ (both_right (operands_kept (kind op.code) op) _ (both_left (operands_kept (kind op.code) op && (types_kept op.code op && numbers_kept op.code op)) _ h))

one_number : (t : Elem) (o : Option Operand) (z : ℤ) → list_all (in_type t) (numbers_of o) ≡ true → o ≡ Some (Number z) → in_type t z ≡ true
one_number t o z h e = both_left (in_type t z) true (ap (λ f. list_all (in_type t) (numbers_of f)) (sym e) ∙ h)

first_in : (code : Code) (op : Op) (z : ℤ) → numbers_kept code op ≡ true → op.first ≡ Some (Number z) → in_type op.from z ≡ true
first_in Power op z h e = one_number op.from op.first z (both_left (list_all (in_type op.from) (numbers_of op.first)) _ h) e
first_in _ op z h e = one_number op.from op.first z (both_left (list_all (in_type op.from) (numbers_of op.first)) _ h) e

second_in : (code : Code) (op : Op) (z : ℤ) → numbers_kept code op ≡ true → op.second ≡ Some (Number z) → may_stand_right code op.from z ≡ true
second_in Power op z h e = one_number U64 op.second z (both_right (not (is_array op.second)) _ (both_right (list_all (in_type op.from) (numbers_of op.first)) _ h)) e
second_in _ op z h e = one_number op.from op.second z (both_right (list_all (in_type op.from) (numbers_of op.first)) _ h) e

pub first_number_in : (op : Op) (z : ℤ) → well_formed op ≡ true → op.first ≡ Some (Number z) → in_type op.from z ≡ true
first_number_in op z h e = first_in op.code op z (numbers_of_op op h) e

pub second_number_in : (op : Op) (z : ℤ) → well_formed op ≡ true → op.second ≡ Some (Number z) → may_stand_right op.code op.from z ≡ true
second_number_in op z h e = second_in op.code op z (numbers_of_op op h) e

-- ---- a code of one constant

unary_kind : (k : Kind) (op : Op) → operands_kept k op ≡ true → op.second ≡ None → (binds_two k || binds_one k) ≡ true → binds_one k ≡ true
unary_kind Binary op h e s = absurd (false≢true (ap is_some (sym e) ∙ both_right (is_some op.first) _ (both_right (elementwise op) _ h)))
unary_kind Unary op h e s = refl
unary_kind Counting op h e s = s
unary_kind Reduction op h e s = s
unary_kind Scan op h e s = s
unary_kind Ending op h e s = s
unary_kind Printing op h e s = s

pub unary_code : (op : Op) → well_formed op ≡ true → op.second ≡ None → (is_binary op.code || is_unary op.code) ≡ true → is_unary op.code ≡ true
unary_code op h e s = unary_kind (kind op.code) op (operands_of op h) e s

stands_alone : (code : Code) (op : Op) (z : ℤ) → is_unary code ≡ true → is_identity code ≡ false → types_kept code op ≡ true → in_type op.from z ≡ true → may_stand_alone code op.to z ≡ true
stands_alone Identity op z u i t h = absurd (false≢true (sym i))
stands_alone Absolute op z u i t h = subst (λ e. in_type e z ≡ true) (sym (same_elem_is op.to op.from t)) h
stands_alone Invert op z u i t h = subst (λ e. in_type e z ≡ true) (sym (same_elem_is op.to op.from t)) h
stands_alone _ op z u i t h = absurd (false≢true u)

pub alone : (op : Op) (z : ℤ) → well_formed op ≡ true → is_unary op.code ≡ true → is_identity op.code ≡ false → op.first ≡ Some (Number z) → may_stand_alone op.code op.to z ≡ true
alone op z h u i e = stands_alone op.code op z u i (types_of op h) (first_number_in op z h e)

binary_kind : (k : Kind) (op : Op) (y : Operand) → operands_kept k op ≡ true → op.second ≡ Some y → (binds_two k || binds_one k) ≡ true → binds_two k ≡ true
binary_kind Binary op y h e s = refl
binary_kind Unary op y h e s = absurd (false≢true (ap is_none (sym e) ∙ both_right (is_some op.first) _ (both_right (elementwise op) _ h)))
binary_kind Counting op y h e s = s
binary_kind Reduction op y h e s = s
binary_kind Scan op y h e s = s
binary_kind Ending op y h e s = s
binary_kind Printing op y h e s = s

pub binary_code : (op : Op) (y : Operand) → well_formed op ≡ true → op.second ≡ Some y → (is_binary op.code || is_unary op.code) ≡ true → is_binary op.code ≡ true
binary_code op y h e s = binary_kind (kind op.code) op y (operands_of op h) e s

-- ---- a value in both types

flag_in : (t : Elem) (b : Bool) → in_type t (flag b) ≡ true
flag_in U8 true = refl
flag_in U8 false = refl
flag_in I32 true = refl
flag_in I32 false = refl
flag_in I64 true = refl
flag_in I64 false = refl
flag_in U64 true = refl
flag_in U64 false = refl

flag_same : (s t : Elem) (b : Bool) → wrap s (flag b) ≡ wrap t (flag b)
flag_same s t b = wrap_same s (flag b) (flag_in s b) ∙ sym (wrap_same t (flag b) (flag_in t b))

value_same : (code : Code) (op : Op) (x y : ℤ) → is_binary code ≡ true → types_kept code op ≡ true → value code op.from x y ≡ value code op.to x y
unfolding value
value_same Equal op x y b t = flag_same op.from op.to (same x y)
value_same NotEqual op x y b t = flag_same op.from op.to (not (same x y))
value_same Less op x y b t = flag_same op.from op.to (int_lt x y)
value_same LessEqual op x y b t = flag_same op.from op.to (not (int_lt y x))
value_same Greater op x y b t = flag_same op.from op.to (int_lt y x)
value_same GreaterEqual op x y b t = flag_same op.from op.to (not (int_lt x y))
value_same Identity op x y b t = absurd (false≢true b)
value_same code op x y b t = ap (λ e. value code e x y) (sym (same_elem_is op.to op.from t))

pub one_value : (op : Op) (x y : ℤ) → well_formed op ≡ true → is_binary op.code ≡ true → value op.code op.from x y ≡ value op.code op.to x y
one_value op x y h b = value_same op.code op x y b (types_of op h)
