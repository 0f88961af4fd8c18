-- What an operation becomes, and the rules that look at one operation.
use Rattle.std.specs.Prelude.{ℤ, pos, negsuc, ◌-ℤ◌, ◌==◌, Bool, true, false, cond, not, ◌&&◌, ◌||◌, Option, Some, None}
use Rattle.std.specs.Bool.{then_some}
use Rattle.arr_num.specs.Kinds.{is_binary, is_unary}
use Rattle.arr_num.specs.Numbers.{wrap, value, same, ones, least, greatest, shift}
use Rattle.arr_num.specs.declared.elem.Elem.{Elem}
use Rattle.arr_num.specs.declared.code.Code.{Code}
use Rattle.arr_num.specs.declared.code.Code.TheVariants.{Add, Subtract, Multiply, Divide, Mod, Power, Maximum, Minimum, BitwiseAnd, BitwiseOr, BitwiseXor, LeftShift, RightShift, Identity}
use Rattle.arr_view.specs.Strided.{Strided}
use Rattle.arr_ops.specs.Ops.{outputs, inputs, some_pair}
use Rattle.arr_view.specs.Views.{identical}
use Rattle.arr_ops.specs.declared.op.Op.{Op}
use Rattle.arr_ops.specs.declared.op.Operand.{Operand}
use Rattle.arr_ops.specs.declared.op.Operand.TheVariants.{Array, Number}

-- ---- what an operation becomes: its output, `to`, `makes` and all that isn't named here stay

abbrev pub changed_op : Op → Code → Elem → Option Operand → Option Operand → Op
changed_op op code from first second =
    record { code = code; to = op.to; from = from; out = op.out; first = first; second = second; axis = op.axis; slot = op.slot; frees = op.frees; makes = op.makes }

-- IDENTITY of a constant: both types are that of the output
abbrev pub constant_op : Op → ℤ → Op
constant_op op z = changed_op op Identity op.to (Some (Number z)) None

-- IDENTITY of a view
abbrev pub copy_op : Op → Strided → Op
copy_op op x = changed_op op Identity op.from (Some (Array x)) None

-- a binary code of a view and an operand
abbrev pub code_op : Op → Code → Strided → Operand → Op
code_op op code x y = changed_op op code op.from (Some (Array x)) (Some y)

-- another first operand
abbrev pub with_first : Op → Operand → Op
with_first op x = changed_op op op.code op.from (Some x) op.second

-- another second operand
abbrev pub with_second : Op → Operand → Op
with_second op y = changed_op op op.code op.from op.first (Some y)

-- ---- codes

abbrev pub is_identity : Code → Bool
is_identity Identity = true
is_identity _ = false

-- a binary or a unary code
abbrev pub is_scalar : Code → Bool
is_scalar code = is_binary code || is_unary code

-- x beside the constant c gives x, with c on the right
abbrev pub neutral_right : Code → Elem → ℤ → Bool
neutral_right Add t c = same c (pos 0)
neutral_right Subtract t c = same c (pos 0)
neutral_right Multiply t c = same c (pos 1)
neutral_right Divide t c = same c (pos 1)
neutral_right BitwiseOr t c = same c (pos 0)
neutral_right BitwiseXor t c = same c (pos 0)
neutral_right BitwiseAnd t c = same c (ones t)
neutral_right LeftShift t c = shift t c == 0
neutral_right RightShift t c = shift t c == 0
neutral_right Maximum t c = same c (least t)
neutral_right Minimum t c = same c (greatest t)
neutral_right _ t c = false

-- the same with c on the left
abbrev pub neutral_left : Code → Elem → ℤ → Bool
neutral_left Add t c = same c (pos 0)
neutral_left Multiply t c = same c (pos 1)
neutral_left BitwiseOr t c = same c (pos 0)
neutral_left BitwiseXor t c = same c (pos 0)
neutral_left BitwiseAnd t c = same c (ones t)
neutral_left Maximum t c = same c (least t)
neutral_left Minimum t c = same c (greatest t)
neutral_left _ t c = false

-- the value that every x beside the constant c gives, with c on the right
abbrev pub fixed_right : Code → Elem → ℤ → Option ℤ
fixed_right Multiply t c = then_some (same c (pos 0)) (pos 0)
fixed_right BitwiseAnd t c = then_some (same c (pos 0)) (pos 0)
fixed_right Divide t c = then_some (same c (pos 0)) (pos 0)
fixed_right Mod t c = then_some (same c (pos 0) || (same c (pos 1) || same c (negsuc 0))) (pos 0)
fixed_right BitwiseOr t c = then_some (same c (ones t)) c
fixed_right Maximum t c = then_some (same c (greatest t)) c
fixed_right Minimum t c = then_some (same c (least t)) c
fixed_right _ t c = None

-- the same with c on the left
abbrev pub fixed_left : Code → Elem → ℤ → Option ℤ
fixed_left Multiply t c = then_some (same c (pos 0)) (pos 0)
fixed_left BitwiseAnd t c = then_some (same c (pos 0)) (pos 0)
fixed_left Divide t c = then_some (same c (pos 0)) (pos 0)
fixed_left Mod t c = then_some (same c (pos 0)) (pos 0)
fixed_left LeftShift t c = then_some (same c (pos 0)) (pos 0)
fixed_left RightShift t c = then_some (same c (pos 0)) (pos 0)
fixed_left BitwiseOr t c = then_some (same c (ones t)) c
fixed_left Maximum t c = then_some (same c (greatest t)) c
fixed_left Minimum t c = then_some (same c (least t)) c
fixed_left _ t c = None

-- ---- rules on one operation. Each takes its two operands apart, and gives what the operation becomes

-- a binary or unary code, other than IDENTITY, of constants alone: IDENTITY of its value
abbrev pub known_value : Op → Option Operand → Option Operand → Option Op
known_value op (Some (Number x)) (Some (Number y)) = Some (constant_op op (value op.code op.to x y))
known_value op (Some (Number x)) None = Some (constant_op op (value op.code op.to x (pos 0)))
known_value op _ _ = None

abbrev pub constant_folded : Op → Option Op
constant_folded op = cond (is_scalar op.code && not (is_identity op.code)) (known_value op op.first op.second) None

-- a constant that changes nothing: IDENTITY of the view
abbrev pub neutral_beside : Op → Option Operand → Option Operand → Option Op
neutral_beside op (Some (Array x)) (Some (Number c)) = then_some (neutral_right op.code op.to c) (copy_op op x)
neutral_beside op (Some (Number c)) (Some (Array x)) = then_some (neutral_left op.code op.to c) (copy_op op x)
neutral_beside op _ _ = None

abbrev pub neutral_dropped : Op → Option Op
neutral_dropped op = neutral_beside op op.first op.second

-- a constant that alone decides: IDENTITY of the value
abbrev pub fixed_to : Op → Option ℤ → Option Op
fixed_to op None = None
fixed_to op (Some z) = Some (constant_op op z)

abbrev pub fixed_beside : Op → Option Operand → Option Operand → Option Op
fixed_beside op (Some (Array x)) (Some (Number c)) = fixed_to op (fixed_right op.code op.to c)
fixed_beside op (Some (Number c)) (Some (Array x)) = fixed_to op (fixed_left op.code op.to c)
fixed_beside op _ _ = None

abbrev pub fixed_known : Op → Option Op
fixed_known op = fixed_beside op op.first op.second

-- POWER by 0, by 1 and by 2: IDENTITY of 1, IDENTITY of the view, and its MULTIPLY by itself
abbrev pub power_to : Op → Strided → ℤ → Option Op
power_to op x c = cond (same c (pos 0)) (Some (constant_op op (pos 1))) (cond (same c (pos 1)) (Some (copy_op op x)) (then_some (same c (pos 2)) (code_op op Multiply x (Array x))))

abbrev pub small_power : Code → Op → Option Operand → Option Operand → Option Op
small_power Power op (Some (Array x)) (Some (Number c)) = power_to op x c
small_power _ op _ _ = None

abbrev pub power_unrolled : Op → Option Op
power_unrolled op = small_power op.code op op.first op.second

-- SUBTRACT of a constant: ADD of its negative, wrapped
abbrev pub less_constant : Code → Op → Option Operand → Option Operand → Option Op
less_constant Subtract op (Some (Array x)) (Some (Number c)) = Some (code_op op Add x (Number (wrap op.to (pos 0 -ℤ c))))
less_constant _ op _ _ = None

abbrev pub subtraction_turned : Op → Option Op
subtraction_turned op = less_constant op.code op op.first op.second

-- IDENTITY of a view into that view: it is removed
abbrev pub copies_itself : Op → Bool
copies_itself op = is_identity op.code && some_pair identical (outputs op) (inputs op)
