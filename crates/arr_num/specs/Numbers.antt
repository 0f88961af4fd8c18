-- The numbers of a type, and the value of a code.
use Rattle.std.specs.Prelude.{ℕ, suc, ℤ, pos, negsuc, ◌+ℤ◌, ◌-ℤ◌, ◌*ℤ◌, ◌*◌, ◌-◌, ◌^◌, ◌==◌, nat_lt, Bool, false, cond, not, ◌||◌, unsigned_abs, int_lt, bit_and, bit_or, bit_xor}
use Rattle.std.specs.Int.{int_rem_euclid, int_pow, int_max, int_min, int_shr, from_bool}
use Rattle.std.specs.Int.RustNames.{int_div, int_rem}
use Rattle.arr_num.specs.declared.elem.Elem.{Elem}
use Rattle.arr_num.specs.declared.elem.Elem.TheVariants.{U8, I32, I64, U64}
use Rattle.arr_num.specs.declared.code.Code.{Code}
use Rattle.arr_num.specs.declared.code.Code.TheVariants.{Add, Subtract, Multiply, Divide, Mod, Power, Maximum, Minimum, BitwiseAnd, BitwiseOr, BitwiseXor, LeftShift, RightShift, Equal, NotEqual, Less, LessEqual, Greater, GreaterEqual, Absolute, Invert, Identity, AddReduce, MultiplyReduce, MinimumReduce, MaximumReduce, AddAccumulate, MultiplyAccumulate}

-- how many bytes a number takes
abbrev pub width : Elem → ℕ
width U8 = 1
width I32 = 4
width I64 = 8
width U64 = 8

abbrev pub bits : Elem → ℕ
bits t = 8 * width t

-- how many numbers a type has
abbrev pub size : Elem → ℕ
size t = 2 ^ bits t

-- how many of them from 0 up
abbrev pub upper : Elem → ℕ
upper U8 = 2 ^ 8
upper I32 = 2 ^ 31
upper I64 = 2 ^ 63
upper U64 = 2 ^ 64

abbrev pub in_type : Elem → ℤ → Bool
in_type t (pos n) = nat_lt n (upper t)
in_type t (negsuc n) = nat_lt n (size t - upper t)

abbrev pub least : Elem → ℤ
least U8 = pos 0
least I32 = negsuc (2 ^ 31 - 1)
least I64 = negsuc (2 ^ 63 - 1)
least U64 = pos 0

abbrev pub greatest : Elem → ℤ
greatest t = pos (upper t - 1)

-- the number whose two's complement digits are all ones
abbrev pub ones : Elem → ℤ
ones U8 = pos (2 ^ 8 - 1)
ones I32 = negsuc 0
ones I64 = negsuc 0
ones U64 = pos (2 ^ 64 - 1)

-- the two's complement digits, as a natural number below the size, and back
abbrev pub digits : Elem → ℤ → ℕ
digits t z = unsigned_abs (int_rem_euclid z (pos (size t)))

abbrev pub from_digits : Elem → ℕ → ℤ
from_digits t n = cond (nat_lt n (upper t)) (pos n) (negsuc (size t - suc n))

unfoldable pub wrap : Elem → ℤ → ℤ
wrap t z = from_digits t (digits t z)

abbrev pub same : ℤ → ℤ → Bool
same (pos m) (pos n) = m == n
same (negsuc m) (negsuc n) = m == n
same _ _ = false

abbrev pub shift : Elem → ℤ → ℕ
shift t y = unsigned_abs (int_rem_euclid y (pos (bits t)))

abbrev pub flag : Bool → ℤ
flag b = pos (from_bool b)

-- truncated toward zero; 0 for the divisor 0
abbrev pub quotient : ℤ → ℤ → ℤ
quotient x y = cond (same y (pos 0)) (pos 0) (int_div x y)

-- what truncated division leaves; 0 for the divisor 0
abbrev pub remainder : ℤ → ℤ → ℤ
remainder x y = cond (same y (pos 0)) (pos 0) (int_rem x y)

-- The table of values on whole numbers, before they are wrapped. The type t is the inputs', except for
-- IDENTITY and the comparisons, which take no notice of it. Left out here are the codes whose answer
-- is their first input: IDENTITY, RANGE (its input is the position), FREE and SYNC.
abbrev pub whole : Code → Elem → ℤ → ℤ → ℤ
whole Add t x y = x +ℤ y
whole Subtract t x y = x -ℤ y
whole Multiply t x y = x *ℤ y
whole Divide t x y = quotient x y
whole Mod t x y = remainder x y
whole Power t x y = int_pow x (unsigned_abs y)
whole Maximum t x y = int_max x y
whole Minimum t x y = int_min x y
whole BitwiseAnd t x y = pos (bit_and (digits t x) (digits t y))
whole BitwiseOr t x y = pos (bit_or (digits t x) (digits t y))
whole BitwiseXor t x y = pos (bit_xor (digits t x) (digits t y))
whole LeftShift t x y = x *ℤ pos (2 ^ shift t y)
whole RightShift t x y = int_shr x (shift t y)
whole Equal t x y = flag (same x y)
whole NotEqual t x y = flag (not (same x y))
whole Less t x y = flag (int_lt x y)
whole LessEqual t x y = flag (not (int_lt y x))
whole Greater t x y = flag (int_lt y x)
whole GreaterEqual t x y = flag (not (int_lt x y))
whole Absolute t x y = pos (unsigned_abs x)
whole Invert t x y = pos (size t - 1 - digits t x)
whole AddReduce t x y = x +ℤ y
whole MultiplyReduce t x y = x *ℤ y
whole MinimumReduce t x y = int_min x y
whole MaximumReduce t x y = int_max x y
whole AddAccumulate t x y = x +ℤ y
whole MultiplyAccumulate t x y = x *ℤ y
whole _ t x y = x

-- The value of a code in the type t of its result, which is the type of its inputs too, except for
-- IDENTITY and the comparisons. A comparison gives 0 or 1, which wrapping leaves alone in each type, so t
-- may as well be the type of its inputs. A code of one input takes no notice of y.
unfoldable pub value : Code → Elem → ℤ → ℤ → ℤ
value code t x y = wrap t (whole code t x y)

-- The right numbers of a binary code: those of the type, but every exponent from 0 to 2 ^ 64 - 1.
abbrev pub may_stand_right : Code → Elem → ℤ → Bool
may_stand_right Power t y = in_type U64 y
may_stand_right _ t y = in_type t y

abbrev pub in_some_type : ℤ → Bool
in_some_type z = in_type U8 z || (in_type I32 z || (in_type I64 z || in_type U64 z))

-- The numbers of a unary code with results in t: those of t, but IDENTITY takes a number of any type.
abbrev pub may_stand_alone : Code → Elem → ℤ → Bool
may_stand_alone Identity t x = in_some_type x
may_stand_alone _ t x = in_type t x

-- what a fold along an axis begins with
abbrev pub fold_start : Code → Elem → ℤ
fold_start MultiplyReduce t = pos 1
fold_start MultiplyAccumulate t = pos 1
fold_start MinimumReduce t = greatest t
fold_start MaximumReduce t = least t
fold_start _ t = pos 0
