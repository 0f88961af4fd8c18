-- How types, operations and arrays are written.
use Rattle.std.specs.Prelude.{ℕ, zero, suc, ℤ, ◌-◌, List, [], ◌∷◌, ◌++◌, Bool, cond, Option, None, Some, length, take, drop, get_or, codes, decimal}
use Rattle.std.specs.Fmt.{signed_decimal}
use Rattle.std.specs.List.{flat_map}
use Rattle.arr_num.specs.declared.code.Code.{Code}
use Rattle.arr_num.specs.declared.code.Code.TheVariants.{Add, Subtract, Multiply, Divide, Mod, Power, Maximum, Minimum, BitwiseAnd, BitwiseOr, BitwiseXor, LeftShift, RightShift, Equal, NotEqual, Less, LessEqual, Greater, GreaterEqual, Absolute, Invert, Identity, Range, AddReduce, MultiplyReduce, MinimumReduce, MaximumReduce, AddAccumulate, MultiplyAccumulate, Free, Sync}
use Rattle.arr_num.specs.declared.elem.Elem.{Elem}
use Rattle.arr_num.specs.declared.elem.Elem.TheVariants.{U8, I32, I64, U64}
use Rattle.arr_view.specs.Strided.{Strided}
use Rattle.arr_view.specs.Views.{positions}
use Rattle.arr_ops.specs.Memory.{Slot}
use Rattle.arr_ops.specs.declared.op.Op.{Op}
use Rattle.arr_ops.specs.declared.op.Operand.{Operand}
use Rattle.arr_ops.specs.declared.op.Operand.TheVariants.{Array, Number}

abbrev pub type_name : Elem → List ℕ
type_name U8 = codes "u8"
type_name I32 = codes "i32"
type_name I64 = codes "i64"
type_name U64 = codes "u64"

abbrev pub code_name : Code → List ℕ
code_name Add = codes "ADD"
code_name Subtract = codes "SUBTRACT"
code_name Multiply = codes "MULTIPLY"
code_name Divide = codes "DIVIDE"
code_name Mod = codes "MOD"
code_name Power = codes "POWER"
code_name Maximum = codes "MAXIMUM"
code_name Minimum = codes "MINIMUM"
code_name BitwiseAnd = codes "BITWISE_AND"
code_name BitwiseOr = codes "BITWISE_OR"
code_name BitwiseXor = codes "BITWISE_XOR"
code_name LeftShift = codes "LEFT_SHIFT"
code_name RightShift = codes "RIGHT_SHIFT"
code_name Equal = codes "EQUAL"
code_name NotEqual = codes "NOT_EQUAL"
code_name Less = codes "LESS"
code_name LessEqual = codes "LESS_EQUAL"
code_name Greater = codes "GREATER"
code_name GreaterEqual = codes "GREATER_EQUAL"
code_name Absolute = codes "ABSOLUTE"
code_name Invert = codes "INVERT"
code_name Identity = codes "IDENTITY"
code_name Range = codes "RANGE"
code_name AddReduce = codes "ADD_REDUCE"
code_name MultiplyReduce = codes "MULTIPLY_REDUCE"
code_name MinimumReduce = codes "MINIMUM_REDUCE"
code_name MaximumReduce = codes "MAXIMUM_REDUCE"
code_name AddAccumulate = codes "ADD_ACCUMULATE"
code_name MultiplyAccumulate = codes "MULTIPLY_ACCUMULATE"
code_name Free = codes "FREE"
code_name Sync = codes "SYNC"

-- numbers, each behind a blank
abbrev pub numbers_text : List ℕ → List ℕ
numbers_text numbers = flat_map (λ n. 32 ∷ decimal n) numbers

-- ---- operations

abbrev pub dimension_text : ℕ → ℤ → List ℕ
dimension_text n stride = decimal n ++ codes ":" ++ signed_decimal stride

-- the dimensions behind the first, each behind a comma
abbrev pub more_dimensions_text : List ℕ → List ℤ → List ℕ
more_dimensions_text (n ∷ ns) (s ∷ ss) = codes "," ++ dimension_text n s ++ more_dimensions_text ns ss
more_dimensions_text _ _ = []

-- the length and the stride of each dimension, a comma between two
abbrev pub dimensions_text : List ℕ → List ℤ → List ℕ
dimensions_text (n ∷ ns) (s ∷ ss) = dimension_text n s ++ more_dimensions_text ns ss
dimensions_text _ _ = []

-- the base, the type, the start, and the length and the stride of each dimension
abbrev pub view_text : Elem → Strided → List ℕ
view_text t v = codes "b" ++ decimal v.base ++ codes ":" ++ type_name t ++ codes "@" ++ decimal v.start ++ codes "[" ++ dimensions_text v.lengths v.strides ++ codes "]"

-- a creator's output has a plus in front
abbrev pub output_text : Bool → Elem → Option Strided → List ℕ
output_text makes t None = []
output_text makes t (Some v) = cond makes (codes " +") (codes " ") ++ view_text t v

abbrev pub input_text : Elem → Operand → List ℕ
input_text t (Array v) = view_text t v
input_text t (Number z) = signed_decimal z

abbrev pub operand_text : Elem → Option Operand → List ℕ
operand_text t None = []
operand_text t (Some o) = codes " " ++ input_text t o

-- a number behind a label, if it is there
abbrev pub labelled_text : {A : Type 0} → (A → List ℕ) → List ℕ → Option A → List ℕ
labelled_text digits label None = []
labelled_text digits label (Some n) = label ++ digits n

-- the line of an operation: its number, its code, and its parts as far as it has them
unfoldable pub op_text : ℕ → Op → List ℕ
op_text number op =
    codes "# op " ++ decimal number ++ codes " " ++ code_name op.code ++ output_text op.makes op.to op.out ++ operand_text op.from op.first ++ operand_text op.from op.second
    ++ labelled_text decimal (codes " axis=") op.axis ++ labelled_text decimal (codes " slot=") op.slot ++ labelled_text decimal (codes " b") op.frees ++ codes "\n"

-- ---- arrays

-- the numbers in decimal, one blank between two
abbrev pub spaced : List ℤ → List ℕ
spaced [] = []
spaced (n ∷ ns) = signed_decimal n ++ flat_map (λ m. 32 ∷ signed_decimal m) ns

-- so many of the numbers, from a place on
abbrev pub row_text : ℕ → ℕ → List ℤ → List ℕ
row_text start width numbers = spaced (take width (drop start numbers))

-- so many lines, of so many numbers each
abbrev pub rows : ℕ → ℕ → List ℤ → List ℕ
rows zero width numbers = []
rows (suc count) width numbers = spaced (take width numbers) ++ codes "\n" ++ rows count width (drop width numbers)

-- the length of the last dimension, and how many rows of it there are
abbrev pub row_width : List ℕ → ℕ
row_width lengths = get_or lengths (length lengths - 1) 1

abbrev pub row_count : List ℕ → ℕ
row_count lengths = positions (take (length lengths - 1) lengths)

-- an array: its type and its lengths, then a line for each row of its last dimension
unfoldable pub array_text : Slot → List ℕ
array_text slot = type_name slot.elem ++ flat_map (λ n. 32 ∷ decimal n) slot.lengths ++ codes "\n" ++ rows (row_count slot.lengths) (row_width slot.lengths) slot.numbers
