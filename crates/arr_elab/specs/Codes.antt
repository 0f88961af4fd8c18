-- Which opcode a sign or word of an expression stands for.
use Rattle.std.specs.Prelude.{Bool, true, false, if◌then◌else◌}
use Rattle.arr_num.specs.declared.elem.Elem.{Elem}
use Rattle.arr_num.specs.declared.elem.Elem.TheVariants as elem
use Rattle.arr_num.specs.declared.code.Code.{Code}
use Rattle.arr_num.specs.declared.code.Code.TheVariants as code
use Rattle.arr_tree.specs.declared.tree.Type4.{Type4}
use Rattle.arr_tree.specs.declared.tree.Type4.TheVariants.{U8, I32, I64, U64}
use Rattle.arr_tree.specs.declared.tree.Code16.{Code16}
use Rattle.arr_tree.specs.declared.tree.Code16.TheVariants as sign

abbrev pub elem_of : Type4 → Elem
elem_of U8 = elem.U8
elem_of I32 = elem.I32
elem_of I64 = elem.I64
elem_of U64 = elem.U64

-- A binary sign or `minimum` or `maximum`. No other code stands there, and so none has a line of its own.
abbrev pub binary_code : Code16 → Code
binary_code sign.Subtract = code.Subtract
binary_code sign.Multiply = code.Multiply
binary_code sign.Divide = code.Divide
binary_code sign.Mod = code.Mod
binary_code sign.Maximum = code.Maximum
binary_code sign.Minimum = code.Minimum
binary_code sign.BitwiseAnd = code.BitwiseAnd
binary_code sign.BitwiseOr = code.BitwiseOr
binary_code sign.BitwiseXor = code.BitwiseXor
binary_code sign.LeftShift = code.LeftShift
binary_code sign.RightShift = code.RightShift
binary_code sign.Equal = code.Equal
binary_code sign.NotEqual = code.NotEqual
binary_code sign.Less = code.Less
binary_code sign.LessEqual = code.LessEqual
binary_code sign.Greater = code.Greater
binary_code sign.GreaterEqual = code.GreaterEqual
binary_code _ = code.Add

-- `abs` or `~`
abbrev pub unary_code : Code16 → Code
unary_code sign.Absolute = code.Absolute
unary_code _ = code.Invert

-- a sum, product, least, greatest, or running sum or product
abbrev pub fold_code : Code16 → Code
fold_code sign.MultiplyReduce = code.MultiplyReduce
fold_code sign.MinimumReduce = code.MinimumReduce
fold_code sign.MaximumReduce = code.MaximumReduce
fold_code sign.AddAccumulate = code.AddAccumulate
fold_code sign.MultiplyAccumulate = code.MultiplyAccumulate
fold_code _ = code.AddReduce

abbrev pub compares : Code → Bool
compares code.Equal = true
compares code.NotEqual = true
compares code.Less = true
compares code.LessEqual = true
compares code.Greater = true
compares code.GreaterEqual = true
compares _ = false

-- the type of the result: a comparison gives u8
abbrev pub result_type : Code → Elem → Elem
result_type code t = if compares code then elem.U8 else t
