-- Sorts of element-wise codes.
use Rattle.std.specs.Prelude.{ℤ, Bool, true, false, not, ◌&&◌}
use Rattle.arr_num.specs.declared.code.Code.{Code}
use Rattle.arr_num.specs.declared.elem.Elem.{Elem}
use Rattle.arr_num.specs.declared.code.Code.TheVariants.{Add, Equal, NotEqual, Less, LessEqual, Greater, GreaterEqual}
use Rattle.arr_num.specs.Numbers.{value}
use Rattle.arr_kernel.specs.Inputs.{in_table}

-- its values are 0 and 1, of type u8, whatever the type of its inputs
abbrev pub is_comparison : Code → Bool
is_comparison Equal = true
is_comparison NotEqual = true
is_comparison Less = true
is_comparison LessEqual = true
is_comparison Greater = true
is_comparison GreaterEqual = true
is_comparison _ = false

-- its result has the type of its inputs: all but the comparisons, POWER, IDENTITY and RANGE
abbrev pub is_arithmetic : Code → Bool
is_arithmetic code = in_table code && not (is_comparison code)

-- a sum, wrapped where it doesn't fit the type
abbrev pub plus : Elem → ℤ → ℤ → ℤ
plus t x y = value Add t x y
