use Rattle.std.proofs.Common.{◌≡◌, ◌∙◌, pos, arith, ap, ap₂, ◌*ℤ◌, ◌^◌, ◌%◌, ◌*◌, ◌<◌, subst, FitsSigned, to_z, of_z, bit_and, bit_or, not}
use Rattle.std.specs.Prelude.{bit_xor, IsTrue, unsigned_abs}
use Rattle.std.specs.Int.{w128, int_max, int_min, int_pow, int_shr, from_bool}
use Rattle.std.specs.Int.Signed.{lt_z, le_z, mag_shr}
use Rattle.std.proofs.lemmas.Int.{ints}
use Rattle.std.proofs.lemmas.Nat.{or_lt, xor_lt}
use Rattle.std.specs.Int.Bits.{and_lt}
use Rattle.arr_num.specs.Numbers.{wrap, digits, quotient, remainder, shift, same, may_stand_right}
use Rattle.arr_num.specs.declared.code.Code.TheVariants.{Add, Subtract, Multiply, Divide, Mod, Power, Maximum, Minimum, BitwiseAnd, BitwiseOr, BitwiseXor, LeftShift, RightShift, Equal, NotEqual, Less, LessEqual, Greater, GreaterEqual}
use Rattle.arr_num.proofs.Wrapping.{low_of_type, high_of_type, shift_below}
use Rattle.arr_num.proofs.Reading.{read, answer, same_bits, most, flagged, one_shifted}
use Rattle.arr_num.proofs.value.binary.Goals as goal

pub overflow_cast-digits-in-BitwiseOr : goal.overflow_cast-digits-in-BitwiseOr
overflow_cast-digits-in-BitwiseOr c =
    let below : bit_or c.digits-in-BitwiseOr.result c.digits-in-BitwiseOr-2.result < 2 ^ 64 = or_lt 64 c.digits-in-BitwiseOr.result c.digits-in-BitwiseOr-2.result (omega arith) (omega arith) in
    omega arith

pub returns-in-Add : goal.returns-in-Add
returns-in-Add c =
    let fits : FitsSigned w128 c.wrap.result = omega arith in
    let right = subst (λ k. IsTrue (may_stand_right k c.args.ty c.args.right)) c.in-Add.is c.requires.right in
    answer c.args.code Add c.args.ty c.args.left c.args.right c.wrap.result _ c.in-Add.is fits c.wrap.ensures (ap (wrap c.args.ty) (omega (arith, ints, low_of_type c.args.ty c.args.left c.requires.left, high_of_type c.args.ty c.args.left c.requires.left, low_of_type c.args.ty c.args.right right, high_of_type c.args.ty c.args.right right)))

pub returns-in-Subtract : goal.returns-in-Subtract
returns-in-Subtract c =
    let fits : FitsSigned w128 c.wrap-in-Subtract.result = omega arith in
    let right = subst (λ k. IsTrue (may_stand_right k c.args.ty c.args.right)) c.in-Subtract.is c.requires.right in
    answer c.args.code Subtract c.args.ty c.args.left c.args.right c.wrap-in-Subtract.result _ c.in-Subtract.is fits c.wrap-in-Subtract.ensures (ap (wrap c.args.ty) (omega (arith, ints, low_of_type c.args.ty c.args.left c.requires.left, high_of_type c.args.ty c.args.left c.requires.left, low_of_type c.args.ty c.args.right right, high_of_type c.args.ty c.args.right right)))

pub returns-in-Multiply : goal.returns-in-Multiply
returns-in-Multiply c =
    let fits : FitsSigned w128 c.product.result = omega arith in
    answer c.args.code Multiply c.args.ty c.args.left c.args.right c.product.result _ c.in-Multiply.is fits c.product.ensures (ap (wrap c.args.ty) (ap₂ (λ x y. x *ℤ y) (read c.args.left c.ranges.left) (read c.args.right c.ranges.right)))

pub returns-in-Divide : goal.returns-in-Divide
returns-in-Divide c =
    let fits : FitsSigned w128 c.wrap-in-Divide.result = omega arith in
    let fits_too : FitsSigned w128 c.quotient.result = omega arith in
    answer c.args.code Divide c.args.ty c.args.left c.args.right c.wrap-in-Divide.result _ c.in-Divide.is fits c.wrap-in-Divide.ensures (ap (wrap c.args.ty) (read c.quotient.result fits_too ∙ c.quotient.ensures ∙ ap₂ quotient (read c.args.left c.ranges.left) (read c.args.right c.ranges.right)))

pub returns-in-Mod : goal.returns-in-Mod
returns-in-Mod c =
    let fits : FitsSigned w128 c.wrap-in-Mod.result = omega arith in
    let fits_too : FitsSigned w128 c.remainder.result = omega arith in
    answer c.args.code Mod c.args.ty c.args.left c.args.right c.wrap-in-Mod.result _ c.in-Mod.is fits c.wrap-in-Mod.ensures (ap (wrap c.args.ty) (read c.remainder.result fits_too ∙ c.remainder.ensures ∙ ap₂ remainder (read c.args.left c.ranges.left) (read c.args.right c.ranges.right)))

pub returns-in-Power : goal.returns-in-Power
returns-in-Power c =
    let fits : FitsSigned w128 c.power.result = omega arith in
    answer c.args.code Power c.args.ty c.args.left c.args.right c.power.result _ c.in-Power.is fits c.power.ensures (ap (wrap c.args.ty) (ap₂ (λ x y. int_pow x (unsigned_abs y)) (read c.args.left c.ranges.left) (read c.args.right c.ranges.right)))

pub returns-in-Maximum : goal.returns-in-Maximum
returns-in-Maximum c =
    let fits : FitsSigned w128 c.wrap-in-Maximum.result = omega arith in
    let fits_too : FitsSigned w128 c.max.result = omega arith in
    answer c.args.code Maximum c.args.ty c.args.left c.args.right c.wrap-in-Maximum.result _ c.in-Maximum.is fits c.wrap-in-Maximum.ensures (ap (wrap c.args.ty) (read c.max.result fits_too ∙ c.max.ensures.value ∙ ap₂ int_max (read c.args.left c.ranges.left) (read c.args.right c.ranges.right)))

pub returns-in-Minimum : goal.returns-in-Minimum
returns-in-Minimum c =
    let fits : FitsSigned w128 c.wrap-in-Minimum.result = omega arith in
    let fits_too : FitsSigned w128 c.min.result = omega arith in
    answer c.args.code Minimum c.args.ty c.args.left c.args.right c.wrap-in-Minimum.result _ c.in-Minimum.is fits c.wrap-in-Minimum.ensures (ap (wrap c.args.ty) (read c.min.result fits_too ∙ c.min.ensures.value ∙ ap₂ int_min (read c.args.left c.ranges.left) (read c.args.right c.ranges.right)))

pub returns-in-BitwiseAnd : goal.returns-in-BitwiseAnd
returns-in-BitwiseAnd c =
    let fits : FitsSigned w128 c.wrap-in-BitwiseAnd.result = omega arith in
    let below : bit_and c.digits.result c.digits-in-BitwiseAnd.result < 2 ^ 64 = and_lt 64 c.digits.result c.digits-in-BitwiseAnd.result (omega arith) (omega arith) in
    let number : to_z w128 (bit_and c.digits.result c.digits-in-BitwiseAnd.result) ≡ pos (bit_and c.digits.result c.digits-in-BitwiseAnd.result) = omega (arith, ints) in
    let left = c.digits.ensures ∙ ap (digits c.args.ty) (read c.args.left c.ranges.left) in
    let right = c.digits-in-BitwiseAnd.ensures ∙ ap (digits c.args.ty) (read c.args.right c.ranges.right) in
    answer c.args.code BitwiseAnd c.args.ty c.args.left c.args.right c.wrap-in-BitwiseAnd.result _ c.in-BitwiseAnd.is fits c.wrap-in-BitwiseAnd.ensures (ap (wrap c.args.ty) (number ∙ ap₂ (λ m n. pos (bit_and m n)) left right))

pub returns-in-BitwiseOr : goal.returns-in-BitwiseOr
returns-in-BitwiseOr c =
    let fits : FitsSigned w128 c.wrap-in-BitwiseOr.result = omega arith in
    let below : bit_or c.digits-in-BitwiseOr.result c.digits-in-BitwiseOr-2.result < 2 ^ 64 = or_lt 64 c.digits-in-BitwiseOr.result c.digits-in-BitwiseOr-2.result (omega arith) (omega arith) in
    let number : to_z w128 (bit_or c.digits-in-BitwiseOr.result c.digits-in-BitwiseOr-2.result) ≡ pos (bit_or c.digits-in-BitwiseOr.result c.digits-in-BitwiseOr-2.result) = omega (arith, ints) in
    let left = c.digits-in-BitwiseOr.ensures ∙ ap (digits c.args.ty) (read c.args.left c.ranges.left) in
    let right = c.digits-in-BitwiseOr-2.ensures ∙ ap (digits c.args.ty) (read c.args.right c.ranges.right) in
    answer c.args.code BitwiseOr c.args.ty c.args.left c.args.right c.wrap-in-BitwiseOr.result _ c.in-BitwiseOr.is fits c.wrap-in-BitwiseOr.ensures (ap (wrap c.args.ty) (number ∙ ap₂ (λ m n. pos (bit_or m n)) left right))

pub returns-in-BitwiseXor : goal.returns-in-BitwiseXor
returns-in-BitwiseXor c =
    let fits : FitsSigned w128 c.wrap-in-BitwiseXor.result = omega arith in
    let below : bit_xor c.digits-in-BitwiseXor.result c.digits-in-BitwiseXor-2.result < 2 ^ 64 = xor_lt 64 c.digits-in-BitwiseXor.result c.digits-in-BitwiseXor-2.result (omega arith) (omega arith) in
    let number : to_z w128 (bit_xor c.digits-in-BitwiseXor.result c.digits-in-BitwiseXor-2.result) ≡ pos (bit_xor c.digits-in-BitwiseXor.result c.digits-in-BitwiseXor-2.result) = omega (arith, ints) in
    let left = c.digits-in-BitwiseXor.ensures ∙ ap (digits c.args.ty) (read c.args.left c.ranges.left) in
    let right = c.digits-in-BitwiseXor-2.ensures ∙ ap (digits c.args.ty) (read c.args.right c.ranges.right) in
    answer c.args.code BitwiseXor c.args.ty c.args.left c.args.right c.wrap-in-BitwiseXor.result _ c.in-BitwiseXor.is fits c.wrap-in-BitwiseXor.ensures (ap (wrap c.args.ty) (number ∙ ap₂ (λ m n. pos (bit_xor m n)) left right))

pub returns-in-LeftShift : goal.returns-in-LeftShift
returns-in-LeftShift c =
    let fits : FitsSigned w128 c.product-in-LeftShift.result = omega arith in
    let count = c.shift.ensures ∙ ap (shift c.args.ty) (read c.args.right c.ranges.right) in
    answer c.args.code LeftShift c.args.ty c.args.left c.args.right c.product-in-LeftShift.result _ c.in-LeftShift.is fits c.product-in-LeftShift.ensures (ap (wrap c.args.ty) (ap₂ (λ x z. x *ℤ z) (read c.args.left c.ranges.left) (ap (λ k. to_z w128 (1 * 2 ^ k % 2 ^ 128)) count ∙ one_shifted (shift c.args.ty c.args.right) (shift_below c.args.ty c.args.right))))

pub returns-in-RightShift : goal.returns-in-RightShift
returns-in-RightShift c =
    let fits : FitsSigned w128 c.wrap-in-RightShift.result = omega arith in
    let count = c.shift-in-RightShift.ensures ∙ ap (shift c.args.ty) (read c.args.right c.ranges.right) in
    let above = mag_shr c.args.left (2 ^ shift c.args.ty c.args.right) in
    let value = c.ranges.left in
    let smaller : FitsSigned w128 (int_shr c.args.left (shift c.args.ty c.args.right)) = omega arith in
    answer c.args.code RightShift c.args.ty c.args.left c.args.right c.wrap-in-RightShift.result _ c.in-RightShift.is fits c.wrap-in-RightShift.ensures (ap (wrap c.args.ty) (ap₂ (λ x k. to_z w128 (of_z w128 (int_shr x k))) (read c.args.left c.ranges.left) count ∙ read (int_shr c.args.left (shift c.args.ty c.args.right)) smaller))

pub returns-in-Equal : goal.returns-in-Equal
returns-in-Equal c =
    let fits : FitsSigned w128 c.wrap-in-Equal.result = omega arith in
    answer c.args.code Equal c.args.ty c.args.left c.args.right c.wrap-in-Equal.result _ c.in-Equal.is fits c.wrap-in-Equal.ensures (ap (wrap c.args.ty) (ap (λ b. to_z w128 (from_bool b)) (same_bits c.args.left c.args.right c.ranges.left c.ranges.right) ∙ flagged (same c.args.left c.args.right)))

pub returns-in-NotEqual : goal.returns-in-NotEqual
returns-in-NotEqual c =
    let fits : FitsSigned w128 c.wrap-in-NotEqual.result = omega arith in
    answer c.args.code NotEqual c.args.ty c.args.left c.args.right c.wrap-in-NotEqual.result _ c.in-NotEqual.is fits c.wrap-in-NotEqual.ensures (ap (wrap c.args.ty) (ap (λ b. to_z w128 (from_bool (not b))) (same_bits c.args.left c.args.right c.ranges.left c.ranges.right) ∙ flagged (not (same c.args.left c.args.right))))

pub returns-in-Less : goal.returns-in-Less
returns-in-Less c =
    let fits : FitsSigned w128 c.wrap-in-Less.result = omega arith in
    answer c.args.code Less c.args.ty c.args.left c.args.right c.wrap-in-Less.result _ c.in-Less.is fits c.wrap-in-Less.ensures (ap (wrap c.args.ty) (ap₂ (λ x y. to_z w128 (from_bool (lt_z x y))) (read c.args.left c.ranges.left) (read c.args.right c.ranges.right) ∙ flagged (lt_z c.args.left c.args.right)))

pub returns-in-LessEqual : goal.returns-in-LessEqual
returns-in-LessEqual c =
    let fits : FitsSigned w128 c.wrap-in-LessEqual.result = omega arith in
    answer c.args.code LessEqual c.args.ty c.args.left c.args.right c.wrap-in-LessEqual.result _ c.in-LessEqual.is fits c.wrap-in-LessEqual.ensures (ap (wrap c.args.ty) (ap₂ (λ x y. to_z w128 (from_bool (le_z x y))) (read c.args.left c.ranges.left) (read c.args.right c.ranges.right) ∙ ap (λ b. to_z w128 (from_bool b)) (most c.args.left c.args.right) ∙ flagged (not (lt_z c.args.right c.args.left))))

pub returns-in-Greater : goal.returns-in-Greater
returns-in-Greater c =
    let fits : FitsSigned w128 c.wrap-in-Greater.result = omega arith in
    answer c.args.code Greater c.args.ty c.args.left c.args.right c.wrap-in-Greater.result _ c.in-Greater.is fits c.wrap-in-Greater.ensures (ap (wrap c.args.ty) (ap₂ (λ x y. to_z w128 (from_bool (lt_z y x))) (read c.args.left c.ranges.left) (read c.args.right c.ranges.right) ∙ flagged (lt_z c.args.right c.args.left)))

pub returns-in-GreaterEqual : goal.returns-in-GreaterEqual
returns-in-GreaterEqual c =
    let fits : FitsSigned w128 c.wrap-in-GreaterEqual.result = omega arith in
    answer c.args.code GreaterEqual c.args.ty c.args.left c.args.right c.wrap-in-GreaterEqual.result _ c.in-GreaterEqual.is fits c.wrap-in-GreaterEqual.ensures (ap (wrap c.args.ty) (ap₂ (λ x y. to_z w128 (from_bool (le_z y x))) (read c.args.left c.ranges.left) (read c.args.right c.ranges.right) ∙ ap (λ b. to_z w128 (from_bool b)) (most c.args.right c.args.left) ∙ flagged (not (lt_z c.args.left c.args.right))))
