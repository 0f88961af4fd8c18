-- The codes of which a constant is dropped, or alone decides.
use Rattle.std.proofs.Common.{◌≡◌, ℤ, true, false, refl, Some}
use Rattle.std.proofs.lemmas.Bool.{false≢true}
use Rattle.arr_num.specs.Kinds.{kind, Binary}
use Rattle.arr_num.specs.declared.elem.Elem.{Elem}
use Rattle.arr_num.specs.declared.code.Code.{Code}
use Rattle.arr_num.specs.declared.code.Code.TheVariants.{Add, Subtract, Multiply, Divide, Mod, Maximum, Minimum, BitwiseAnd, BitwiseOr, BitwiseXor, LeftShift, RightShift}
use Rattle.arr_ops.specs.declared.op.Op.{Op}
use Rattle.arr_ops.specs.Formed.{types_kept, same_elem}
use Rattle.arr_ops.proofs.Spots.{same_elem_is}
use Rattle.arr_rewrite.specs.Rules.{is_identity, neutral_right, neutral_left, fixed_right, fixed_left}

-- a binary code of one type
pub record OneType (code : Code) : Type 0 where
  pub binary : kind code ≡ Binary
  pub other : is_identity code ≡ false
  pub types : (op : Op) → types_kept code op ≡ true → op.to ≡ op.from

pub one_type : (code : Code) → kind code ≡ Binary → is_identity code ≡ false → ((op : Op) → types_kept code op ≡ true → same_elem op.to op.from ≡ true) → OneType code
one_type code k i t = record { binary = k; other = i; types = λ op e. same_elem_is op.to op.from (t op e) }

pub neutral_right_code : (code : Code) (t : Elem) (c : ℤ) → neutral_right code t c ≡ true → OneType code
neutral_right_code Add t c h = one_type Add refl refl (λ op e. e)
neutral_right_code Subtract t c h = one_type Subtract refl refl (λ op e. e)
neutral_right_code Multiply t c h = one_type Multiply refl refl (λ op e. e)
neutral_right_code Divide t c h = one_type Divide refl refl (λ op e. e)
neutral_right_code BitwiseAnd t c h = one_type BitwiseAnd refl refl (λ op e. e)
neutral_right_code BitwiseOr t c h = one_type BitwiseOr refl refl (λ op e. e)
neutral_right_code BitwiseXor t c h = one_type BitwiseXor refl refl (λ op e. e)
neutral_right_code LeftShift t c h = one_type LeftShift refl refl (λ op e. e)
neutral_right_code RightShift t c h = one_type RightShift refl refl (λ op e. e)
neutral_right_code Maximum t c h = one_type Maximum refl refl (λ op e. e)
neutral_right_code Minimum t c h = one_type Minimum refl refl (λ op e. e)
neutral_right_code _ t c h = absurd (false≢true h)

pub neutral_left_code : (code : Code) (t : Elem) (c : ℤ) → neutral_left code t c ≡ true → OneType code
neutral_left_code Add t c h = one_type Add refl refl (λ op e. e)
neutral_left_code Multiply t c h = one_type Multiply refl refl (λ op e. e)
neutral_left_code BitwiseAnd t c h = one_type BitwiseAnd refl refl (λ op e. e)
neutral_left_code BitwiseOr t c h = one_type BitwiseOr refl refl (λ op e. e)
neutral_left_code BitwiseXor t c h = one_type BitwiseXor refl refl (λ op e. e)
neutral_left_code Maximum t c h = one_type Maximum refl refl (λ op e. e)
neutral_left_code Minimum t c h = one_type Minimum refl refl (λ op e. e)
neutral_left_code _ t c h = absurd (false≢true h)

pub fixed_right_code : (code : Code) (t : Elem) (c z : ℤ) → fixed_right code t c ≡ Some z → OneType code
fixed_right_code Multiply t c z h = one_type Multiply refl refl (λ op e. e)
fixed_right_code BitwiseAnd t c z h = one_type BitwiseAnd refl refl (λ op e. e)
fixed_right_code Divide t c z h = one_type Divide refl refl (λ op e. e)
fixed_right_code Mod t c z h = one_type Mod refl refl (λ op e. e)
fixed_right_code BitwiseOr t c z h = one_type BitwiseOr refl refl (λ op e. e)
fixed_right_code Maximum t c z h = one_type Maximum refl refl (λ op e. e)
fixed_right_code Minimum t c z h = one_type Minimum refl refl (λ op e. e)
fixed_right_code _ t c z h = absurd (cc)

pub fixed_left_code : (code : Code) (t : Elem) (c z : ℤ) → fixed_left code t c ≡ Some z → OneType code
fixed_left_code Multiply t c z h = one_type Multiply refl refl (λ op e. e)
fixed_left_code BitwiseAnd t c z h = one_type BitwiseAnd refl refl (λ op e. e)
fixed_left_code Divide t c z h = one_type Divide refl refl (λ op e. e)
fixed_left_code Mod t c z h = one_type Mod refl refl (λ op e. e)
fixed_left_code LeftShift t c z h = one_type LeftShift refl refl (λ op e. e)
fixed_left_code RightShift t c z h = one_type RightShift refl refl (λ op e. e)
fixed_left_code BitwiseOr t c z h = one_type BitwiseOr refl refl (λ op e. e)
fixed_left_code Maximum t c z h = one_type Maximum refl refl (λ op e. e)
fixed_left_code Minimum t c z h = one_type Minimum refl refl (λ op e. e)
fixed_left_code _ t c z h = absurd (cc)
