-- What follows where a test gives a value.
use Rattle.std.proofs.Common.{◌≡◌, ℤ, Bool, true, false, refl, subst, Option, Some, None}
use Rattle.std.specs.Bool.{then_some}
use Rattle.std.specs.Option.{option_or}

pub some_true : {X : Type 0} (b : Bool) (x y : X) → then_some b x ≡ Some y → b ≡ true
some_true true x y e = refl
some_true false x y e = absurd (cc)

pub some_same : {X : Type 0} (b : Bool) (x y : X) → then_some b x ≡ Some y → x ≡ y
some_same true x y e = cc
some_same false x y e = absurd (cc)

pub or_cases_of : {X : Type 0} (Y : Type 0) (a b : Option X) (y : X) → option_or a b ≡ Some y → (a ≡ Some y → Y) → (b ≡ Some y → Y) → Y
or_cases_of Y None b y e f g = g e
or_cases_of Y (Some x) b y e f g = f e

-- what holds of the value where the test passes
pub at_value : (P : ℤ → Type 0) (b : Bool) (v z : ℤ) → then_some b v ≡ Some z → (b ≡ true → P v) → P z
at_value P b v z e f = subst P (some_same b v z e) (f (some_true b v z e))
