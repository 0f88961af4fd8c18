-- Which types the result and the inputs of a code have.
use Rattle.std.specs.Prelude.{◌≡◌, Bool, true, false, refl}
use Rattle.std.proofs.Common.{ap}
use Rattle.std.proofs.lemmas.Bool.{false≢true}
use Rattle.std.specs.Cmp.{IsEquivalence}
use Rattle.arr_num.specs.declared.elem.Elem.{Elem}
use Rattle.arr_num.specs.declared.elem.Elem.TheVariants.{U8, I32, I64, U64}
use Rattle.arr_num.specs.declared.code.Code.{Code}
use Rattle.arr_num.specs.declared.code.Code.TheVariants.{Equal, NotEqual, Less, LessEqual, Greater, GreaterEqual, Identity, Range}

abbrev pub same_elem : Elem → Elem → Bool
same_elem U8 U8 = true
same_elem I32 I32 = true
same_elem I64 I64 = true
same_elem U64 U64 = true
same_elem _ _ = false

pub same_elem_is : (s t : Elem) → same_elem s t ≡ true → s ≡ t
same_elem_is U8 U8 h = refl
same_elem_is I32 I32 h = refl
same_elem_is I64 I64 h = refl
same_elem_is U64 U64 h = refl
same_elem_is _ _ h = absurd (false≢true h)

pub same_elem_refl : (t : Elem) → same_elem t t ≡ true
same_elem_refl U8 = refl
same_elem_refl I32 = refl
same_elem_refl I64 = refl
same_elem_refl U64 = refl

same_elem_turned : (s t : Elem) → same_elem s t ≡ same_elem t s
same_elem_turned U8 U8 = refl
same_elem_turned I32 I32 = refl
same_elem_turned I64 I64 = refl
same_elem_turned U64 U64 = refl
same_elem_turned _ _ = refl

-- so `==` of types may say it
pub same_elem_laws : IsEquivalence same_elem
same_elem_laws = record { refl = same_elem_refl; symm = same_elem_turned; congr = λ s t u h. ap (λ k. same_elem k u) (same_elem_is s t h) }

-- A comparison gives a number of type u8, IDENTITY and RANGE one of any type, and every other code one of
-- the type of its inputs.
abbrev pub types_match : Code → Elem → Elem → Bool
types_match Equal to from = same_elem to U8
types_match NotEqual to from = same_elem to U8
types_match Less to from = same_elem to U8
types_match LessEqual to from = same_elem to U8
types_match Greater to from = same_elem to U8
types_match GreaterEqual to from = same_elem to U8
types_match Identity to from = true
types_match Range to from = true
types_match _ to from = same_elem to from
