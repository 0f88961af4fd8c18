-- What holds of wrapping and of folds.
use Rattle.std.specs.Prelude.{◌≡◌, ℕ, ℤ, pos, ◌+ℤ◌, ◌*◌, true}
use Rattle.arr_num.specs.Numbers.{size, in_type, wrap, value, fold_start}
use Rattle.arr_num.specs.Kinds.{is_fold}
use Rattle.arr_num.specs.declared.elem.Elem.{Elem}
use Rattle.arr_num.specs.declared.code.Code.{Code}

-- they differ by a multiple of m
pub record IsCongruent (m : ℕ) (y z : ℤ) : Type 0 where
  pub more : ℕ
  pub less : ℕ
  pub same : y +ℤ pos (more * m) ≡ z +ℤ pos (less * m)

-- w is a number of the type t, and differs from z by a multiple of the type's size
pub record IsWrapped (t : Elem) (z w : ℤ) : Type 0 where
  pub inside : in_type t w ≡ true
  pub congruent : IsCongruent (size t) z w

abbrev pub WrapsInto : Type 0
WrapsInto = (t : Elem) (z : ℤ) → IsWrapped t z (wrap t z)

abbrev pub WrapsToOne : Type 0
WrapsToOne = (t : Elem) (z w : ℤ) → IsWrapped t z w → w ≡ wrap t z

-- the steps of a fold may be grouped in any way
abbrev pub FoldsRegroup : Type 0
FoldsRegroup =
    (code : Code) (t : Elem) (x y z : ℤ) → is_fold code ≡ true → in_type t x ≡ true → in_type t y ≡ true → in_type t z ≡ true
    → value code t (value code t x y) z ≡ value code t x (value code t y z)

-- a fold of one number is that number
abbrev pub StartsAreNeutral : Type 0
StartsAreNeutral = (code : Code) (t : Elem) (x : ℤ) → is_fold code ≡ true → in_type t x ≡ true → value code t (fold_start code t) x ≡ x
