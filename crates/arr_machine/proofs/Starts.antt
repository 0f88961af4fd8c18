-- Where folds start, and what is passed on.
use Rattle.std.proofs.Common.{◌≡◌, ℕ, ◌+◌, ◌<◌, ℤ, pos, true, refl, ap, ◌∙◌, arith, to_z, of_z}
use Rattle.std.specs.Int.{w128}
use Rattle.arr_num.specs.declared.elem.Elem.{Elem}
use Rattle.arr_num.specs.declared.elem.Elem.TheVariants.{U8, I32, I64, U64}
use Rattle.arr_num.specs.declared.code.Code.{Code}
use Rattle.arr_num.specs.declared.code.Code.TheVariants.{MultiplyReduce, MultiplyAccumulate, MinimumReduce, MaximumReduce}
use Rattle.arr_num.specs.Numbers.{fold_start, greatest, in_type, least}
use Rattle.arr_ops.proofs.Typed.{zero_in}
use Rattle.arr_sums.proofs.Kept.{passed}
use Rattle.arr_sums.specs.Scanning.{ScansOn}

one_in : (t : Elem) → in_type t (pos 1) ≡ true
one_in U8 = refl
one_in I32 = refl
one_in I64 = refl
one_in U64 = refl

greatest_in : (t : Elem) → in_type t (greatest t) ≡ true
greatest_in U8 = refl
greatest_in I32 = refl
greatest_in I64 = refl
greatest_in U64 = refl

least_in : (t : Elem) → in_type t (least t) ≡ true
least_in U8 = refl
least_in I32 = refl
least_in I64 = refl
least_in U64 = refl

pub start_in : (code : Code) (t : Elem) → in_type t (fold_start code t) ≡ true
start_in MultiplyReduce t = one_in t
start_in MultiplyAccumulate t = one_in t
start_in MinimumReduce t = greatest_in t
start_in MaximumReduce t = least_in t
start_in _ t = zero_in t

pub start_passed : (code : Code) (t : Elem) (x : ℤ) → x ≡ fold_start code t → to_z w128 (of_z w128 x) ≡ fold_start code t
start_passed code t x e = passed t x (ap (in_type t) e ∙ start_in code t) ∙ e

-- results that stand elsewhere
pub scans_elsewhere : (f : ℤ → ℤ → ℤ) (z : ℤ) (n inner : ℕ) (old new out other source : ℕ → ℤ) (p c : ℕ) → ((i : ℕ) → i < c → other i ≡ out i) → ScansOn f z n inner old new out source p 0 c → ScansOn f z n inner old new other source p 0 c
scans_elsewhere f z n inner old new out other source p c same s xs was reads =
    let h = s xs was reads in
    ((λ j u. same (0 + j) (omega arith) ∙ h.0 j u), h.1)
