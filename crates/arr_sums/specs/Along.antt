-- What a strip, or a part of one, adds along an axis, by the lists in which the numbers stand.
use Rattle.std.specs.Prelude.{ℕ, ℤ, ◌≡◌, ◌+◌, ◌*◌, ◌<◌, ◌==◌, Bool, List, cond}
use Rattle.arr_num.specs.declared.code.Code.{Code}
use Rattle.arr_num.specs.declared.elem.Elem.{Elem}
use Rattle.arr_num.specs.Numbers.{value}
use Rattle.arr_native.specs.Entries.{entry}
use Rattle.arr_strips.specs.Columns.{fold_upto}
use Rattle.arr_sums.specs.declared.axis.Axis.{Axis}
use Rattle.arr_sums.specs.Gathering.{FoldsOn}
use Rattle.arr_sums.specs.Kept.{StepsEach, kept_at}
use Rattle.arr_sums.specs.Scanning.{ScansOn}

-- how many positions lie side by side: those of a lane where no dimension comes after the axis, else those of a row
abbrev pub width_of : Axis → ℕ
width_of axis = cond (axis.inner == 1) axis.length axis.inner

-- the accumulators that stand among numbers from the place `at` on take in c numbers of the source, from a place on, which stand at the positions from p on
abbrev pub FoldsAlong : {T : Type 0} → Elem → (T → ℤ) → Code → Axis → ℕ → List ℤ → List ℤ → List T → ℕ → ℕ → ℕ → Type 0
FoldsAlong t number code axis at old new source p from c =
    FoldsOn (value code t) axis.length axis.inner (axis.outer * axis.inner) (kept_at old at) (kept_at new at) (entry number source) p from c

-- the carries that stand there do, and the results stand where the numbers do
abbrev pub ScansAlong : {T : Type 0} → Elem → (T → ℤ) → Code → T → Axis → ℕ → List ℤ → List ℤ → List T → List T → ℕ → ℕ → ℕ → Type 0
ScansAlong t number code start axis at old new out source p from c =
    ScansOn (value code t) (number start) axis.length axis.inner (kept_at old at) (kept_at new at) (entry number out) (entry number source) p from c

-- number j of a list, from a place on
abbrev pub entry_from : {T : Type 0} → (T → ℤ) → List T → ℕ → ℕ → ℤ
entry_from number xs from j = entry number xs (from + j)

-- c numbers of a list, from a place on, folded into a number
abbrev pub fold_from : {T : Type 0} → Elem → (T → ℤ) → Code → ℤ → List T → ℕ → ℕ → ℤ
fold_from t number code z source from c = fold_upto (value code t) z (entry_from number source from) c

-- from a place on each of c numbers of a list is the fold of the source up to it
abbrev pub AreFolds : {T : Type 0} → Elem → (T → ℤ) → Code → ℤ → List T → List T → ℕ → ℕ → Type 0
AreFolds t number code z source out from c = (j : ℕ) → j < c → entry number out (from + j) ≡ fold_from t number code z source from (j + 1)

-- each of c carries, from the place `at` on, takes in one number of the source, from a place on; first it begins anew, if the row is the first of its lanes
abbrev pub StepsRow : {T : Type 0} → Elem → (T → ℤ) → Code → T → Bool → List T → ℕ → List ℤ → ℕ → ℕ → List ℤ → Type 0
StepsRow t number code start first source from old at c new = StepsEach t (λ carry x. value code t (cond first (number start) carry) x) old (entry_from number source from) at c new
