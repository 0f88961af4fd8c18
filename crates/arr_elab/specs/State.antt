-- What is known while a script is read, and steps that add to it or refuse the script.
use Rattle.std.specs.Prelude.{ℕ, suc, ◌+◌, List, [], ◌∷◌, ◌++◌, Bool, false, ◌||◌, ◌==◌, nat_lt, nat_le, length, cond, if◌then◌else◌, Option, Some, None, is_some, Result, Ok, Err}
use Rattle.std.specs.Str.{bytes_eq}
use Rattle.arr_view.specs.Views.{positions, whole_view}
use Rattle.arr_view.specs.Strided.{Strided}
use Rattle.arr_ops.specs.declared.op.Op.{Op}
use Rattle.arr_shape.specs.declared.fault.ShapeFault.{ShapeFault}
use Rattle.arr_shape.specs.declared.fault.ShapeFault.TheVariants as fault
use Rattle.arr_tree.specs.declared.refusal.Place.{Place}
use Rattle.arr_tree.specs.declared.refusal.Kind.{Kind}
use Rattle.arr_tree.specs.declared.refusal.Kind.TheVariants as kind
use Rattle.arr_tree.specs.declared.refusal.Refusal.{Refusal}
use Rattle.arr_elab.specs.declared.value.Array.{Array}
use Rattle.arr_elab.specs.declared.step.Step.{Step}
use Rattle.arr_elab.specs.declared.step.Step.TheVariants.{Act}

-- Each name that was ever bound, in the order of first sight, with the array that it stands for, or none after `del`.
abbrev pub Names : Type 0
Names = List (List ℕ × Option Array)

-- the names, the lengths of the bases made so far, the first base of the statement, and the steps so far
pub record State : Type 0 where
  pub names : Names
  pub bases : List ℕ
  pub first : ℕ
  pub steps : List Step

abbrev pub nothing_yet : State
nothing_yet = record { names = []; bases = []; first = 0; steps = [] }

-- ---- names

abbrev pub stands_for : Names → List ℕ → Option Array
stands_for [] name = None
stands_for (entry ∷ entries) name = if bytes_eq entry.0 name then entry.1 else stands_for entries name

-- the number of a name, or of the next one
abbrev pub number_of : Names → List ℕ → ℕ
number_of [] name = 0
number_of (entry ∷ entries) name = if bytes_eq entry.0 name then 0 else suc (number_of entries name)

-- the names when one stands for something else
abbrev pub with_name : Names → List ℕ → Option Array → Names
with_name [] name array = (name, array) ∷ []
with_name (entry ∷ entries) name array = if bytes_eq entry.0 name then (name, array) ∷ entries else entry ∷ with_name entries name array

abbrev pub is_bound : List ℕ × Option Array → Bool
is_bound entry = is_some entry.1

-- ---- live elements

abbrev pub has_base : ℕ → Option Array → Bool
has_base b None = false
has_base b (Some array) = array.view.base == b

abbrev pub is_named : Names → ℕ → Bool
is_named [] b = false
is_named (entry ∷ entries) b = has_base b entry.1 || is_named entries b

-- the bases from b on: those count that a name stands for or that the statement made
abbrev pub live_from : Names → ℕ → ℕ → List ℕ → ℕ
live_from names first b [] = 0
live_from names first b (n ∷ ns) = cond (nat_le first b || is_named names b) n 0 + live_from names first (suc b) ns

abbrev pub live : State → ℕ
live s = live_from s.names s.first 0 s.bases

abbrev pub most_live : ℕ
most_live = 16777216

abbrev pub most_names : ℕ
most_names = 1024

-- ---- steps that may refuse

abbrev pub Checked : Type 0 → Type 0
Checked A = Result A Refusal

abbrev pub and_then : {A B : Type 0} → Checked A → (A → Checked B) → Checked B
and_then (Ok a) f = f a
and_then (Err e) f = Err e

abbrev pub Reading : Type 0 → Type 0
Reading A = State → Checked (A × State)

infixl 10 ◌>>=◌
abbrev pub ◌>>=◌ : {A B : Type 0} → Reading A → (A → Reading B) → Reading B
p >>= f = λ s. and_then (p s) (λ r. f r.0 r.1)

infixl 10 ◌>>◌
abbrev pub ◌>>◌ : {A B : Type 0} → Reading A → Reading B → Reading B
p >> q = p >>= (λ _. q)

abbrev pub pure : {A : Type 0} → A → Reading A
pure a = λ s. Ok (a, s)

abbrev pub refuse : {A : Type 0} → Place → Kind → Reading A
refuse at kind = λ s. Err (record { at = at; kind = kind })

-- refused unless the test holds
abbrev pub require : Bool → Place → Kind → Reading (Unit {0})
require test at kind = if test then pure tt else refuse at kind

abbrev pub kind_of : ShapeFault → Kind
kind_of fault.ShapeMismatch = kind.ShapeMismatch
kind_of fault.SliceRange = kind.SliceRange
kind_of fault.ZeroStep = kind.ZeroStep
kind_of fault.EmptyArray = kind.EmptyArray
kind_of fault.AxisRange = kind.AxisRange
kind_of fault.RankRange = kind.RankRange
kind_of fault.NotContiguous = kind.NotContiguous
kind_of fault.CountMismatch = kind.CountMismatch
kind_of fault.OutsideBase = kind.OutsideBase
kind_of fault.TooManyElements = kind.TooManyElements

-- what a rule of shapes gives, or its fault at a place
abbrev pub ruled : {A : Type 0} → Place → Result A ShapeFault → Reading A
ruled at (Ok a) = pure a
ruled at (Err f) = refuse at (kind_of f)

abbrev pub known : Reading State
known = λ s. Ok (s, s)

abbrev pub step : Step → Reading (Unit {0})
step new = λ s. Ok (tt, record s { steps = s.steps ++ new ∷ [] })

abbrev pub act : Op → Reading (Unit {0})
act op = step (Act op)

-- a fresh base of these lengths, whole
unfoldable pub fresh : Place → List ℕ → Reading Strided
fresh at lengths =
    λ s. if nat_lt most_live (live s + positions lengths) then Err (record { at = at; kind = kind.TooMuchLive })
    else Ok (whole_view (length s.bases) lengths, record s { bases = s.bases ++ positions lengths ∷ [] })
