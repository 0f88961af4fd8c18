-- The classes of an operation's views, and what they tell of two operations.
use Rattle.std.specs.Prelude.{◌≡◌, ℕ, nat_lt, ◌==◌, List, [], ◌∷◌, Bool, true, false, not, ◌||◌, ◌&&◌, Option, Some, None, IsTrue, position}
use Rattle.std.specs.List.{list_all, list_any}
use Rattle.arr_view.specs.Strided.{Strided}
use Rattle.arr_view.specs.Views.{identical, overlap}
use Rattle.arr_overlap.specs.Classes.{view_at}
use Rattle.arr_ops.specs.declared.op.Op.{Op}
use Rattle.arr_ops.specs.Ops.{array_of, views}
use Rattle.arr_deps.specs.declared.classed.Classed.{Classed}

abbrev pub class_of : List Strided → Option Strided → Option ℕ
class_of classes None = None
class_of classes (Some v) = position (identical v) classes

abbrev pub classes_of : List Strided → Op → Classed
classes_of classes op = record { out = class_of classes op.out; first = class_of classes (array_of op.first); second = class_of classes (array_of op.second) }

-- each view of the operation has a class
abbrev pub has_classes : List Strided → Op → Bool
has_classes classes op = list_all (λ v. list_any (identical v) classes) (views op)

-- the classes are those of the operation, which has one for each view
pub record Stands (classes : List Strided) (op : Op) (classed : Classed) : Type 0 where
  pub same : classed ≡ classes_of classes op
  pub known : IsTrue (has_classes classes op)

-- a class below a count
abbrev pub within : ℕ → Option ℕ → Bool
within n None = true
within n (Some a) = nat_lt a n

-- views of the two classes overlap
abbrev pub meet : List Strided → Option ℕ → Option ℕ → Bool
meet classes (Some a) (Some b) = overlap (view_at classes a) (view_at classes b)
meet classes _ _ = false

-- they overlap, and are not of one class where that is allowed
abbrev pub cross : List Strided → Bool → Option ℕ → Option ℕ → Bool
cross classes never (Some a) (Some b) = overlap (view_at classes a) (view_at classes b) && (never || not (a == b))
cross classes never _ _ = false

abbrev pub first_view : List Strided → Option Strided
first_view [] = None
first_view (v ∷ vs) = Some v
