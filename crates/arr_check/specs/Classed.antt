-- The classes of identical views, and what they tell of two operations.
use Rattle.std.specs.Prelude.{◌≡◌, ℕ, nat_lt, ◌==◌, List, [], ◌∷◌, ◌++◌, Bool, true, false, cond, not, ◌||◌, ◌&&◌, Option, Some, None, IsTrue, fold, get_or, map, position}
use Rattle.std.specs.List.{list_all, list_any, flat_map}
use Rattle.arr_view.specs.Strided.{Strided}
use Rattle.arr_view.specs.Views.{has, identical, overlap}
use Rattle.arr_ops.specs.declared.op.Op.{Op}
use Rattle.arr_ops.specs.Ops.{array_of, views}
use Rattle.arr_law.specs.ProblemOf.{no_view}
use Rattle.arr_check.specs.declared.classed.Classed.{Classed}

-- the view goes last, unless one that is identical to it is there
abbrev pub with_first : List Strided → Strided → List Strided
with_first seen v = cond (list_any (identical v) seen) seen (seen ++ v ∷ [])

-- of each class the view that comes first
abbrev pub firsts : List Strided → List Strided
firsts vs = fold with_first [] vs

-- the view at a place of the list, counted from 0
abbrev pub view_in : List Strided → ℕ → Strided
view_in classes i = get_or classes i no_view

-- a row of bits marks the elements of a list
pub record Marks (bits : List Bool) (elements : List ℕ) : Type 0 where
  pub each : (x : ℕ) → get_or bits x false ≡ has elements x

-- for each view of a list, one after another, which views of it overlap it
abbrev pub overlaps_of : List Strided → List Bool
overlaps_of classes = flat_map (λ w. map (λ v. overlap v w) classes) classes

-- ---- the classes of an operation

abbrev pub class_of : List Strided → Option Strided → Option ℕ
class_of classes None = None
class_of classes (Some v) = position (identical v) classes

abbrev pub classes_of : List Strided → Op → Classed
classes_of classes op = record { out = class_of classes op.out; first = class_of classes (array_of op.first); second = class_of classes (array_of op.second) }

-- each view of the operation has a class
abbrev pub has_classes : List Strided → Op → Bool
has_classes classes op = list_all (λ v. list_any (identical v) classes) (views op)

-- the classes are those of the operation, which has one for each view
pub record Stands (classes : List Strided) (op : Op) (classed : Classed) : Type 0 where
  pub same : classed ≡ classes_of classes op
  pub known : IsTrue (has_classes classes op)

-- a class below a count
abbrev pub within : ℕ → Option ℕ → Bool
within n None = true
within n (Some a) = nat_lt a n

-- views of the two classes overlap
abbrev pub meet : List Strided → Option ℕ → Option ℕ → Bool
meet classes (Some a) (Some b) = overlap (view_in classes a) (view_in classes b)
meet classes _ _ = false

-- they overlap, and are not of one class where that is allowed
abbrev pub cross : List Strided → Bool → Option ℕ → Option ℕ → Bool
cross classes never (Some a) (Some b) = overlap (view_in classes a) (view_in classes b) && (never || not (a == b))
cross classes never _ _ = false

-- a class meets, or crosses, one of an operation
abbrev pub meets_some : List Strided → Option ℕ → Classed → Bool
meets_some classes out classed = (meet classes out classed.out || meet classes out classed.first) || meet classes out classed.second

abbrev pub crosses_some : List Strided → Bool → Option ℕ → Classed → Bool
crosses_some classes never out classed = (cross classes never out classed.out || cross classes never out classed.first) || cross classes never out classed.second

abbrev pub first_view : List Strided → Option Strided
first_view [] = None
first_view (v ∷ vs) = Some v

abbrev pub is_class : Option ℕ → ℕ → Bool
is_class None c = false
is_class (Some a) c = a == c
