-- The classes of identical views, in the order of first sight.
use Rattle.std.specs.Prelude.{◌≡◌, ℕ, ◌<◌, List, [], ◌∷◌, ◌++◌, Bool, cond, fold, get_or, length, map, Option, Some, None}
use Rattle.std.specs.List.{list_any}
use Rattle.arr_view.specs.Strided.{Strided}
use Rattle.arr_view.specs.Views.{elements, identical, overlap}
use Rattle.arr_overlap.specs.declared.filters.Outline.{Outline}
use Rattle.arr_overlap.specs.Filters.{IsOutline}
use Rattle.arr_overlap.specs.Marks.{Marks}

-- the view goes last, unless one that is identical to it is there
abbrev pub with_first : List Strided → Strided → List Strided
with_first views v = cond (list_any (identical v) views) views (views ++ v ∷ [])

-- of each class the view that comes first
abbrev pub firsts : List Strided → List Strided
firsts views = fold with_first [] views

-- for each view, with which views it overlaps
abbrev pub overlaps_among : List Strided → List (List Bool)
overlaps_among views = map (λ v. map (overlap v) views) views

-- the view at a place of the list, counted from 0
abbrev pub view_at : List Strided → ℕ → Strided
view_at views i = get_or views i (record { base = 0; start = 0; lengths = []; strides = [] })

-- the outlines are those of the first so many views
pub record AreOutlines (count : ℕ) (outlines : List Outline) (views : List Strided) : Type 0 where
  pub long : length outlines ≡ count
  pub each : (i : ℕ) → i < count → (d : Outline) → IsOutline (get_or outlines i d) (view_at views i)

-- where there is a row for a view, it marks the view's elements
pub record AreMarks (marks : List (Option (List Bool))) (views : List Strided) : Type 0 where
  pub long : length marks ≡ length views
  pub each : (i : ℕ) → i < length views → (row : List Bool) → get_or marks i None ≡ Some row → Marks row (elements (view_at views i))
