-- Views whose numbers stand in lanes, and views that are read where they stand in bases.
use Rattle.std.specs.Prelude.{ℕ, ◌≡◌, ◌≤◌, List, [], ◌++◌, Bool, cond, get_or, is_some, length, not, Option, None}
use Rattle.std.specs.List.{AllByRecursion, list_all}
use Rattle.arr_view.specs.Strided.{Strided}
use Rattle.arr_view.specs.Views.{identical}
use Rattle.arr_ops.specs.declared.op.Op.{Op}
use Rattle.arr_ops.specs.Ops.{outputs, view_of}
use Rattle.arr_strips.specs.Registers.{number_in, register_views}
use Rattle.arr_lanes.specs.declared.strip.Place.{Place}

-- the views that an operation writes or shows: their numbers stand in lanes
abbrev pub own_views : Op → List Strided
own_views op = outputs op ++ cond (is_some op.slot) (view_of op.first) []

-- an operation neither writes nor shows a view, or one that is identical to it
abbrev pub leaves : Op → Strided → Bool
leaves op v = list_all (λ w. not (identical v w)) (own_views op)

-- a view may be read where it stands
abbrev pub is_lent : List Op → Strided → Bool
is_lent ops v = list_all (λ op. leaves op v) ops

-- what operations write or show is read in lanes, and so are constants
pub record AreOwn (ops : List Op) (places : List (Option Place)) : Type 0 where
  pub views : AllByRecursion (λ op. AllByRecursion (λ v. get_or places (number_in (register_views ops) v) None ≡ None) (own_views op)) ops
  pub constants : (r : ℕ) → length (register_views ops) ≤ r → get_or places r None ≡ None
