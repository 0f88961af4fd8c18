-- Who writes what an operation reads, and what is written in between.
use Rattle.std.specs.Prelude.{ℕ, List, [], ◌∷◌, Bool, cond, not, ◌&&◌, ◌||◌, Option, None}
use Rattle.std.specs.Bool.{then_some}
use Rattle.std.specs.List.{list_any, list_all}
use Rattle.arr_view.specs.Strided.{Strided}
use Rattle.arr_view.specs.Views.{overlap, has}
pub use Rattle.arr_ops.specs.Ops.{writes_base}
use Rattle.arr_ops.specs.Ops.{outputs, freed}
use Rattle.arr_ops.specs.declared.op.Op.{Op}

abbrev pub unwritten_base : List Op → ℕ → Bool
unwritten_base fs b = list_all (λ f. not (writes_base f b)) fs

-- an operation, and those that stand after it, before the position that is spoken of
pub record Writer : Type 0 where
  pub op : Op
  pub between : List Op

-- the first that writes the base, if it makes it and none after it writes it
abbrev pub only_writer_in : List Op → ℕ → Option Writer
only_writer_in [] b = None
only_writer_in (f ∷ fs) b = cond (writes_base f b) (then_some (f.makes && unwritten_base fs b) (record { op = f; between = fs })) (only_writer_in fs b)

-- the only writer of the base in the list `front` and then `back`, where it stands in `front`
abbrev pub only_writer : List Op → List Op → ℕ → Option Writer
only_writer front back b = cond (unwritten_base back b) (only_writer_in front b) None

-- f writes a view that overlaps w, or frees its base
abbrev pub spoils : Strided → Op → Bool
spoils w f = list_any (λ o. overlap o w) (outputs f) || has (freed f) w.base

-- w is unwritten by these
abbrev pub unspoiled : List Op → Strided → Bool
unspoiled fs w = list_all (λ f. not (spoils w f)) fs
