-- What is known of each class of views of a list.
use Rattle.std.specs.Prelude.{ℕ, ◌==◌, List, [], ◌∷◌, cond, Option, Some, None}
use Rattle.arr_num.specs.declared.elem.Elem.{Elem}
use Rattle.arr_view.specs.Strided.{Strided}
use Rattle.arr_view.specs.Views.{has}
use Rattle.arr_ops.specs.declared.op.Op.{Op}
use Rattle.arr_ops.specs.Ops.{freed, makes_base}
use Rattle.arr_ops.specs.Costs.{weight}
use Rattle.arr_law.specs.ProblemOf.{first_where}
use Rattle.arr_check.specs.declared.weights.Entry.{Entry}

-- the type that comes first for a base, if it has one
abbrev pub type_among : List (ℕ × Elem) → ℕ → Option Elem
type_among [] b = None
type_among (p ∷ ps) b = cond (p.0 == b) (Some p.1) (type_among ps b)

-- what a view weighs in a list, and who creates and who ends its base
abbrev pub entry_of : List Op → Strided → Entry
entry_of list v = record {
  weight = weight list v;
  creator = first_where (λ op. makes_base op v.base) list;
  freer = first_where (λ op. has (freed op) v.base) list;
}
