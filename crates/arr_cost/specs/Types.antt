-- The types that operations give to bases.
use Rattle.std.specs.Prelude.{ℕ, ◌==◌, List, [], ◌∷◌, cond, Option, Some, None}
use Rattle.arr_num.specs.declared.elem.Elem.{Elem}

-- the type that comes first for a base, if it has one
abbrev pub type_among : List (ℕ × Elem) → ℕ → Option Elem
type_among [] b = None
type_among (p ∷ ps) b = cond (p.0 == b) (Some p.1) (type_among ps b)
