-- Views that are identical, said by their parts.
use Rattle.std.specs.Prelude.{ℕ, ℤ, List, ◌∷◌, Bool, true, ◌&&◌, ◌||◌, ◌==◌, nat_le}
use Rattle.std.specs.Ordering.{int_eq}
use Rattle.arr_view.specs.Strided.{Strided}
use Rattle.arr_view.specs.Views.{same_lists}

-- the strides agree in each dimension longer than 1
abbrev pub same_strides : List ℕ → List ℤ → List ℤ → Bool
same_strides (n ∷ ns) (s ∷ ss) (t ∷ ts) = (nat_le n 1 || int_eq s t) && same_strides ns ss ts
same_strides _ _ _ = true

-- the same base, start and shape, and the same stride in each dimension longer than 1
abbrev pub same_parts : Strided → Strided → Bool
same_parts v w = (v.base == w.base) && ((v.start == w.start) && (same_lists v.lengths w.lengths && same_strides v.lengths v.strides w.strides))
