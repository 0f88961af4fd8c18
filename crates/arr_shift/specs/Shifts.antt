-- Views that stand some places before or behind one another.
use Rattle.std.specs.Prelude.{◌-◌, ◌+ℤ◌, ◌*ℤ◌, ◌&&◌, ◌==◌, ◌||◌, Bool, List, int_lt, nat_le, pos, true, ℕ, ℤ, ◌∷◌}
use Rattle.std.specs.Cmp.Lexicographic.{pointwise}
use Rattle.std.specs.Ordering.{int_eq}
use Rattle.arr_view.specs.Strided.{Strided}
use Rattle.arr_view.specs.Views.{same_lists}

-- how far the last place of some dimensions is from the first
abbrev pub reach : List ℕ → List ℤ → ℤ
reach (n ∷ ns) (s ∷ ss) = (pos (n - 1) *ℤ s) +ℤ reach ns ss
reach _ _ = pos 0

-- each step of a dimension longer than 1 leads beyond all of the inner ones, so that places rise in row-major order
abbrev pub rises : List ℕ → List ℤ → Bool
rises (n ∷ ns) (s ∷ ss) = (nat_le n 1 || int_lt (reach ns ss) s) && rises ns ss
rises _ _ = true

-- the same base, shape and strides, and places that rise: each place of the one view is as far from that of the other
abbrev pub is_shift : Strided → Strided → Bool
is_shift v w = (v.base == w.base) && (same_lists v.lengths w.lengths && (pointwise int_eq v.strides w.strides && rises v.lengths v.strides))
