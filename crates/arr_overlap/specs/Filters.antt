-- What tells without a walk that two views have no common element.
use Rattle.std.specs.Prelude.{◌≡◌, ℕ, ◌+◌, ◌-◌, ◌<◌, ℤ, List, [], ◌∷◌, Bool, true, false, cond, nat_le, ◌&&◌, ◌==◌, ◌%◌, unsigned_abs}
use Rattle.std.specs.List.{list_all}
use Rattle.arr_view.specs.Strided.{Strided}
use Rattle.arr_view.specs.Views.{elements, is_view, kept_strides, lies}
use Rattle.arr_overlap.specs.declared.filters.Outline.{Outline}

-- a number that steps of d lead to from `start`, up or down
abbrev pub in_step : ℕ → ℕ → ℕ → Bool
in_step d start x = (x % d) == (start % d)

abbrev pub divides : ℕ → ℕ → Bool
divides d n = (n % d) == 0

-- each stride is a multiple of d
abbrev pub is_spaced : ℕ → List ℤ → Bool
is_spaced d strides = list_all (λ s. divides d (unsigned_abs s)) strides

-- a number that lies, in rows of so many, at most `width` columns behind a column, round the end of the row
abbrev pub in_columns : ℕ → ℕ → ℕ → ℕ → Bool
in_columns row column width x = nat_le ((x + (row - column)) % row) width

-- ---- a part of a view

-- lengths from 1 to the others
abbrev pub fits_in : List ℕ → List ℕ → Bool
fits_in [] [] = true
fits_in (m ∷ ms) (n ∷ ns) = (nat_le 1 m && nat_le m n) && fits_in ms ns
fits_in _ _ = false

-- the part of a view at the first so many indices of each dimension
abbrev pub front_of : Strided → List ℕ → Strided
front_of v lengths = record { base = v.base; start = v.start; lengths = lengths; strides = kept_strides lengths v.strides }

-- 1 for each dimension that leads from row to row, in rows of so many
abbrev pub row_lengths : ℕ → List ℕ → List ℤ → List ℕ
row_lengths row (n ∷ ns) (s ∷ ss) = cond (divides row (unsigned_abs s)) 1 n ∷ row_lengths row ns ss
row_lengths row _ _ = []

-- ---- what is known of a view

pub record IsOutline (o : Outline) (v : Strided) : Type 0 where
  pub lawful : is_view v ≡ true
  pub start : o.start ≡ v.start
  pub between : list_all (lies o.least o.greatest) (elements v) ≡ true
  pub spaced : is_spaced o.step v.strides ≡ true
  pub column : o.column < o.row
  pub columns : list_all (in_columns o.row o.column o.width) (elements v) ≡ true
