-- How the positions of a view stand by rows.
use Rattle.std.specs.Prelude.{ℕ, zero, suc, ℤ, pos, ◌≡◌, ◌*◌, ◌/◌, ◌%◌, ◌<◌, ◌≤◌, ◌+ℤ◌, ◌*ℤ◌, List, get_or, true}
use Rattle.arr_view.specs.Strided.{Strided}
use Rattle.arr_view.specs.Views.{is_view, places, positions}
use Rattle.arr_rows.specs.declared.dimension.Dimension.{Dimension}

-- the place at a position, before it is seen as a natural number
abbrev pub spot_at : Strided → ℕ → ℤ
spot_at v p = get_or (places v.lengths v.strides (pos v.start)) p (pos 0)

-- how far position p is from the first along one dimension, as if it were the innermost
abbrev pub step : Dimension → ℕ → ℤ
step d p = pos (p % d.length) *ℤ d.stride

-- how far position p is from the first, along the first k dimensions
abbrev pub far : List ℕ → List ℤ → ℕ → ℕ → ℤ
far lengths strides zero p = pos 0
far lengths strides (suc k) p =
    (pos (p % get_or lengths k 0) *ℤ get_or strides k (pos 0)) +ℤ far lengths strides k (p / get_or lengths k 0)

-- two dimensions, one behind the other, are one
pub record AreOne (inner outer both : Dimension) : Type 0 where
  pub length : both.length ≡ inner.length * outer.length
  pub step : (p : ℕ) → step both p ≡ step inner p +ℤ step outer (p / inner.length)

-- each position of a view stands in a row, and each row in a page of rows, a stride behind the one before
pub record HasRows (v : Strided) (row page : Dimension) : Type 0 where
  pub view : is_view v ≡ true
  pub some_row : 1 ≤ row.length
  pub some_page : 1 ≤ page.length
  pub rows : (p : ℕ) → p < positions v.lengths → spot_at v p ≡ spot_at v (p / row.length * row.length) +ℤ step row p
  pub pages : (r : ℕ) → r * row.length < positions v.lengths
      → spot_at v (r * row.length) ≡ spot_at v (r / page.length * page.length * row.length) +ℤ step page r
