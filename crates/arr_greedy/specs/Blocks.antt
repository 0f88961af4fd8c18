-- Blocks that stand at their least numbers.
use Rattle.std.specs.Prelude.{◌≡◌, ℕ, ◌<◌, List, [], true, get_or, length}
use Rattle.std.specs.List.{filter}
use Rattle.arr_ops.specs.Plans.{not_empty}
use Rattle.arr_ops.specs.Order.{least_of}

-- the row at a place
abbrev pub row_at : List (List ℕ) → ℕ → List ℕ
row_at rows k = get_or rows k []

-- the blocks, without the places where none stands
abbrev pub live : List (List ℕ) → List (List ℕ)
live rows = filter not_empty rows

-- each block stands at its least number
abbrev pub Keyed : List (List ℕ) → Type 0
Keyed rows = (k : ℕ) → k < length rows → not_empty (row_at rows k) ≡ true → least_of (row_at rows k) ≡ k
