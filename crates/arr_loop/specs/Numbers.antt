-- The numbers at one position of views, what is loaded for one result, and numbers written at places.
use Rattle.std.specs.Prelude.{ℕ, ℤ, pos, ◌≡◌, ◌*◌, ◌<◌, nat_lt, Bool, false, cond, List, get_or, length, take, Option, Some}
use Rattle.std.specs.List.{list_all}
use Rattle.arr_num.specs.Kinds.{is_reduction}
use Rattle.arr_num.specs.Numbers.{width}
use Rattle.arr_view.specs.Strided.{Strided}
use Rattle.arr_view.specs.Views.{elements, identical, positions}
use Rattle.arr_ops.specs.declared.op.Op.{Op}
use Rattle.arr_ops.specs.Costs.{distinct, total, weight}
use Rattle.arr_ops.specs.Memory.{Cell, Memory, Writes, changed, computed}
use Rattle.arr_ops.specs.Ops.{array_of, freed_by, inputs}
use Rattle.arr_ops.specs.Traffic.{axis_length}
use Rattle.arr_store.specs.Cells.{assigned, number_at, size_at, takes, width_at}
use Rattle.arr_store.specs.Stored.{Stored, cells, memory_of}
use Rattle.arr_strips.specs.Columns.{Row, place_at}

-- of each view its number at a position
abbrev pub row_at : (ℕ → Option Cell) → ℕ → Row
row_at f p v = number_at (f v.base) (place_at v p)

-- both inputs are views, and identical
abbrev pub same_views : Option Strided → Option Strided → Bool
same_views (Some v) (Some w) = identical v w
same_views _ _ = false

abbrev pub same_inputs : Op → Bool
same_inputs op = same_views (array_of op.first) (array_of op.second)

-- how many bytes are loaded for one result: a reduction's numbers along its axis, or one number for each distinct input
abbrev pub loads_each : Op → ℕ
loads_each op = cond (is_reduction op.code) (axis_length op) (length (distinct identical (inputs op))) * width op.from

-- the places lie inside the cell
abbrev pub lie_inside : List ℕ → Option Cell → Bool
lie_inside places c = list_all (λ e. nat_lt e (size_at c)) places

-- a base with these numbers at these places
abbrev pub written : (ℕ → Option Cell) → ℕ → List ℕ → List ℤ → ℕ → Option Cell
written f b places numbers = assigned f b (changed (Writes places numbers) (f b))

-- each of the views lies inside its base
abbrev pub views_lie_inside : (ℕ → Option Cell) → List Strided → Bool
views_lie_inside f vs = list_all (λ (v : Strided). lie_inside (elements v) (f v.base)) vs

-- how many bytes all numbers of the view take
abbrev pub view_bytes : (ℕ → Option Cell) → Strided → ℕ
view_bytes f v = positions v.lengths * width_at (f v.base)

-- how many bytes all numbers of the views take, of the types that operations give their bases
abbrev pub bytes_of : List Op → List Strided → ℕ
bytes_of ops vs = total (weight ops) vs

-- the first n numbers are results of the operation
abbrev pub AreResults : List ℤ → Memory → Op → ℕ → Type 0
AreResults numbers m op n = (q : ℕ) → q < n → get_or numbers q (pos 0) ≡ get_or (computed m op) q (pos 0)

-- the first numbers, one for each position of the view
abbrev pub numbers_for : Strided → List ℤ → List ℤ
numbers_for v numbers = take (positions v.lengths) numbers

-- the numbers are of the type of the cell
abbrev pub are_taken : Option Cell → List ℤ → Bool
are_taken c numbers = list_all (takes c) numbers

-- the bases with those numbers in the view
abbrev pub with_view : (ℕ → Option Cell) → Strided → List ℤ → ℕ → Option Cell
with_view f v numbers = written f v.base (elements v) (numbers_for v numbers)

-- the bases with the results of an operation in a view, unless the block frees the base of that
abbrev pub with_results : List Op → Op → Strided → Stored → ℕ → Option Cell
with_results ops op v store = cond (freed_by ops v.base) (cells store) (written (cells store) v.base (elements v) (computed (memory_of store) op))

-- how many bytes that stores
abbrev pub result_bytes : List Op → Op → Strided → ℕ
result_bytes ops op v = cond (freed_by ops v.base) 0 (positions v.lengths * width op.to)
