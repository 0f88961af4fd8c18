-- What is loaded, and the numbers of a view.
use Rattle.std.specs.Prelude.{◌≡◌, ℕ, ℤ, ◌+◌, true, List, Option}
use Rattle.arr_num.specs.declared.elem.Elem.{Elem}
use Rattle.arr_view.specs.Strided.{Strided}
use Rattle.arr_view.specs.Views.{elements}
use Rattle.arr_ops.specs.Fits.{meets_need}
use Rattle.arr_ops.specs.Gathers.{need}
use Rattle.arr_ops.specs.Memory.{Cell, read}
use Rattle.arr_ops.specs.declared.gather.Gather.{Gather}
use Rattle.arr_ops.specs.declared.gather.Scatter.{Scatter}
use Rattle.arr_ops.specs.Costs.{weight_of}

-- ---- how many bytes are loaded at most

abbrev pub gather_loads : Gather → ℕ
gather_loads op = weight_of op.of op.index + weight_of op.to op.out

abbrev pub scatter_loads : Scatter → ℕ
scatter_loads op = weight_of op.of op.index + weight_of op.to op.values

-- ---- the numbers of a view

-- the base of a view is there with the type, and every element of the view lies inside it
abbrev pub Holds : (ℕ → Option Cell) → Elem → Strided → Type 0
Holds f t v = meets_need (f v.base) (need t v) ≡ true

-- the numbers of a view
abbrev pub numbers_at : (ℕ → Option Cell) → Strided → List ℤ
numbers_at f v = read (f v.base) (elements v)
