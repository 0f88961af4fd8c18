-- Which views operations still read.
use Rattle.std.specs.Prelude.{ℕ, List, ◌++◌, Bool, drop}
use Rattle.std.specs.List.{flat_map}
use Rattle.arr_view.specs.Strided.{Strided}
use Rattle.arr_ops.specs.declared.op.Op.{Op}
use Rattle.arr_ops.specs.Ops.{inputs}
use Rattle.arr_strips.specs.Blocks.{stores}
use Rattle.arr_strips.specs.Strips.{loaded}

-- a view is needed at operation k if that or one behind it reads it, or the walk stores it
abbrev pub needed : List Op → ℕ → Strided → Bool
needed ops k v = loaded (flat_map inputs (drop k ops) ++ stores ops) v
