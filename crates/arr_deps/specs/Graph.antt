-- The operations of a list by their numbers, and what a graph says of each two.
use Rattle.std.specs.Prelude.{ℕ, ◌-◌, nat_lt, List, Bool, false, ◌&&◌, None, get_or, map}
use Rattle.arr_num.specs.declared.elem.Elem.TheVariants.{U8}
use Rattle.arr_num.specs.declared.code.Code.TheVariants.{Free}
use Rattle.arr_ops.specs.declared.op.Op.{Op}
use Rattle.arr_ops.specs.Ops.{dep}

-- what stands where there is no operation
abbrev pub nothing : Op
nothing = record { code = Free; to = U8; from = U8; out = None; first = None; second = None; axis = None; slot = None; frees = None; makes = false }

-- the operation at a place, counted from 0
abbrev pub op_in : List Op → ℕ → Op
op_in list place = get_or list place nothing

-- the operation with a number, counted from 1
abbrev pub op_at : List Op → ℕ → Op
op_at list i = op_in list (i - 1)

-- f stands before g, and the two depend
abbrev pub leads_to : List Op → ℕ → ℕ → Bool
leads_to list f g = nat_lt f g && dep (op_at list f) (op_at list g)

-- for each operation, what a test of two says of it and of each
abbrev pub rows_by : (Op → Op → Bool) → List Op → List (List Bool)
rows_by test list = map (λ f. map (test f) list) list
