-- The tables of one block an operation.
use Rattle.std.specs.Prelude.{ℕ, nat_lt, ◌==◌, List, Bool, not, ◌&&◌, min, max}
use Rattle.arr_ops.specs.declared.op.Op.{Op}
use Rattle.arr_ops.specs.Ops.{fusible}
use Rattle.arr_deps.specs.Graph.{leads_to, op_at}

-- both are numbers, and different ones
abbrev pub two_numbers : ℕ → ℕ → Bool
two_numbers i j = nat_lt 0 i && (nat_lt 0 j && not (i == j))

-- the two operations may share a block
abbrev pub fuses_at : List Op → ℕ → ℕ → Bool
fuses_at list i j = two_numbers i j && fusible (op_at list (min i j)) (op_at list (max i j))

-- the one leads the other
abbrev pub deps_at : List Op → ℕ → ℕ → Bool
deps_at list i j = two_numbers i j && leads_to list i j
