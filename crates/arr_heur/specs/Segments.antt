-- Stretches of a numbered list.
use Rattle.std.specs.Prelude.{ℕ, ◌-◌, List, take, drop}
use Rattle.arr_ops.specs.declared.op.Op.{Op}

-- those from a place up to another, places being counted from 0
abbrev pub segment : List (ℕ × Op) → ℕ → ℕ → List (ℕ × Op)
segment xs start end = take (end - start) (drop start xs)
