-- What is promised of the blocks of a list.
use Rattle.std.specs.Prelude.{ℕ, ◌≡◌, List, IsTrue}
use Rattle.arr_ops.specs.declared.op.Op.{Op}
use Rattle.arr_ops.specs.Costs.{reads, total, weight, writes}
use Rattle.arr_ops.specs.Formed.{is_formed}
use Rattle.arr_ops.specs.Plans.{numbered, ops_of}
use Rattle.arr_ops.specs.Traffic.{read_bytes, write_bytes}

-- what a block of a list reads and writes weighs what it weighs by the types of the block's own operations
abbrev pub BlocksWeigh : Type 0
BlocksWeigh =
    (list : List Op) (block : List ℕ) → IsTrue (is_formed list)
    → (read_bytes list block ≡ total (weight (ops_of (numbered list) block)) (reads (ops_of (numbered list) block)))
    × (write_bytes list block ≡ total (weight (ops_of (numbered list) block)) (writes (ops_of (numbered list) block)))
