-- Legal plans, and what running one block after another leaves.
use Rattle.std.specs.Prelude.{ℕ, suc, nat_lt, nat_le, ◌==◌, List, [], ◌∷◌, Bool, true, false, cond, not, ◌&&◌, ◌||◌, length}
use Rattle.std.specs.List.{list_all, enumerate_from}
use Rattle.arr_view.specs.Views.{has}
use Rattle.arr_ops.specs.Ops.{dep, fusible}
use Rattle.arr_ops.specs.Formed.{all_pairs}
use Rattle.arr_ops.specs.Memory.{Memory, eager}
use Rattle.arr_ops.specs.declared.op.Op.{Op}

-- each operation with its number, from 1
abbrev pub numbered : List Op → List (ℕ × Op)
numbered list = enumerate_from 1 list

-- how many blocks have the number
abbrev pub holders : List (List ℕ) → ℕ → ℕ
holders [] i = 0
holders (block ∷ blocks) i = cond (has block i) (suc (holders blocks i)) (holders blocks i)

-- how many blocks stand before the first that has the number
abbrev pub place : List (List ℕ) → ℕ → ℕ
place [] i = 0
place (block ∷ blocks) i = cond (has block i) 0 (suc (place blocks i))

-- the operations of a block, in the order of the list
abbrev pub ops_of : List (ℕ × Op) → List ℕ → List Op
ops_of [] block = []
ops_of (x ∷ xs) block = cond (has block x.0) (x.1 ∷ ops_of xs block) (ops_of xs block)

abbrev pub eager_blocks : Memory → List (ℕ × Op) → List (List ℕ) → Memory
eager_blocks m xs [] = m
eager_blocks m xs (block ∷ blocks) = eager_blocks (eager m (ops_of xs block)) xs blocks

abbrev pub pair_legal : List (List ℕ) → ℕ × Op → ℕ × Op → Bool
pair_legal plan f g =
    (not (place plan f.0 == place plan g.0) || fusible f.1 g.1)
    && (not (dep f.1 g.1) || nat_le (place plan f.0) (place plan g.0))

abbrev pub not_empty : List ℕ → Bool
not_empty [] = false
not_empty (x ∷ xs) = true

abbrev pub is_legal : List Op → List (List ℕ) → Bool
is_legal list plan =
    list_all (λ block. not_empty block && list_all (λ i. nat_lt 0 i && nat_le i (length list)) block) plan
    && (list_all (λ (x : ℕ × Op). holders plan x.0 == 1) (numbered list) && all_pairs (pair_legal plan) (numbered list))

-- each number above the one before it
abbrev pub ascends : List ℕ → Bool
ascends [] = true
ascends (i ∷ []) = true
ascends (i ∷ j ∷ is) = nat_lt i j && ascends (j ∷ is)
