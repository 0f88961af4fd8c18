-- Partitions, and the order of one.
use Rattle.std.specs.Prelude.{ℕ, zero, suc, nat_lt, nat_le, ◌≡◌, ◌==◌, ◌⊎◌, min, List, [], ◌∷◌, ◌||◌, ◌&&◌, Bool, not, cond, length, Option, Some, None, is_some, false}
use Rattle.std.specs.List.{list_any, list_all, filter}
use Rattle.std.specs.Option.{option_map}
use Rattle.arr_view.specs.Views.{has}
use Rattle.arr_ops.specs.declared.op.Op.{Op}
use Rattle.arr_ops.specs.Ops.{dep, fusible}
use Rattle.arr_ops.specs.Formed.{all_pairs}
use Rattle.arr_ops.specs.Plans.{numbered, holders, not_empty, ops_of}

-- one of a list
abbrev pub In : {X : Type 0} → X → List X → Type 0
In x [] = ⊥
In x (y ∷ ys) = (x ≡ y) ⊎ In x ys

-- some operation of the first block stands before one of the second and the two depend
abbrev pub leads : List (ℕ × Op) → List ℕ → List ℕ → Bool
leads [] block other = false
leads (x ∷ xs) block other = (has block x.0 && list_any (λ (y : ℕ × Op). has other y.0 && dep x.1 y.1) xs) || leads xs block other

-- the least number of a block
abbrev pub least_of : List ℕ → ℕ
least_of [] = 0
least_of (i ∷ []) = i
least_of (i ∷ is) = min i (least_of is)

abbrev pub same_block : List ℕ → List ℕ → Bool
same_block block other = least_of block == least_of other

-- no other block of those left has to stand before it
abbrev pub is_ready : List (ℕ × Op) → List (List ℕ) → List ℕ → Bool
is_ready xs left block = not (list_any (λ other. not (same_block other block) && leads xs other block) left)

-- the block with the lesser least number
abbrev pub earlier : List ℕ → Option (List ℕ) → List ℕ
earlier block None = block
earlier block (Some other) = cond (nat_lt (least_of other) (least_of block)) other block

-- of those that pass, the one with the least number
abbrev pub first_block : (List ℕ → Bool) → List (List ℕ) → Option (List ℕ)
first_block test [] = None
first_block test (block ∷ blocks) = cond (test block) (Some (earlier block (first_block test blocks))) (first_block test blocks)

-- the blocks one after another, each the first of those that are ready; none where none is ready
abbrev pub ordered_within : ℕ → List (ℕ × Op) → List (List ℕ) → Option (List (List ℕ))
ordered_within zero xs left = Some []
ordered_within (suc n) xs left =
    elim (first_block (is_ready xs left) left) as (λ _. Option (List (List ℕ))) [
      | None ↦ None
      | Some block ↦ option_map (λ blocks. block ∷ blocks) (ordered_within n xs (filter (λ other. not (same_block other block)) left))
    ]

-- a partition of the list in its order, where it has one
abbrev pub ordered : List Op → List (List ℕ) → Option (List (List ℕ))
ordered list blocks = ordered_within (length blocks) (numbered list) blocks

-- no block is empty, and each number of the list stands in one block, no other in any
abbrev pub is_partition : List Op → List (List ℕ) → Bool
is_partition list blocks =
    list_all (λ block. not_empty block && list_all (λ i. nat_lt 0 i && nat_le i (length list)) block) blocks
    && list_all (λ (x : ℕ × Op). holders blocks x.0 == 1) (numbered list)

-- the operations of each block may share it
abbrev pub each_fusible : List Op → List (List ℕ) → Bool
each_fusible list blocks = list_all (λ block. all_pairs fusible (ops_of (numbered list) block)) blocks

-- some order of the blocks is a legal plan
abbrev pub is_orderable : List Op → List (List ℕ) → Bool
is_orderable list blocks = each_fusible list blocks && is_some (ordered list blocks)
