-- Blocks by their places in a partition.
use Rattle.std.specs.Prelude.{ℕ, ◌<◌, ◌≤◌, nat_lt, List, [], Bool, true, not, cond, ◌&&◌, IsTrue, Option, None, Some, Vec, get_or, length, map}
use Rattle.std.specs.Global.{Global}
use Rattle.std.specs.List.{All, filter, list_any}
use Rattle.arr_ops.specs.declared.op.Op.{Op}
use Rattle.arr_ops.specs.Plans.{ascends, numbered}
use Rattle.arr_ops.specs.Order.{first_block, is_ready, leads, least_of, same_block}

-- the block at a place, counted from 0
abbrev pub block_in : List (List ℕ) → ℕ → List ℕ
block_in blocks place = get_or blocks place []

-- blocks in vectors, as lists
abbrev pub lists_of : List (Vec ℕ Global) → List (List ℕ)
lists_of blocks = map (λ b. b.items) blocks

-- the blocks at places
abbrev pub blocks_at : List (Vec ℕ Global) → List ℕ → List (List ℕ)
blocks_at blocks places = map (block_in (lists_of blocks)) places

-- each number is one of the first n, counted from 1
abbrev pub NumbersTo : ℕ → List ℕ → Type 0
NumbersTo n block = All (λ i. (0 < i) × (i ≤ n)) block

-- so in each block
abbrev pub AllNumbersTo : ℕ → List (Vec ℕ Global) → Type 0
AllNumbersTo n blocks = (k : ℕ) → k < length blocks → NumbersTo n (block_in (lists_of blocks) k)

-- the numbers of each block ascend
abbrev pub AllAscend : List (Vec ℕ Global) → Type 0
AllAscend blocks = (k : ℕ) → k < length blocks → IsTrue (ascends (block_in (lists_of blocks) k))

-- the block at a place is another than the one at a second place, and has to stand before it
abbrev pub stands_first : List Op → List (List ℕ) → ℕ → ℕ → Bool
stands_first list blocks other place = not (same_block (block_in blocks other) (block_in blocks place)) && leads (numbered list) (block_in blocks other) (block_in blocks place)

-- some block of those left has to
abbrev pub waits : List Op → List (List ℕ) → List ℕ → ℕ → Bool
waits list blocks left place = list_any (λ other. stands_first list blocks other place) left

-- its least number is below that of what was found, if anything was
abbrev pub comes_first : List (List ℕ) → Option ℕ → ℕ → Bool
comes_first blocks None place = true
comes_first blocks (Some found) place = nat_lt (least_of (block_in blocks place)) (least_of (block_in blocks found))

-- what was found is below a count
abbrev pub found_below : ℕ → Option ℕ → Bool
found_below n None = true
found_below n (Some found) = nat_lt found n

-- the block at a place if it comes before what was found and waits for none; else what was found
abbrev pub earlier_ready : List Op → List (List ℕ) → List ℕ → Option ℕ → ℕ → Option ℕ
earlier_ready list blocks left found place = cond (comes_first blocks found place && not (waits list blocks left place)) (Some place) found

-- of blocks the first that is ready among them
abbrev pub first_ready : List Op → List (List ℕ) → Option (List ℕ)
first_ready list blocks = first_block (is_ready (numbered list) blocks) blocks

-- the places of the blocks that are not the one at a place
abbrev pub others : List (List ℕ) → List ℕ → ℕ → List ℕ
others blocks left place = filter (λ other. not (same_block (block_in blocks other) (block_in blocks place))) left
