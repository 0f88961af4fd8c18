-- The blocks that the code keeps, by their places.
use Rattle.std.specs.Prelude.{ℕ, ◌≡◌, ◌<◌, ◌≤◌, Bool, List, None, Option, get_or, length, map, max, min, true}
use Rattle.std.specs.List.{All}
use Rattle.arr_ops.specs.declared.op.Op.{Op}
use Rattle.arr_ops.specs.Plans.{numbered}
use Rattle.arr_cost.specs.Footprints.{IsFootprint}
use Rattle.arr_ops.specs.Order.{In}
use Rattle.arr_heur.specs.Planners.{merge, pairs, saving, union}
use Rattle.arr_greedy.specs.declared.merging.Block.{Block}
use Rattle.arr_greedy.specs.Bits.{bit}
use Rattle.arr_greedy.specs.Blocks.{live, row_at}
use Rattle.arr_greedy.specs.Tables.{AreTold}
use Rattle.arr_greedy.specs.Fast.{amount, block_at, covers, flag, may_merge}

-- the numbers of each, none where no block stands
abbrev pub rows_of : List Block → List (List ℕ)
rows_of blocks = map (λ b. b.numbers.items) blocks

-- those that stand
abbrev pub blocks_of : List Block → List (List ℕ)
blocks_of blocks = live (rows_of blocks)

-- the footprint of a block is that of its numbers
abbrev pub IsPrinted : List Op → Block → Type 0
IsPrinted list b = IsFootprint list b.numbers.items b.print

abbrev pub ArePrinted : List Op → List Block → Type 0
ArePrinted list blocks = All (IsPrinted list) blocks

-- a block has the numbers of two
abbrev pub IsUnion : List Op → Block → Block → Block → Type 0
IsUnion list a b both = both.numbers.items ≡ union (numbered list) a.numbers.items b.numbers.items

-- the numbers at two places, as one block
abbrev pub union_at : List Op → List Block → ℕ → ℕ → List ℕ
union_at list blocks a b = union (numbered list) (row_at (rows_of blocks) a) (row_at (rows_of blocks) b)

-- the blocks, once those of two keys are one
abbrev pub merged_at : List Op → List Block → ℕ → ℕ → List (List ℕ)
merged_at list blocks a b = merge (numbered list) (block_at a (blocks_of blocks)) (block_at b (blocks_of blocks)) (blocks_of blocks)

-- what one block in place of those of two keys saves
abbrev pub saving_at : List Op → List Block → ℕ → ℕ → ℕ
saving_at list blocks a b = saving list (block_at a (blocks_of blocks), block_at b (blocks_of blocks))

-- if two may be merged, the table has what they save, and the bound of the row is no less
abbrev pub IsPriced : List Op → List Block → List Bool → List ℕ → List ℕ → List ℕ → List (Option ℕ) → ℕ → ℕ → ℕ → Type 0
IsPriced list blocks fuses reaches keys saved bounds w x y =
    may_merge (flag fuses w) (bit reaches w) keys (x, y) ≡ true
    → (amount saved w x y ≡ saving_at list blocks x y) × (covers (get_or bounds x None) (amount saved w x y) ≡ true)

-- so for whatever keys the tables tell of
abbrev pub IsPricedOf : List Op → List Block → List Bool → List ℕ → List ℕ → List ℕ → List (Option ℕ) → ℕ → ℕ → ℕ → Type 0
IsPricedOf list blocks fuses reaches reached saved bounds w x y = (keys : List ℕ) → AreTold reaches reached w keys x y → IsPriced list blocks fuses reaches keys saved bounds w x y

-- so for each pair of a key and one of the keys from a place on, the lesser first
abbrev pub ArePriced : List Op → List Block → List Bool → List ℕ → List ℕ → List ℕ → List (Option ℕ) → ℕ → ℕ → ℕ → Type 0
ArePriced list blocks fuses reaches keys saved bounds w key from =
    (i : ℕ) → from ≤ i → i < length keys → IsPriced list blocks fuses reaches keys saved bounds w (min key (get_or keys i 0)) (max key (get_or keys i 0))

-- so for each two keys
abbrev pub AllPriced : List Op → List Block → List Bool → List ℕ → List ℕ → List ℕ → List (Option ℕ) → ℕ → Type 0
AllPriced list blocks fuses reaches keys saved bounds w = (p : ℕ × ℕ) → In p (pairs keys) → IsPriced list blocks fuses reaches keys saved bounds w p.0 p.1

-- what is so with some savings and bounds is so with others
abbrev pub PricesStay : List Op → List Block → List Bool → List ℕ → List ℕ → List (Option ℕ) → List ℕ → List (Option ℕ) → ℕ → Type 0
PricesStay list blocks fuses reaches saved bounds saved_after bounds_after w =
    (keys : List ℕ) (x y : ℕ) → x < w → y < w → IsPriced list blocks fuses reaches keys saved bounds w x y → IsPriced list blocks fuses reaches keys saved_after bounds_after w x y
