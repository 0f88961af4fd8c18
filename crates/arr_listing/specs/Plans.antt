-- How a list and its plan are written.
use Rattle.std.specs.Prelude.{ℕ, suc, ◌==◌, List, [], ◌∷◌, ◌++◌, cond, length, sum, codes, decimal}
use Rattle.arr_ops.specs.declared.op.Op.{Op}
use Rattle.arr_listing.specs.Texts.{numbers_text, op_text}

-- the number of the flush, how many operations were recorded, how many are left, how many blocks they make, and what these cost
unfoldable pub head_text : ℕ → ℕ → ℕ → ℕ → ℕ → List ℕ
head_text recorded number left blocks cost =
    codes "# flush " ++ decimal number ++ codes " recorded " ++ decimal recorded ++ codes " rewritten " ++ decimal left
    ++ codes " blocks " ++ decimal blocks ++ codes " cost " ++ decimal cost ++ codes "\n"

-- a line for each operation, with these numbers
abbrev pub ops_text : ℕ → List Op → List ℕ
ops_text number [] = []
ops_text number (op ∷ ops) = op_text number op ++ ops_text (suc number) ops

-- the line of a block: its number, its cost, and the numbers of its operations
unfoldable pub block_text : ℕ → ℕ → List ℕ → List ℕ
block_text number cost block = codes "# block " ++ decimal number ++ codes " cost " ++ decimal cost ++ codes " ops" ++ numbers_text block ++ codes "\n"

-- a line for each block, with its cost
abbrev pub blocks_text : ℕ → List (List ℕ) → List ℕ → List ℕ
blocks_text number (block ∷ blocks) (cost ∷ costs) = block_text number cost block ++ blocks_text (suc number) blocks costs
blocks_text number _ _ = []

-- a flush: a line of numbers, the rewritten list, and the blocks of its plan
unfoldable pub plan_text : ℕ → ℕ → List Op → List (List ℕ) → List ℕ → List ℕ
plan_text recorded number ops plan costs = head_text recorded number (length ops) (length plan) (sum costs) ++ ops_text 1 ops ++ blocks_text 1 plan costs

-- the bound below which no plan costs, the units spent, and whether the plan is as cheap as that
unfoldable pub bound_text : ℕ → ℕ → ℕ → List ℕ
bound_text cost bound units = codes "# bound " ++ decimal bound ++ codes " units " ++ decimal units ++ cond (bound == cost) (codes " optimal\n") (codes " budget\n")
