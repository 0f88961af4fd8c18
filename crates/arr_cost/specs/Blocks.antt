-- What a block touches outside itself, and what two as one save.
use Rattle.std.specs.Prelude.{ℕ, ◌≡◌, ◌+◌, List, ◌++◌, not}
use Rattle.std.specs.List.{filter}
use Rattle.arr_view.specs.Strided.{Strided}
use Rattle.arr_ops.specs.declared.op.Op.{Op}
use Rattle.arr_ops.specs.Costs.{block_cost}
use Rattle.arr_ops.specs.Ops.{creates, freed_by}

-- views of bases that the block does not create
abbrev pub not_created : List Op → List Strided → List Strided
not_created block views = filter (λ (v : Strided). not (creates block v.base)) views

-- views of bases that it does not free
abbrev pub not_freed : List Op → List Strided → List Strided
not_freed block views = filter (λ (v : Strided). not (freed_by block v.base)) views

-- one block in place of two saves so much
abbrev pub Saves : List Op → List ℕ → List ℕ → ℕ → Type 0
Saves list x y saved = block_cost list (x ++ y) + saved ≡ block_cost list x + block_cost list y
