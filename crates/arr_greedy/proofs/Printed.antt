-- Blocks with what they touch.
use Rattle.std.proofs.Common.{◌≡◌, ℕ, ◌<◌, List, [], ◌++◌, length, map, get_or, sym, subst}
use Rattle.std.proofs.lemmas.List.{get_or-map}
use Rattle.arr_ops.specs.declared.op.Op.{Op}
use Rattle.arr_ops.specs.Plans.{numbered}
use Rattle.arr_heur.specs.Planners.{union}
use Rattle.arr_heur.proofs.Saves.{union_ops}
use Rattle.arr_cost.specs.declared.footprints.Row.{Row}
use Rattle.arr_cost.specs.Footprints.{IsFootprint}
use Rattle.arr_cost.proofs.Prints.{same_print}
use Rattle.arr_greedy.specs.declared.merging.Block.{Block}
use Rattle.arr_greedy.specs.Blocks.{row_at}

abbrev pub numbers_in : Block → List ℕ
numbers_in b = b.numbers.items

-- the footprint of two blocks is that of their union
pub union_print : (list : List Op) (a b both : List ℕ) (rows : List Row) → both ≡ union (numbered list) a b → IsFootprint list (a ++ b) rows → IsFootprint list both rows
union_print list a b both rows e f = subst (λ (ns : List ℕ). IsFootprint list ns rows) (sym e) (same_print list (a ++ b) (union (numbered list) a b) rows (sym (union_ops list a b)) f)

pub row_is : (blocks : List Block) (k : ℕ) (d : Block) → k < length blocks → row_at (map numbers_in blocks) k ≡ (get_or blocks k d).numbers.items
row_is blocks k d l = get_or-map numbers_in blocks k d [] l
