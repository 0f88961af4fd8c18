-- The blocks of legal plans, from the tests of formed lists and of plans.
use Rattle.std.specs.Prelude.{ℕ, List, [], ◌∷◌, Bool, not, ◌&&◌}
use Rattle.std.specs.List.{list_all, filter, flat_map}
use Rattle.arr_view.specs.Strided.{Strided}
use Rattle.arr_view.specs.Views.{positions, identical}
use Rattle.arr_ops.specs.declared.op.Op.{Op}
use Rattle.arr_ops.specs.Ops.{walked, serial, fusible, freed_by}
use Rattle.arr_ops.specs.Costs.{distinct}
use Rattle.arr_strips.specs.Columns.{filled, fold_outs}
use Rattle.arr_ops.specs.Formed.{well_formed, all_pairs, each_inside, may_precede}

-- the shape that the block walks: that of its first operation that walks one
abbrev pub first_shape : List (List ℕ) → List ℕ → List ℕ
first_shape [] rest = rest
first_shape (s ∷ ss) rest = s

abbrev pub block_shape : List Op → List ℕ
block_shape [] = []
block_shape (op ∷ ops) = first_shape (walked op) (block_shape ops)

abbrev pub block_positions : List Op → ℕ
block_positions ops = positions (block_shape ops)

-- the operations of a block of a legal plan, in the order of the list; none is serial
abbrev pub is_block : List Op → Bool
is_block ops =
    list_all well_formed ops && (each_inside ops && (all_pairs may_precede ops && (all_pairs fusible ops && list_all (λ f. not (serial f)) ops)))

-- the views that a walk stores, one of each kind: what fills a column, in a base that the block does not free
abbrev pub all_stores : List Op → List Strided
all_stores ops = flat_map (λ (op : Op). filter (λ (v : Strided). not (freed_by ops v.base)) (filled op)) ops

abbrev pub stores : List Op → List Strided
stores ops = distinct identical (all_stores ops)

-- the results of reductions that are written after the walk
abbrev pub fold_stores : List Op → List Strided
fold_stores ops = flat_map (λ (op : Op). filter (λ (v : Strided). not (freed_by ops v.base)) (fold_outs op)) ops
