-- The results of a walked block's reductions.
use Rattle.std.specs.Prelude.{ℕ, ℤ, List, not, map, Option}
use Rattle.std.specs.List.{AllByRecursion, filter, range_with_len}
use Rattle.arr_view.specs.Strided.{Strided}
use Rattle.arr_ops.specs.declared.op.Op.{Op}
use Rattle.arr_ops.specs.Costs.{total, weight}
use Rattle.arr_ops.specs.Memory.{Cell}
use Rattle.arr_ops.specs.Ops.{freed_by}
use Rattle.arr_contract.specs.Prepared.{PreparedBlock}
use Rattle.arr_strips.specs.Blocks.{fold_stores}
use Rattle.arr_strips.specs.Columns.{count, fold_outs, folds_to}
use Rattle.arr_strips.specs.Strips.{Bases, kept, put_out}
use Rattle.arr_strips.specs.Sums.{closed_by}
use Rattle.arr_sums.specs.Kept.{kept_at}
use Rattle.arr_machine.specs.Kept.{kept_from}
use Rattle.arr_machine.specs.Ports.{IsThere}

-- number l of those that a block keeps for its operation j
abbrev pub sum_kept : List Op → List ℤ → ℕ → ℕ → ℤ
sum_kept ops numbers j l = kept_at numbers (kept_from ops j) l

-- the output of a reduction, unless its block frees the base
abbrev pub sum_views : List Op → Op → List Strided
sum_views ops op = filter (λ (v : Strided). not (freed_by ops v.base)) (fold_outs op)

-- the bases of the views are there, and the views lie inside
abbrev pub AreThere : List Op → (ℕ → Option Cell) → List Strided → Type 0
AreThere ops f vs = AllByRecursion (IsThere ops f) vs

-- the bases with the results that a block keeps for its operation j, unless it frees their base
abbrev pub with_sum : PreparedBlock → Op → ℕ → Bases → Bases
with_sum p op j f = put_out (kept p.ops (folds_to op)) (map (sum_kept p.ops p.numbers j) (range_with_len 0 (count op))) f

-- the bases with the results of all reductions of the block
abbrev pub with_sums : PreparedBlock → Bases → Bases
with_sums p f = closed_by p.ops 0 p.ops (sum_kept p.ops p.numbers) f

-- how many bytes that stores for one reduction, and for all
abbrev pub sum_bytes : List Op → Op → ℕ
sum_bytes ops op = total (weight ops) (sum_views ops op)

abbrev pub fold_bytes : List Op → ℕ
fold_bytes ops = total (weight ops) (fold_stores ops)
