-- What a block keeps, loads and stores when it runs.
use Rattle.std.specs.Prelude.{ℕ, ◌+◌, ◌/◌, ◌||◌, not, cond, List, map, get_or, length}
use Rattle.std.specs.List.{list_any, filter, flat_map}
use Rattle.arr_num.specs.Kinds.{is_reduction, is_scan}
use Rattle.arr_view.specs.Strided.{Strided}
use Rattle.arr_view.specs.Views.{identical, positions, has}
use Rattle.arr_ops.specs.declared.op.Op.{Op}
use Rattle.arr_ops.specs.Ops.{outputs, views, serial, freed_by}
use Rattle.arr_ops.specs.Memory.{lengths_of, or_zero}
use Rattle.arr_ops.specs.Plans.{ops_of, numbered}
use Rattle.arr_ops.specs.Costs.{distinct, total, reads, writes, weight}

-- the bases that the operations create
abbrev pub created : List Op → List ℕ
created ops = flat_map (λ (op : Op). map (λ (o : Strided). o.base) (filter (λ _. op.makes) (outputs op))) ops

-- the bases whose creator and FREE are in the block
abbrev pub contracted : List Op → List ℕ
contracted ops = filter (freed_by ops) (created ops)

-- how many bases the list creates that no block contracts
abbrev pub buffers : List Op → List (List ℕ) → ℕ
buffers list plan = length (filter (λ b. not (list_any (λ block. has (contracted (ops_of (numbered list) block)) b) plan)) (created list))

-- the positions of the output
abbrev pub out_positions : Op → ℕ
out_positions op = total (λ (o : Strided). positions o.lengths) (outputs op)

-- the length of the axis that it folds along
abbrev pub axis_length : Op → ℕ
axis_length op = get_or (lengths_of op.first) (or_zero op.axis) 1

-- the numbers kept for an operation beside one for each view: the results of a reduction or of a serial operation, and for a scan
-- one running result for each line along its axis
abbrev pub kept_for : Op → ℕ
kept_for op = cond (is_reduction op.code || serial op) (out_positions op) 0 + cond (is_scan op.code) (out_positions op / axis_length op) 0

-- in elements
abbrev pub scratch : List Op → ℕ
scratch ops = length (distinct identical (flat_map views ops)) + total kept_for ops

-- in bytes
abbrev pub read_bytes : List Op → List ℕ → ℕ
read_bytes list block = total (weight list) (reads (ops_of (numbered list) block))

abbrev pub write_bytes : List Op → List ℕ → ℕ
write_bytes list block = total (weight list) (writes (ops_of (numbered list) block))
