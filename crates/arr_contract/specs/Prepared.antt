-- What a contract sees of a block that is ready to run, and what holds of its operations.
use Rattle.std.specs.Prelude.{ℕ, ℤ, ◌/◌, min, max, List, [], ◌∷◌, ◌++◌, Bool, IsTrue, ◌&&◌, not, cond, true, false, is_some, Option, Some}
use Rattle.std.specs.List.{find, flat_map, fold, list_all, list_any}
use Rattle.std.specs.Option.{option_to_list}
use Rattle.arr_num.specs.declared.code.Code.{Code}
use Rattle.arr_num.specs.declared.code.Code.TheVariants.{Identity}
use Rattle.arr_num.specs.Numbers.{width}
use Rattle.arr_view.specs.Strided.{Strided}
use Rattle.arr_ops.specs.declared.op.Op.{Op}
use Rattle.arr_ops.specs.Ops.{array_of, freed_by, fusible, serial}
use Rattle.arr_ops.specs.Formed.{all_pairs, each_inside, each_typed, may_precede, same_elem, well_formed}
use Rattle.arr_ops.specs.Plans.{is_legal}
use Rattle.arr_ops.specs.Traffic.{scratch}
use Rattle.arr_shift.specs.Shifts.{is_shift}
use Rattle.arr_strips.specs.Blocks.{block_positions}

-- its operations, in the order of the list, and the numbers that it keeps as scratch
pub record PreparedBlock : Type 0 where
  pub ops : List Op
  pub numbers : List ℤ

-- some legal plan of the list has the block
abbrev pub IsBlockOf : List Op → List ℕ → Type 0
IsBlockOf list block = (before : List (List ℕ)) × ((after : List (List ℕ)) × IsTrue (is_legal list (before ++ block ∷ after)))

-- what holds of the operations of such a block: each alone, each base, and each two of them
abbrev pub may_share_block : List Op → Bool
may_share_block ops =
    list_all well_formed ops && (each_inside ops && (each_typed ops && (all_pairs may_precede ops && all_pairs fusible ops)))

-- how many bytes a number of the widest type takes that operations read or give, at least 1
abbrev pub widest : List Op → ℕ
widest ops = fold max 1 (flat_map (λ (op : Op). width op.to ∷ width op.from ∷ []) ops)

-- how many positions a strip has at most: 4,096 bytes by the widest type, and no more than the block has positions, but at least 1
abbrev pub strip : List Op → ℕ
strip ops = max (min (4096 / widest ops) (block_positions ops)) 1

-- ---- a serial block that copies a view some places on

abbrev pub copies : Code → Bool
copies Identity = true
copies _ = false

-- the first operation that writes
abbrev pub writer : List Op → Option Op
writer ops = find (λ op. is_some op.out) ops

-- the output is the input some places on, in a base that the block keeps
abbrev pub is_moved : List Op → Option Strided → Option Strided → Bool
is_moved ops (Some o) (Some v) = is_shift o v && not (freed_by ops o.base)
is_moved ops _ _ = false

abbrev pub shifts : List Op → Op → Bool
shifts ops op = copies op.code && (same_elem op.to op.from && is_moved ops op.out (array_of op.first))

-- its serial operation copies a view of one type some places on
abbrev pub slides : List Op → Bool
slides ops = list_any serial ops && list_any (shifts ops) (option_to_list (writer ops))

-- how many numbers it keeps: as many as its scratch, but none where it copies a view some places on
abbrev pub kept_numbers : List Op → ℕ
kept_numbers ops = cond (slides ops) 0 (scratch ops)
