-- A block by columns: for each position of the walk, a number for each view.
use Rattle.std.specs.Prelude.{ℕ, zero, ℤ, pos, ◌+◌, ◌*◌, ◌/◌, ◌%◌, suc, List, [], ◌∷◌, Bool, cond, not, ◌||◌, ◌&&◌, map, get_or, drop, replicate, Option, Some, None}
use Rattle.std.specs.List.{range_with_len, list_any}
use Rattle.std.specs.Option.{option_to_list}
use Rattle.arr_view.specs.Strided.{Strided}
use Rattle.arr_view.specs.Views.{elements, positions, identical, has}
use Rattle.arr_num.specs.Kinds.{Kind, Scan, kind, is_reduction}
use Rattle.arr_num.specs.Numbers.{value, fold_start}
use Rattle.arr_num.specs.declared.code.Code.{Code}
use Rattle.arr_num.specs.declared.code.Code.TheVariants.{Range}
use Rattle.arr_ops.specs.declared.op.Op.{Op}
use Rattle.arr_ops.specs.declared.op.Operand.{Operand}
use Rattle.arr_ops.specs.declared.op.Operand.TheVariants.{Array, Number}
use Rattle.arr_ops.specs.Memory.{Memory, Cell, Slot, slot_after, lengths_of, out_lengths, or_zero, folded}
use Rattle.arr_store.specs.Cells.{number_at}
use Rattle.arr_ops.specs.Ops.{freed, freed_by, makes_base}

-- ---- one number of a memory

abbrev pub peek : Memory → ℕ → ℕ → ℤ
peek m b e = number_at (m.bases b) e

-- the place of a view at a position, and its number there
abbrev pub place_at : Strided → ℕ → ℕ
place_at v p = get_or (elements v) p 0

abbrev pub look : Memory → Strided → ℕ → ℤ
look m v p = peek m v.base (place_at v p)

-- ---- columns

abbrev pub Row : Type 0
Row = Strided → ℤ

abbrev pub Columns : Type 0
Columns = ℕ → Row

abbrev pub taken : Row → Option Operand → ℤ
taken h None = pos 0
taken h (Some (Number z)) = z
taken h (Some (Array v)) = h v

-- RANGE takes the position
abbrev pub first_taken : Code → ℕ → Row → Option Operand → ℤ
first_taken Range p h o = pos p
first_taken _ p h o = taken h o

-- the fold of the first k numbers
abbrev pub fold_upto : (ℤ → ℤ → ℤ) → ℤ → (ℕ → ℤ) → ℕ → ℤ
fold_upto f z g zero = z
fold_upto f z g (suc k) = f (fold_upto f z g k) (g k)

-- where the number j of the lane of position p stands, along an axis of length n with `inner` positions after it
abbrev pub lane_place : ℕ → ℕ → ℕ → ℕ → ℕ
lane_place n inner p j = (p / inner / n * n + j) * inner + p % inner

-- the fold along its lane up to and with a position
abbrev pub scan_at : (ℤ → ℤ → ℤ) → ℤ → ℕ → ℕ → (ℕ → ℤ) → ℕ → ℤ
scan_at f z n inner xs p = fold_upto f z (λ j. xs (lane_place n inner p j)) (suc (p / inner % n))

abbrev pub scan_of : Op → List ℕ → ℕ → (ℕ → ℤ) → ℕ → ℤ
scan_of op lengths axis xs p = scan_at (value op.code op.to) (fold_start op.code op.to) (get_or lengths axis 1) (positions (drop (suc axis) lengths)) xs p

abbrev pub column_of : Kind → Op → Columns → ℕ → ℤ
column_of Scan op h p = scan_of op (lengths_of op.first) (or_zero op.axis) (λ q. taken (h q) op.first) p
column_of k op h p = value op.code op.to (first_taken op.code p (h p) op.first) (taken (h p) op.second)

-- what an operation computes at a position, from the columns before it
abbrev pub column : Op → Columns → ℕ → ℤ
column op h p = column_of (kind op.code) op h p

-- the numbers of a row after the output has one of its own; identical views have the same number
abbrev pub assigned : Option Strided → ℤ → Row → Row
assigned None x h v = h v
assigned (Some o) x h v = cond (identical o v) x (h v)

-- the output that is a column of the walk; a reduction's output has positions of its own, and is none
abbrev pub fills : Op → Option Strided
fills op = cond (is_reduction op.code) None op.out

abbrev pub filled : Op → List Strided
filled op = option_to_list (fills op)

-- the output of a reduction
abbrev pub folds_to : Op → Option Strided
folds_to op = cond (is_reduction op.code) op.out None

abbrev pub fold_outs : Op → List Strided
fold_outs op = option_to_list (folds_to op)

-- how many positions the output has
abbrev pub count : Op → ℕ
count op = positions (out_lengths op.out)

abbrev pub next : Op → Columns → Columns
next op h p = assigned (fills op) (column op h p) (h p)

abbrev pub ends : List Op → Columns → Columns
ends [] h = h
ends (op ∷ ops) h = ends ops (next op h)

-- ---- which views have their number in their column

abbrev pub Live : Type 0
Live = Strided → Bool

abbrev pub live_after : Op → Live → Live
live_after op live v = not (has (freed op) v.base) && (list_any (λ o. identical o v) (filled op) || live v)

abbrev pub live_end : List Op → Live → Live
live_end [] live = live
live_end (op ∷ ops) live = live_end ops (live_after op live)

-- ---- slots

-- a SYNC shows its column at its own point of the list
abbrev pub slots_end : ℕ → List Op → Columns → ℕ → Option Slot → Option Slot
slots_end n [] h s c = c
slots_end n (op ∷ ops) h s c =
    slots_end n ops (next op h) s (slot_after op.slot (record { elem = op.from; lengths = lengths_of op.first; numbers = map (λ p. taken (h p) op.first) (range_with_len 0 n) }) s c)

-- ---- reductions

-- its results, from the columns at its own point of the list
abbrev pub results_at : ℕ → Op → Columns → List ℤ
results_at n op h = folded (value op.code op.to) (fold_start op.code op.to) (lengths_of op.first) (or_zero op.axis) (map (λ p. taken (h p) op.first) (range_with_len 0 n))

-- ---- buffers

-- a base that the block creates holds zeros when its walk begins
abbrev pub opened_by : Op → ℕ → Option Cell → Option Cell
opened_by op b c = cond (makes_base op b) (Some (record { elem = op.to; numbers = replicate (count op) (pos 0) })) c

abbrev pub opening : List Op → ℕ → Option Cell → Option Cell
opening [] b c = c
opening (op ∷ ops) b c = opening ops b (opened_by op b c)

-- what `open` leaves: a base that the block frees keeps what it had, so a contracted one is not there
abbrev pub opened : List Op → Memory → ℕ → Option Cell
opened ops m b = cond (freed_by ops b) (m.bases b) (opening ops b (m.bases b))

-- without the bases that the block frees
abbrev pub dropped : List Op → (ℕ → Option Cell) → ℕ → Option Cell
dropped ops f b = cond (freed_by ops b) None (f b)
