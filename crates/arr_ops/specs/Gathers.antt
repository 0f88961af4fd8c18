-- What reading and writing by an index do to the memory.
use Rattle.std.specs.Prelude.{ℕ, ℤ, pos, negsuc, ◌==◌, ◌≡◌, refl, List, [], ◌∷◌, Bool, true, not, ◌&&◌, cond, map, length, get_or, Option, Some, None, is_none, unsigned_abs}
use Rattle.std.specs.List.{list_all, range_with_len}
use Rattle.std.specs.Int.{int_rem_euclid}
use Rattle.arr_num.specs.declared.elem.Elem.{Elem}
use Rattle.arr_num.specs.declared.elem.Elem.TheVariants.{I64}
use Rattle.arr_view.specs.Strided.{Strided}
use Rattle.arr_view.specs.Views.{elements, is_view, same_lists, repeats}
use Rattle.arr_ops.specs.declared.gather.Gather.{Gather}
use Rattle.arr_ops.specs.declared.gather.Scatter.{Scatter}
use Rattle.arr_ops.specs.Memory.{Memory, Cell, changed, output_change, read}
use Rattle.arr_ops.specs.Formed.{is_whole}
use Rattle.arr_ops.specs.Fits.{Need, meets_need}

-- the position, from 0 to n - 1, that a number of an index names: its remainder by n
abbrev pub position_named : ℕ → ℤ → ℕ
position_named n i = unsigned_abs (int_rem_euclid i (pos n))

-- the numbers of a view
abbrev pub numbers_in : Memory → Strided → List ℤ
numbers_in m v = read (m.bases v.base) (elements v)

-- ---- reading by an index

abbrev pub picked : List ℤ → List ℤ → List ℤ
picked source index = map (λ i. get_or source (position_named (length source) i) (pos 0)) index

abbrev pub gathered : Memory → Gather → Memory
gathered m op =
    let xs : List ℤ = picked (numbers_in m op.source) (numbers_in m op.index) in
    record { bases = λ b. changed (output_change (Some op.out) true op.to xs b) (m.bases b); slots = m.slots }

-- ---- writing by an index

abbrev pub later : Option ℤ → Option ℤ → Option ℤ
later first None = first
later first (Some x) = Some x

-- the last of the values whose number of the index names position q of n
abbrev pub last_value : ℕ → ℕ → List ℤ → List ℤ → Option ℤ
last_value n q (i ∷ is) (x ∷ xs) = later (cond (position_named n i == q) (Some x) None) (last_value n q is xs)
last_value n q _ _ = None

abbrev pub value_or : Option ℤ → ℤ → ℤ
value_or None x = x
value_or (Some y) x = y

-- each position gets the last value that names it, and keeps its number where there is none
abbrev pub placed : List ℤ → List ℤ → List ℤ → List ℤ
placed target index values =
    let n : ℕ = length target in
    map (λ q. value_or (last_value n q index values) (get_or target q (pos 0))) (range_with_len 0 n)

abbrev pub scattered : Memory → Scatter → Memory
scattered m op =
    let xs : List ℤ = placed (numbers_in m op.target) (numbers_in m op.index) (numbers_in m op.values) in
    record { bases = λ b. changed (output_change (Some op.target) (not true) op.to xs b) (m.bases b); slots = m.slots }

-- ---- which of them there are, and from which memories they may run

-- its views are views, and the output is a whole base of the index's shape
abbrev pub is_gather : Gather → Bool
is_gather op = list_all is_view (op.out ∷ op.source ∷ op.index ∷ []) && (same_lists op.out.lengths op.index.lengths && is_whole op.out)

-- its views are views, index and values have one shape, and the target does not repeat
abbrev pub is_scatter : Scatter → Bool
is_scatter op = list_all is_view (op.target ∷ op.index ∷ op.values ∷ []) && (same_lists op.index.lengths op.values.lengths && not (repeats op.target))

abbrev pub need : Elem → Strided → Need
need t v = record { base = v.base; elem = t; places = elements v }

abbrev pub holds_all : Memory → List Need → Bool
holds_all m needs = list_all (λ (n : Need). meets_need (m.bases n.base) n) needs

-- source and index are there with their types, and the new base is not
abbrev pub gather_fits : Memory → Gather → Bool
gather_fits m op = holds_all m (need op.to op.source ∷ need op.of op.index ∷ []) && is_none (m.bases op.out.base)

-- target, index and values are there with their types
abbrev pub scatter_fits : Memory → Scatter → Bool
scatter_fits m op = holds_all m (need op.to op.target ∷ need op.of op.index ∷ need op.to op.values ∷ [])

-- ---- worked rows

abbrev pub row : ℕ → ℕ → Strided
row b n = record { base = b; start = 0; lengths = n ∷ []; strides = pos 1 ∷ [] }

-- base 0 holds the first list, base 1 the second and base 2 the third
abbrev pub three : List ℤ → List ℤ → List ℤ → Memory
three xs ys zs =
    let cell : List ℤ → Option Cell = λ ns. Some (record { elem = I64; numbers = ns }) in
    record { bases = λ b. cond (b == 0) (cell xs) (cond (b == 1) (cell ys) (cond (b == 2) (cell zs) None)); slots = λ s. None }

-- -1 names the last position
from_the_end : (gathered (three (pos 0 ∷ pos 10 ∷ pos 20 ∷ pos 30 ∷ pos 40 ∷ []) (negsuc 0 ∷ pos 0 ∷ pos 1 ∷ []) [])
    (record { out = row 3 3; source = row 0 5; index = row 1 3; to = I64; of = I64 })).bases 3
    ≡ Some (record { elem = I64; numbers = pos 40 ∷ pos 0 ∷ pos 10 ∷ [] })
unfolding elements
from_the_end = refl

-- three values for position 0: the last one stays
last_stays : (scattered (three (pos 0 ∷ pos 1 ∷ pos 2 ∷ pos 3 ∷ []) (pos 0 ∷ pos 0 ∷ pos 0 ∷ []) (pos 7 ∷ pos 8 ∷ pos 9 ∷ []))
    (record { target = row 0 4; index = row 1 3; values = row 2 3; to = I64; of = I64 })).bases 0
    ≡ Some (record { elem = I64; numbers = pos 9 ∷ pos 1 ∷ pos 2 ∷ pos 3 ∷ [] })
unfolding elements
last_stays = refl

-- target, index and values are one view: all is read before it is written
read_first : (scattered (three (pos 1 ∷ pos 2 ∷ pos 3 ∷ pos 4 ∷ []) [] [])
    (record { target = row 0 4; index = row 0 4; values = row 0 4; to = I64; of = I64 })).bases 0
    ≡ Some (record { elem = I64; numbers = pos 4 ∷ pos 1 ∷ pos 2 ∷ pos 3 ∷ [] })
unfolding elements
read_first = refl
