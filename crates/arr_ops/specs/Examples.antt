-- Worked lists, by computation.
use Rattle.std.specs.Prelude.{ℕ, pos, ◌≡◌, refl, List, [], ◌∷◌, Bool, true, false, Option, Some, None, ◌==◌, cond}
use Rattle.arr_num.specs.declared.elem.Elem.TheVariants.{I64}
use Rattle.arr_num.specs.declared.code.Code.{Code}
use Rattle.arr_num.specs.declared.code.Code.TheVariants.{Add, Multiply, Identity, Range, AddReduce, Free, Sync}
use Rattle.arr_num.specs.Numbers.{value, wrap}
use Rattle.arr_view.specs.Strided.{Strided}
use Rattle.arr_view.specs.Views.{elements, overlap, identical}
use Rattle.arr_ops.specs.declared.op.Op.{Op}
use Rattle.arr_ops.specs.declared.op.Operand.{Operand}
use Rattle.arr_ops.specs.declared.op.Operand.TheVariants.{Array, Number}
use Rattle.arr_ops.specs.Ops.{dep, fusible}
use Rattle.arr_ops.specs.Memory.{eager, empty, results}
use Rattle.arr_ops.specs.Formed.{is_formed}
use Rattle.arr_ops.specs.Fits.{fits}
use Rattle.arr_ops.specs.Plans.{is_legal}
use Rattle.arr_ops.specs.Costs.{cost}
use Rattle.arr_ops.specs.Traffic.{contracted, buffers, scratch, read_bytes, write_bytes}
use Rattle.arr_ops.specs.Order.{ordered}

-- a whole base of one dimension
abbrev pub line : ℕ → ℕ → Strided
line b n = record { base = b; start = 0; lengths = n ∷ []; strides = cond (n == 1) (pos 0) (pos 1) ∷ [] }

-- n of its elements, from one on, with a stride
abbrev pub part : ℕ → ℕ → ℕ → ℕ → Strided
part b start n stride = record { base = b; start = start; lengths = n ∷ []; strides = pos stride ∷ [] }

abbrev pub operation : Code → Strided → Option Operand → Option Operand → Bool → Op
operation code out first second makes =
    record { code = code; to = I64; from = I64; out = Some out; first = first; second = second; axis = None; slot = None; frees = None; makes = makes }

abbrev pub sum_of : Strided → Strided → Op
sum_of out input =
    record { code = AddReduce; to = I64; from = I64; out = Some out; first = Some (Array input); second = None; axis = Some 0; slot = None; frees = None; makes = true }

abbrev pub free : ℕ → Op
free b = record { code = Free; to = I64; from = I64; out = None; first = None; second = None; axis = None; slot = None; frees = Some b; makes = false }

abbrev pub sync : Strided → ℕ → Op
sync v s = record { code = Sync; to = I64; from = I64; out = None; first = Some (Array v); second = None; axis = None; slot = Some s; frees = None; makes = false }

-- ---- b = a + 1, c = b * 2, printed: after a flush that made a, all in one block

abbrev pub counted : List Op
counted = operation Range (line 0 4) None None true ∷ []

abbrev pub chained : List Op
chained =
    operation Add (line 1 4) (Some (Array (line 0 4))) (Some (Number (pos 1))) true
    ∷ operation Multiply (line 2 4) (Some (Array (line 1 4))) (Some (Number (pos 2))) true
    ∷ free 1 ∷ sync (line 2 4) 1 ∷ free 0 ∷ free 2 ∷ []

abbrev pub all_six : List ℕ
all_six = 1 ∷ 2 ∷ 3 ∷ 4 ∷ 5 ∷ 6 ∷ []

counted_cost : (is_formed counted ≡ true) × (cost counted ((1 ∷ []) ∷ []) ≡ 32)
unfolding elements
counted_cost = (refl, refl)

chained_fits : (is_formed chained ≡ true) × (fits (eager empty counted) chained ≡ true)
unfolding elements results value wrap
chained_fits = (refl, refl)

-- it reads a and stores nothing, and makes no buffer
chained_traffic : (is_legal chained (all_six ∷ []) ≡ true) × (cost chained (all_six ∷ []) ≡ 32) × (contracted chained ≡ 1 ∷ 2 ∷ []) × (buffers chained (all_six ∷ []) ≡ 0)
    × (read_bytes chained all_six ≡ 32) × (write_bytes chained all_six ≡ 0) × (scratch chained ≡ 3)
unfolding elements
chained_traffic = (refl, refl, refl, refl, refl, refl, refl)

chained_prints : (eager (eager empty counted) chained).slots 1 ≡ Some (record { elem = I64; lengths = 4 ∷ []; numbers = pos 2 ∷ pos 4 ∷ pos 6 ∷ pos 8 ∷ [] })
unfolding elements results value wrap
chained_prints = refl

-- ---- a sum, and one more than it: its reader stands in a later block

abbrev pub summed : List Op
summed =
    operation Identity (line 0 1) (Some (Number (pos 7))) None true
    ∷ sum_of (line 1 1) (line 0 1)
    ∷ operation Add (line 2 1) (Some (Array (line 1 1))) (Some (Number (pos 1))) true
    ∷ sync (line 2 1) 1 ∷ free 0 ∷ free 1 ∷ free 2 ∷ []

abbrev pub summed_plan : List (List ℕ)
summed_plan = (1 ∷ 2 ∷ 5 ∷ []) ∷ (3 ∷ 4 ∷ 6 ∷ 7 ∷ []) ∷ []

summed_cost : (is_formed summed ≡ true) × (fits empty summed ≡ true) × (is_legal summed summed_plan ≡ true) × (cost summed summed_plan ≡ 16)
unfolding elements
summed_cost = (refl, refl, refl, refl)

summed_order : (is_legal summed ((1 ∷ 2 ∷ 3 ∷ 4 ∷ 5 ∷ 6 ∷ 7 ∷ []) ∷ []) ≡ false) × (ordered summed ((3 ∷ 4 ∷ 6 ∷ 7 ∷ []) ∷ (1 ∷ 2 ∷ 5 ∷ []) ∷ []) ≡ Some summed_plan)
unfolding elements
summed_order = (refl, refl)

-- ---- every second element from those between: the views share no element

abbrev pub striped : List Op
striped =
    operation Range (line 0 8) None None true
    ∷ operation Add (part 0 0 4 2) (Some (Array (part 0 1 4 2))) (Some (Number (pos 1))) false
    ∷ sync (part 0 1 4 2) 1 ∷ free 0 ∷ []

striped_cost : (is_formed striped ≡ true) × (is_legal striped ((1 ∷ []) ∷ (2 ∷ 3 ∷ 4 ∷ []) ∷ []) ≡ true) × (cost striped ((1 ∷ []) ∷ (2 ∷ 3 ∷ 4 ∷ []) ∷ []) ≡ 96)
unfolding elements
striped_cost = (refl, refl, refl)

-- ---- a step of heat on four by four: the inner square, and what stands above it

abbrev pub square : ℕ → Strided
square start = record { base = 0; start = start; lengths = 2 ∷ 2 ∷ []; strides = pos 4 ∷ pos 1 ∷ [] }

abbrev pub neighbours : Op
neighbours = operation Add (record { base = 1; start = 0; lengths = 2 ∷ 2 ∷ []; strides = pos 2 ∷ pos 1 ∷ [] }) (Some (Array (square 1))) (Some (Array (square 9))) true

abbrev pub written_back : Op
written_back = operation Identity (square 5) (Some (Array (record { base = 2; start = 0; lengths = 2 ∷ 2 ∷ []; strides = pos 2 ∷ pos 1 ∷ [] }))) None false

-- so the square is written after its neighbours are added up, in another block
heat_apart : (elements (square 5) ≡ 5 ∷ 6 ∷ 9 ∷ 10 ∷ []) × (overlap (square 1) (square 5) ≡ true) × (identical (square 1) (square 5) ≡ false) × (dep neighbours written_back ≡ true) × (fusible neighbours written_back ≡ false)
unfolding elements
heat_apart = (refl, refl, refl, refl, refl)
