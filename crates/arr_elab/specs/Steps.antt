-- What the steps of a script print when each runs in turn.
use Rattle.std.specs.Prelude.{ℕ, suc, List, [], ◌∷◌, Option, Some, None, length}
use Rattle.std.specs.List.{flat_map, range_with_len}
use Rattle.std.specs.Option.{option_to_list}
use Rattle.arr_num.specs.declared.code.Code.{Code}
use Rattle.arr_num.specs.declared.code.Code.TheVariants.{Sync}
use Rattle.arr_ops.specs.declared.op.Op.{Op}
use Rattle.arr_ops.specs.Ops.{at_slot}
use Rattle.arr_ops.specs.Formed.{slot_numbers}
use Rattle.arr_ops.specs.Memory.{Memory, Slot, step, eager, empty}
use Rattle.arr_ops.specs.Gathers.{gathered, scattered}
use Rattle.arr_elab.specs.declared.step.Step.{Step}
use Rattle.arr_elab.specs.declared.step.Step.TheVariants.{Act, Gather, Scatter}

-- ---- slots

-- a SYNC gets the next slot
abbrev pub slot_from : ℕ → Code → Option ℕ
slot_from next Sync = Some next
slot_from next _ = None

-- so many slots are filled after an operation of the code
abbrev pub filled_after : ℕ → Code → ℕ
filled_after n Sync = suc n
filled_after n _ = n

-- the contents of the slots from 1 to a number
abbrev pub slots_to : ℕ → Memory → List Slot
slots_to count m = flat_map (λ s. option_to_list (m.slots s)) (range_with_len 1 count)

-- how many slots operations fill
abbrev pub slot_count : List Op → ℕ
slot_count ops = length (slot_numbers ops)

-- what a list prints
abbrev pub printed : Memory → List Op → List Slot
printed m ops = slots_to (slot_count ops) (eager m ops)

-- ---- eager execution

-- the memory so far, and how many slots are filled
pub record Progress : Type 0 where
  pub memory : Memory
  pub filled : ℕ

abbrev pub not_begun : Progress
not_begun = record { memory = empty; filled = 0 }

-- each step runs as it is reached
abbrev pub run_step : Progress → Step → Progress
run_step p (Act op) = record { memory = step p.memory (at_slot op (slot_from (suc p.filled) op.code)); filled = filled_after p.filled op.code }
run_step p (Gather g) = record { memory = gathered p.memory g; filled = p.filled }
run_step p (Scatter g) = record { memory = scattered p.memory g; filled = p.filled }
run_step p _ = p

abbrev pub run_steps : Progress → List Step → Progress
run_steps p [] = p
run_steps p (s ∷ steps) = run_steps (run_step p s) steps

abbrev pub shown : Progress → List Slot
shown p = slots_to p.filled p.memory

-- the arrays of a script: its steps in order from the empty memory, with nothing freed and nothing put off
abbrev pub eager_arrays : List Step → List Slot
eager_arrays steps = shown (run_steps not_begun steps)

-- how many operations, gathers and scatters there are
abbrev pub deeds : List Step → ℕ
deeds [] = 0
deeds (Act op ∷ steps) = suc (deeds steps)
deeds (Gather g ∷ steps) = suc (deeds steps)
deeds (Scatter g ∷ steps) = suc (deeds steps)
deeds (_ ∷ steps) = deeds steps
