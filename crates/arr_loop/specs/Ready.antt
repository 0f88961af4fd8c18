-- From which stores and slots a block may run.
use Rattle.std.specs.Prelude.{◌≡◌, ◌==◌, ℕ, Bool, false, true, ◌&&◌, List, length, Option, Some, None}
use Rattle.std.specs.List.{list_all}
use Rattle.std.specs.Option.{option_to_list}
use Rattle.arr_view.specs.Views.{positions, same_lists}
use Rattle.arr_ops.specs.declared.op.Op.{Op}
use Rattle.arr_ops.specs.Fits.{fits}
use Rattle.arr_ops.specs.Formed.{same_elem}
use Rattle.arr_ops.specs.Memory.{Memory, Slot, eager, lengths_of, without_slots}
use Rattle.arr_ops.specs.Plans.{numbered, ops_of}
use Rattle.arr_store.specs.Slots.{slots_of}
use Rattle.arr_store.specs.Stored.{Stored, cells}
use Rattle.arr_loop.specs.Opened.{opened_for, unopened}

-- the memory that a store and slots are
abbrev pub memory : Stored → List Slot → Memory
memory store list = record { bases = cells store; slots = slots_of list }

-- the slot is there for the view that the operation shows
abbrev pub shows : Op → Option Slot → Bool
shows op None = false
shows op (Some s) = same_elem s.elem op.from && (same_lists s.lengths (lengths_of op.first) && (length s.numbers == positions (lengths_of op.first)))

-- the memory before a block was opened, with the slots as they are
abbrev pub before_open : List Op → Stored → List Slot → Memory
before_open ops store slots = record { bases = unopened ops (cells store); slots = slots_of slots }

-- each slot of the operations is there, as its operation shows it
abbrev pub AreShown : (ℕ → Option Slot) → List Op → Type 0
AreShown slots ops = list_all (λ (op : Op). list_all (λ s. shows op (slots s)) (option_to_list op.slot)) ops ≡ true

-- The block was opened: the memory before fits its operations, the bases that it creates and does not free hold zeros, those that it
-- creates and frees are not there, and its slots are there.
pub record IsOpen (ops : List Op) (store : Stored) (slots : List Slot) : Type 0 where
  pub fit : fits (without_slots (before_open ops store slots)) ops ≡ true
  pub opened : cells store ≡ opened_for ops ops (unopened ops (cells store))
  pub shown : AreShown (slots_of slots) ops

-- the memory that a block leaves which was opened: its operations run, one after another, on the memory before
abbrev pub left_by : List Op → Stored → List Slot → Memory
left_by ops store slots = eager (before_open ops store slots) ops

-- the memory that a block of a list leaves
abbrev pub after : List Op → List ℕ → Stored → List Slot → Memory
after list block store slots = eager (memory store slots) (ops_of (numbered list) block)
