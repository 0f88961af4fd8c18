-- What the walk of a block takes, and what it has done so far.
use Rattle.std.specs.Prelude.{ℕ, ℤ, ◌≡◌, ◌≤◌, true, List, Option, length}
use Rattle.arr_ops.specs.declared.op.Op.{Op}
use Rattle.arr_ops.specs.Costs.{reads}
use Rattle.arr_ops.specs.Fits.{fits}
use Rattle.arr_ops.specs.Memory.{Memory, Slot}
use Rattle.arr_strips.specs.Blocks.{block_positions, stores}
use Rattle.arr_strips.specs.Laws.{WalkedBlock}
use Rattle.arr_strips.specs.Strips.{Bases}
use Rattle.arr_store.specs.Slots.{slots_of}
use Rattle.arr_store.specs.Stored.{Stored, cells}
use Rattle.arr_lanes.specs.Spares.{HasRoom}
use Rattle.arr_machine.specs.Ports.{ArePorts}
use Rattle.arr_machine.specs.Standing.{Resting}
use Rattle.arr_machine.specs.Tasks.{AreTasks, TypedLanes}
use Rattle.arr_machine.specs.declared.walk.Machine.{Machine}

-- a machine has all that a block takes
pub record IsMachineOf (ops : List Op) (m : Machine) : Type 0 where
  pub positions : m.positions ≡ block_positions ops
  pub some : 1 ≤ m.room
  pub some_row : 1 ≤ m.row
  pub tasks : AreTasks ops m.room m.lanes.items m.tasks.items
  pub typed : TypedLanes ops m.room m.lanes.items
  pub places : length m.places.items ≡ length m.lanes.items
  pub spares : HasRoom m.room m.spares
  pub reads : ArePorts ops (reads ops) m.reads.items
  pub stores : ArePorts ops (stores ops) m.stores.items

-- from a memory, the block has walked the first p positions: bases are as the walk leaves them, and so is what it keeps and shows
abbrev pub Walks : List Op → Memory → (ℕ → Option Slot) → ℕ → Bases → List ℤ → (ℕ → Option Slot) → Type 0
Walks ops m start p bases numbers slots = (w : WalkedBlock ops m p bases) × Resting ops p w.begun start numbers slots

-- wherever a block that fits its memory had walked the first p positions, it has walked the first q
abbrev pub WalksOn : List Op → ℕ → ℕ → Stored → List ℤ → List Slot → Stored → List ℤ → List Slot → Type 0
WalksOn ops p q store numbers slots store' numbers' slots' =
    (m : Memory) (start : ℕ → Option Slot) → fits m ops ≡ true
    → Walks ops m start p (cells store) numbers (slots_of slots) → Walks ops m start q (cells store') numbers' (slots_of slots')
