use Rattle.std.proofs.Common.{◌≡◌, ◌+◌, ◌-◌, ◌*◌, ◌≤◌, ℕ, Option, length, true}
use Rattle.arr_ops.specs.Costs.{reads, total}
use Rattle.arr_ops.specs.Fits.{fits}
use Rattle.arr_ops.specs.Memory.{Memory, Slot}
use Rattle.arr_store.specs.Cells.{width_at}
use Rattle.arr_store.specs.Slots.{slots_of}
use Rattle.arr_store.specs.Stored.{cells}
use Rattle.arr_strips.specs.Blocks.{stores}
use Rattle.arr_strips.specs.Strips.{outline}
use Rattle.arr_machine.specs.Kept.{TypedKept}
use Rattle.arr_machine.specs.Machines.{IsMachineOf, Walks}
use Rattle.arr_machine.specs.Shown.{SlotsMatch}
use Rattle.arr_machine.proofs.walk.Machine.walk.Given as goal

abbrev pub invariant-loop-at : goal.invariant-loop-at
invariant-loop-at l =
    record {
      below : l.at ≤ l.positions;
      walks : (m : Memory) (start : ℕ → Option Slot) → fits m l.ops ≡ true → Walks l.ops m start 0 (cells l.fn.store) l.fn.numbers (slots_of l.fn.slots) → Walks l.ops m start l.at (cells l.store) l.numbers (slots_of l.slots);
      machine : IsMachineOf l.ops l.self;
      same : (b : ℕ) → outline (cells l.store b) ≡ outline (cells l.fn.store b);
      long : length l.numbers ≡ length l.fn.numbers;
      kept : TypedKept l.ops l.numbers;
      slots : SlotsMatch l.ops (slots_of l.slots);
      loads : l.store.loads ≡ l.fn.store.loads + l.at * total (λ v. width_at (cells l.fn.store v.base)) (reads l.ops);
      saves : l.store.stores ≡ l.fn.store.stores + l.at * total (λ v. width_at (cells l.fn.store v.base)) (stores l.ops);
      made : l.store.made ≡ l.fn.store.made;
      room : l.self.room ≡ l.fn.self.room;
    }

abbrev pub decreases-loop-at : goal.decreases-loop-at
decreases-loop-at l = l.positions - l.at
