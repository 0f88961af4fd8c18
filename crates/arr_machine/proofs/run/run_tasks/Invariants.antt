use Rattle.std.proofs.Common.{◌≤◌, ◌-◌, length}
use Rattle.arr_store.specs.Slots.{slots_of}
use Rattle.arr_store.specs.Stored.{cells}
use Rattle.arr_lanes.specs.Spares.{HasRoom}
use Rattle.arr_machine.specs.Shown.{SlotsMatch}
use Rattle.arr_machine.specs.Standing.{GoesOn, ReadyAt}
use Rattle.arr_machine.specs.Tasks.{Steady}
use Rattle.arr_machine.proofs.run.run_tasks.Given as goal

abbrev pub invariant-loop-index : goal.invariant-loop-index
invariant-loop-index l =
    record {
      inside : l.index ≤ length l.ops;
      stands : GoesOn l.ops l.strip l.places (cells l.store) 0 l.index l.fn.lanes l.fn.numbers l.fn.slots l.lanes l.numbers l.slots;
      ready : ReadyAt l.ops l.strip l.lanes l.places (cells l.store) l.numbers;
      steady : Steady l.ops l.strip.room l.fn.lanes l.lanes;
      spares : HasRoom l.strip.room l.spares;
      slots : SlotsMatch l.ops (slots_of l.slots);
    }

abbrev pub decreases-loop-index : goal.decreases-loop-index
decreases-loop-index l = length l.tasks - l.index
