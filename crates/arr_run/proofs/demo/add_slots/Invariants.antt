use Rattle.std.proofs.Common.{◌≤◌, ◌+◌, take}
use Rattle.arr_store.specs.Slots.{slots_of}
use Rattle.arr_run.specs.Summing.{Adds, shown_slots}
use Rattle.arr_run.proofs.demo.add_slots.Given as goal

abbrev pub invariant-loop-op : goal.invariant-loop-op
invariant-loop-op l = record {
  adds : Adds l.initial.totals l.totals (shown_slots (slots_of l.slots) (take l.op-index l.ops));
  few : l.totals.count ≤ l.initial.totals.count + l.op-index;
}
