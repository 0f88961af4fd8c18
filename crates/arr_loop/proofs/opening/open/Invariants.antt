use Rattle.std.proofs.Common.{◌+◌, ◌≤◌, take}
use Rattle.arr_loop.specs.Opened.{OpenedFor}
use Rattle.arr_loop.proofs.opening.open.Given as goal

abbrev pub invariant-loop-op : goal.invariant-loop-op
invariant-loop-op l = record {
  opened : OpenedFor l.ops (take l.op-index l.ops) l.fn.store l.store;
  few : l.store.made ≤ l.fn.store.made + l.op-index;
}
