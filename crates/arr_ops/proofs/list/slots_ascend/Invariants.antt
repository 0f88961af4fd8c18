use Rattle.std.proofs.Common.{◌≡◌, ◌≤◌, ◌+◌, drop, length}
use Rattle.std.specs.List.{range_with_len}
use Rattle.arr_view.specs.Views.{same_lists}
use Rattle.arr_ops.specs.Formed.{slot_numbers, slots_ascend}
use Rattle.arr_ops.proofs.list.slots_ascend.Given as goal

abbrev pub invariant-loop-op : goal.invariant-loop-op
invariant-loop-op l = record {
  few : l.next ≤ l.op-index + 1;
  rest : same_lists (slot_numbers (drop l.op-index l.ops)) (range_with_len l.next (length (slot_numbers (drop l.op-index l.ops)))) ≡ slots_ascend l.ops;
}
