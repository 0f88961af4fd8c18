use Rattle.std.proofs.Common.{◌≡◌, true, drop}
use Rattle.std.specs.List.{list_any}
use Rattle.arr_ops.specs.declared.op.Op.{Op}
use Rattle.arr_listing.specs.Shown.{is_slot}
use Rattle.arr_listing.proofs.arrays.write_array.Given as goal

abbrev pub invariant-loop-op : goal.invariant-loop-op
invariant-loop-op g l = record {
  left : list_any (λ (op : Op). is_slot l.slot op.slot) (drop l.op-index l.ops) ≡ true;
  same : l.sink ≡ l.initial.sink;
}
