use Rattle.std.proofs.Common.{◌≡◌, ◌+◌, ◌*◌, ◌≤◌, length, take}
use Rattle.std.specs.List.{flat_map}
use Rattle.arr_view.specs.Views.{identical}
use Rattle.arr_ops.specs.Ops.{views}
use Rattle.arr_ops.specs.Costs.{distinct, total}
use Rattle.arr_ops.specs.Traffic.{kept_for}
use Rattle.arr_contract.proofs.scratch.scratch.Given as goal

abbrev pub invariant-loop-op : goal.invariant-loop-op
invariant-loop-op l = record {
  value : l.count ≡ length (distinct identical (flat_map views l.block)) + total kept_for (take l.op-index l.block);
  few : l.count ≤ 768 + l.op-index * 2097152;
}
