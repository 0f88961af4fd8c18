use Rattle.std.proofs.Common.{◌≡◌, take}
use Rattle.std.specs.List.{flat_map}
use Rattle.arr_ops.specs.Ops.{views}
use Rattle.arr_ops.proofs.copies.all_views.Given as goal

abbrev pub invariant-loop-op : goal.invariant-loop-op
invariant-loop-op l = l.all.items ≡ flat_map views (take l.op-index l.ops)
