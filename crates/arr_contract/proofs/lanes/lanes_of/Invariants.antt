use Rattle.std.proofs.Common.{◌≡◌, ◌++◌, map, take}
use Rattle.std.specs.List.{flat_map}
use Rattle.arr_store.specs.Buffers.{cell_of}
use Rattle.arr_contract.specs.Making.{constant_cells, view_cells}
use Rattle.arr_contract.proofs.lanes.lanes_of.Given as goal

abbrev pub invariant-loop-op : goal.invariant-loop-op
invariant-loop-op l = map cell_of l.lanes.items ≡ view_cells l.ops l.room l.views ++ flat_map (constant_cells l.room) (take l.op-index l.ops)
