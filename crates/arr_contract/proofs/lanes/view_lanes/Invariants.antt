use Rattle.std.proofs.Common.{◌≡◌, map, take}
use Rattle.arr_store.specs.Buffers.{cell_of}
use Rattle.arr_contract.specs.Making.{view_cells}
use Rattle.arr_contract.proofs.lanes.view_lanes.Given as goal

abbrev pub invariant-loop-view : goal.invariant-loop-view
invariant-loop-view l = map cell_of l.lanes.items ≡ view_cells l.ops l.room (take l.view-index l.views)
