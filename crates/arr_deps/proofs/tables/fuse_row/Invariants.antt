use Rattle.arr_ops.specs.Ops.{fusible}
use Rattle.arr_deps.specs.Graph.{nothing, op_in}
use Rattle.arr_deps.proofs.RowsBy.{Row}
use Rattle.arr_deps.proofs.tables.fuse_row.Given as goal

abbrev pub invariant-loop-place : goal.invariant-loop-place
invariant-loop-place l = Row (fusible (op_in l.ops l.f)) nothing l.ops l.place l.row
