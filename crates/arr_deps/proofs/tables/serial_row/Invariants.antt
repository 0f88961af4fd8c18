use Rattle.arr_ops.specs.Ops.{serial}
use Rattle.arr_deps.specs.Graph.{nothing}
use Rattle.arr_deps.proofs.RowsBy.{Row}
use Rattle.arr_deps.proofs.tables.serial_row.Given as goal

abbrev pub invariant-loop-place : goal.invariant-loop-place
invariant-loop-place l = Row serial nothing l.ops l.place l.row
