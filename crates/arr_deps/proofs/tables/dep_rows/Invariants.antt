use Rattle.std.proofs.Common.{◌≡◌, take}
use Rattle.arr_ops.specs.Ops.{dep}
use Rattle.arr_deps.specs.Graph.{rows_by}
use Rattle.arr_deps.proofs.tables.dep_rows.Given as goal

abbrev pub invariant-loop-f : goal.invariant-loop-f
invariant-loop-f l = l.rows.items ≡ take l.f (rows_by dep l.ops)
