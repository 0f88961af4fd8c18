use Rattle.std.proofs.Common.{◌∙◌}
use Rattle.arr_ops.specs.Ops.{fusible}
use Rattle.arr_deps.specs.Graph.{nothing}
use Rattle.arr_deps.proofs.RowsBy.{one_more, all_rows}
use Rattle.arr_deps.proofs.tables.fuse_rows.Goals as goal

pub loop-f-preserved : goal.loop-f-preserved
loop-f-preserved c =
    c.in_ok-push.ensures.items
    ∙ one_more fusible nothing c.args.ops.now c.loop-f.rows.items c.loop-f.f c.in_ok-row.row c.loop-f-test.true c.loop-f.invariant c.in_ok-row.ensures

pub returns : goal.returns
returns c = all_rows fusible c.args.ops.now c.loop-f.rows.items c.loop-f.f c.loop-f-test.false c.loop-f.invariant
