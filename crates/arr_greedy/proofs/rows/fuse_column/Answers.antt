use Rattle.arr_greedy.specs.Fast.{flag}
use Rattle.arr_greedy.proofs.Cells.{column_step}
use Rattle.arr_greedy.proofs.rows.fuse_column.Goals as goal

pub loop-row-preserved : goal.loop-row-preserved
loop-row-preserved c =
    record {
      size = c.put.ensures.size;
      column = column_step (flag c.args.rows.now c.args.width) (flag c.loop-row.rows c.args.width) (flag c.put.new.rows c.args.width) c.args.width c.args.left c.args.right c.loop-row.row c.both_fuse-both.result
          c.loop-row-test.true c.requires.left_in c.requires.right_in c.loop-row.invariant.column c.both_fuse-both.ensures c.put.ensures.put;
    }
