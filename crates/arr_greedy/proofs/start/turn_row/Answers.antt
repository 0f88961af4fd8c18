use Rattle.std.proofs.Common.{◌≤◌, arith}
use Rattle.arr_greedy.specs.Bits.{bit, columns}
use Rattle.arr_greedy.proofs.Filling.{turn_step}
use Rattle.arr_greedy.proofs.start.turn_row.Goals as goal

pub loop-column-preserved : goal.loop-column-preserved
loop-column-preserved c =
    let least : 1 ≤ c.loop-column.column = c.loop-column.auto.column in
    record {
      size = c.put_bit.ensures.size;
      turned = turn_step (bit c.args.rows.now c.args.width) (bit c.args.turned.now c.args.width) (bit c.loop-column.turned c.args.width) (bit c.put_bit.new.rows c.args.width) c.args.width (columns c.args.width) c.args.row c.loop-column.column c.has-flag.result
          (omega arith) c.has-flag.ensures c.loop-column.invariant.turned c.put_bit.ensures.put;
    }
