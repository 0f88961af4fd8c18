use Rattle.std.proofs.Common.{◌≡◌, ℕ, ◌+◌, ◌-◌, ◌<◌, arith}
use Rattle.arr_greedy.specs.Bits.{bit, columns}
use Rattle.arr_greedy.specs.Start.{deps_at}
use Rattle.arr_greedy.proofs.Begun.{forward_at}
use Rattle.arr_greedy.proofs.Filling.{rows_step, clear_step}
use Rattle.arr_greedy.proofs.start.fill_rows.Goals as goal

pub loop-back-preserved : goal.loop-back-preserved
loop-back-preserved c =
    let less : c.loop-back.back < c.args.width = c.loop-back-test.true in
    let row : ℕ = (c.args.width - 1) - c.loop-back.back in
    let e : row + c.loop-back.back + 1 ≡ c.args.width = omega arith in
    record {
      size = c.fill_row.ensures.size;
      filled = rows_step (deps_at c.args.graph.now) (bit c.loop-back.rows c.args.width) (bit c.fill_row.new.rows c.args.width) c.args.width (columns c.args.width) row c.loop-back.back e (λ x y xm ym. forward_at c.args.graph.now x y) c.loop-back.invariant.filled c.fill_row.ensures.row;
      clear = clear_step (deps_at c.args.graph.now) (bit c.loop-back.rows c.args.width) (bit c.fill_row.new.rows c.args.width) c.args.width (columns c.args.width) row c.loop-back.back e c.loop-back.invariant.clear c.fill_row.ensures.row;
    }
