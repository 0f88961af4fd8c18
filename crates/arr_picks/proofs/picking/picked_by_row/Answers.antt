use Rattle.std.proofs.Common.{arith}
use Rattle.arr_view.proofs.Checks.{lawful}
use Rattle.arr_view.proofs.Counting.{some_position}
use Rattle.arr_picks.proofs.picking.picked_by_row.Goals as goal

pub number_named-requires-clause-some : goal.number_named-requires-clause-some
number_named-requires-clause-some g c =
    let some = some_position c.args.view.now.lengths (lawful c.args.view.now c.positions-count.ensures.lawful).lengths in
    omega (arith, c.positions-count.ensures.value)
