use Rattle.std.proofs.Common.{arith}
use Rattle.arr_run.proofs.Stepped.{small_scatter}
use Rattle.arr_run.proofs.parts.run_scatter.Goals as goal

pub scatter-requires-clause-room_loads : goal.scatter-requires-clause-room_loads
scatter-requires-clause-room_loads c = let small = small_scatter c.args.op.now c.requires.lawful in omega (arith, small.index, small.values, c.requires.counts.loads)

pub scatter-requires-clause-room_stores : goal.scatter-requires-clause-room_stores
scatter-requires-clause-room_stores c = let small = small_scatter c.args.op.now c.requires.lawful in omega (arith, small.values, c.requires.counts.stores)

pub returns-in-Ok-clause-counts : goal.returns-in-Ok-clause-counts
returns-in-Ok-clause-counts c =
    let small = small_scatter c.args.op.now c.requires.lawful in
    record { loads = omega (arith, small.index, small.values, c.in-Ok.ensures.loads); stores = omega (arith, small.values, c.in-Ok.ensures.stores); made = omega (arith, c.scatter.ensures.made) }

pub returns-in-Ok-clause-rises : goal.returns-in-Ok-clause-rises
returns-in-Ok-clause-rises c = record { loads = c.in-Ok.ensures.loads; stores = c.in-Ok.ensures.stores; made = omega (arith, c.scatter.ensures.made) }
