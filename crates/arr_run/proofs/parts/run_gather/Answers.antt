use Rattle.std.proofs.Common.{arith}
use Rattle.arr_run.proofs.Stepped.{small_gather}
use Rattle.arr_run.proofs.parts.run_gather.Goals as goal

pub gather-requires-clause-room_loads : goal.gather-requires-clause-room_loads
gather-requires-clause-room_loads c = let small = small_gather c.args.op.now c.requires.lawful in omega (arith, small.index, small.out, c.requires.counts.loads)

pub gather-requires-clause-room_stores : goal.gather-requires-clause-room_stores
gather-requires-clause-room_stores c = let small = small_gather c.args.op.now c.requires.lawful in omega (arith, small.out, c.requires.counts.stores)

pub returns-in-Ok-clause-counts : goal.returns-in-Ok-clause-counts
returns-in-Ok-clause-counts c =
    let small = small_gather c.args.op.now c.requires.lawful in
    record { loads = omega (arith, small.index, small.out, c.in-Ok.ensures.loads); stores = omega (arith, small.out, c.in-Ok.ensures.stores); made = omega (arith, c.in-Ok.ensures.made) }

pub returns-in-Ok-clause-rises : goal.returns-in-Ok-clause-rises
returns-in-Ok-clause-rises c = record { loads = c.in-Ok.ensures.loads; stores = c.in-Ok.ensures.stores; made = c.in-Ok.ensures.made }
