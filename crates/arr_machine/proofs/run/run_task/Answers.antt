use Rattle.std.proofs.Common.{subst}
use Rattle.arr_store.specs.Slots.{slots_of}
use Rattle.arr_store.specs.Stored.{cells}
use Rattle.arr_lanes.specs.Lanes.{held}
use Rattle.arr_machine.specs.Tasks.{IsTask}
use Rattle.arr_machine.proofs.Blocks.{item_at}
use Rattle.arr_machine.proofs.Shows.{nothing_stands}
use Rattle.arr_machine.proofs.run.run_task.Goals as goal

pub returns-in-Nothing-clause-stands : goal.returns-in-Nothing-clause-stands
returns-in-Nothing-clause-stands c =
    let op = item_at c.args.ops.now c.args.index c.requires.there in
    nothing_stands c.args.ops.now c.args.strip.position c.args.strip.count c.args.strip.room c.requires.strip c.args.index op.0 c.requires.there op.1
    (subst (IsTask c.args.ops.now c.args.strip.room c.args.lanes.now c.args.index op.0) c.in-Nothing.is (c.requires.task op.0 op.1)) (held c.args.lanes.now c.args.places.now (cells c.args.store.now)) c.args.numbers.now (slots_of c.args.slots.now)
