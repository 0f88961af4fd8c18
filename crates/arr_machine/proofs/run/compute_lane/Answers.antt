use Rattle.std.proofs.Common.{◌+◌, ◌≤◌, arith}
use Rattle.arr_store.specs.Stored.{cells}
use Rattle.arr_strips.specs.Blocks.{block_positions}
use Rattle.arr_strips.specs.Registers.{line_value}
use Rattle.arr_lanes.specs.Lanes.{held, registers, shown}
use Rattle.arr_lanes.proofs.Places.{becomes_held}
use Rattle.arr_machine.proofs.Blocks.{item_at}
use Rattle.arr_machine.proofs.Few.{few_block}
use Rattle.arr_machine.proofs.Lent.{behind_own, own_written}
use Rattle.arr_machine.proofs.Lines.{dest_below, dest_typed, dest_written, line_fits, line_held, ready_one, steady_one}
use Rattle.arr_machine.proofs.run.compute_lane.Goals as goal

pub run_line-requires-clause-fits : goal.run_line-requires-clause-fits
run_line-requires-clause-fits c =
    let op = item_at c.args._ops.now c.args._index c.requires.there in
    line_fits c.args._ops.now c.args.strip.position c.args.strip.count c.args.strip.room c.requires.strip c.args._index op.0 c.requires.there op.1 c.args.line c.args.lanes.now (c.requires.task op.0 op.1) c.requires.ready.typed

pub run_line-requires-clause-few : goal.run_line-requires-clause-few
run_line-requires-clause-few c =
    let few : block_positions c.args._ops.now ≤ 1048576 = few_block c.args._ops.now c.requires.strip.block in
    let inside : c.args.strip.position + c.args.strip.count ≤ block_positions c.args._ops.now = c.requires.strip.inside in
    omega arith

pub returns-clause-stands : goal.returns-clause-stands
returns-clause-stands c slots =
    let op = item_at c.args._ops.now c.args._index c.requires.there in
    line_held c.args._ops.now c.args.strip.position c.args.strip.count c.args.strip.room c.requires.strip c.args._index op.0 c.requires.there op.1 c.args.line c.args.lanes.now (c.requires.task op.0 op.1) c.requires.ready.typed
    (held c.args.lanes.now c.args.places.now (cells c.args.store.now)) (held c.run_line.new.lanes c.args.places.now (cells c.args.store.now))
    (behind_own c.args._ops.now c.args.places.now c.requires.ready.own c.args.lanes.now (cells c.args.store.now))
    (becomes_held c.args.line.to c.args.strip.room c.args.strip.count c.args.line.dest (λ i. line_value (c.args.strip.position + i) (registers (held c.args.lanes.now c.args.places.now (cells c.args.store.now)) i) (shown c.args.line)) c.args.lanes.now c.run_line.new.lanes
    c.args.places.now (cells c.args.store.now) c.run_line.ensures.lanes
    (own_written c.args._ops.now c.args.places.now c.requires.ready.own c.args.line.dest
    (dest_written c.args._ops.now c.args.strip.position c.args.strip.count c.args.strip.room c.requires.strip c.args._index op.0 c.requires.there op.1 c.args.line c.args.lanes.now (c.requires.task op.0 op.1) c.requires.ready.typed)))
    c.args._numbers.now slots

pub returns-clause-steady : goal.returns-clause-steady
returns-clause-steady c =
    let op = item_at c.args._ops.now c.args._index c.requires.there in
    steady_one c.args._ops.now c.args.line.to c.args.strip.room c.args.strip.count c.args.line.dest (λ i. line_value (c.args.strip.position + i) (registers (held c.args.lanes.now c.args.places.now (cells c.args.store.now)) i) (shown c.args.line)) c.args.lanes.now
    c.run_line.new.lanes c.run_line.ensures.lanes
    (dest_typed c.args._ops.now c.args.strip.position c.args.strip.count c.args.strip.room c.requires.strip c.args._index op.0 c.requires.there op.1 c.args.line c.args.lanes.now (c.requires.task op.0 op.1) c.requires.ready.typed)
    (dest_below c.args._ops.now c.args.strip.position c.args.strip.count c.args.strip.room c.requires.strip c.args._index op.0 c.requires.there op.1 c.args.line c.args.lanes.now (c.requires.task op.0 op.1) c.requires.ready.typed)

pub returns-clause-ready : goal.returns-clause-ready
returns-clause-ready c =
    let op = item_at c.args._ops.now c.args._index c.requires.there in
    ready_one c.args._ops.now c.args.line.to c.args.strip.room c.args.strip.count c.args.line.dest (λ i. line_value (c.args.strip.position + i) (registers (held c.args.lanes.now c.args.places.now (cells c.args.store.now)) i) (shown c.args.line)) c.args.lanes.now
    c.run_line.new.lanes c.run_line.ensures.lanes
    (dest_typed c.args._ops.now c.args.strip.position c.args.strip.count c.args.strip.room c.requires.strip c.args._index op.0 c.requires.there op.1 c.args.line c.args.lanes.now (c.requires.task op.0 op.1) c.requires.ready.typed)
    (dest_below c.args._ops.now c.args.strip.position c.args.strip.count c.args.strip.room c.requires.strip c.args._index op.0 c.requires.there op.1 c.args.line c.args.lanes.now (c.requires.task op.0 op.1) c.requires.ready.typed)
    c.args.strip.width c.args.places.now (cells c.args.store.now) c.args._numbers.now
    (own_written c.args._ops.now c.args.places.now c.requires.ready.own c.args.line.dest
    (dest_written c.args._ops.now c.args.strip.position c.args.strip.count c.args.strip.room c.requires.strip c.args._index op.0 c.requires.there op.1 c.args.line c.args.lanes.now (c.requires.task op.0 op.1) c.requires.ready.typed))
    c.requires.ready
