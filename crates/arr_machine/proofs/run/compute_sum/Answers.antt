use Rattle.arr_store.specs.Stored.{cells}
use Rattle.arr_lanes.specs.Lanes.{held}
use Rattle.arr_lanes.specs.Sums.{sum_value}
use Rattle.arr_lanes.proofs.Places.{becomes_held}
use Rattle.arr_machine.proofs.Chains.{sum_fits, sum_low, sum_stands, sum_written}
use Rattle.arr_machine.proofs.Lent.{behind_own, own_written}
use Rattle.arr_machine.proofs.Lines.{ready_one, steady_one}
use Rattle.arr_machine.proofs.run.compute_sum.Goals as goal

pub run_sum-requires-clause-fits : goal.run_sum-requires-clause-fits
run_sum-requires-clause-fits c =
    sum_fits c.args._ops.now c.args.strip.position c.args.strip.count c.args.strip.room c.requires.strip c.args._tasks.now c.args.lanes.now c.requires.tasks c.requires.ready.typed
    (held c.args.lanes.now c.args.places.now (cells c.args.store.now))
    (behind_own c.args._ops.now c.args.places.now c.requires.ready.own c.args.lanes.now (cells c.args.store.now)) c.args._index c.args.sum
    c.requires.sum.0 c.requires.sum.1.0 c.requires.sum.1.1

pub returns-clause-stands : goal.returns-clause-stands
returns-clause-stands c slots =
    sum_stands c.args._ops.now c.args.strip.position c.args.strip.count c.args.strip.room c.requires.strip c.args._tasks.now c.args.lanes.now c.requires.tasks c.requires.ready.typed
    (held c.args.lanes.now c.args.places.now (cells c.args.store.now))
    (behind_own c.args._ops.now c.args.places.now c.requires.ready.own c.args.lanes.now (cells c.args.store.now)) c.args._index c.args.sum
    c.requires.sum.0 c.requires.sum.1.0 c.requires.sum.1.1
    (held c.run_sum.new.lanes c.args.places.now (cells c.args.store.now))
    (becomes_held c.args.sum.to c.args.strip.room c.args.strip.count c.args.sum.dest (sum_value (held c.args.lanes.now c.args.places.now (cells c.args.store.now)) c.args.sum) c.args.lanes.now c.run_sum.new.lanes c.args.places.now (cells c.args.store.now) c.run_sum.ensures.lanes
    (own_written c.args._ops.now c.args.places.now c.requires.ready.own c.args.sum.dest
    (sum_written c.args._ops.now c.args.strip.position c.args.strip.count c.args.strip.room c.requires.strip c.args._tasks.now c.args.lanes.now c.requires.tasks c.requires.ready.typed
    (held c.args.lanes.now c.args.places.now (cells c.args.store.now))
    (behind_own c.args._ops.now c.args.places.now c.requires.ready.own c.args.lanes.now (cells c.args.store.now)) c.args._index c.args.sum
    c.requires.sum.0 c.requires.sum.1.0 c.requires.sum.1.1)))
    c.args._numbers.now slots

pub returns-clause-steady : goal.returns-clause-steady
returns-clause-steady c =
    steady_one c.args._ops.now c.args.sum.to c.args.strip.room c.args.strip.count c.args.sum.dest (sum_value (held c.args.lanes.now c.args.places.now (cells c.args.store.now)) c.args.sum) c.args.lanes.now c.run_sum.new.lanes c.run_sum.ensures.lanes
    (sum_fits c.args._ops.now c.args.strip.position c.args.strip.count c.args.strip.room c.requires.strip c.args._tasks.now c.args.lanes.now c.requires.tasks c.requires.ready.typed
    (held c.args.lanes.now c.args.places.now (cells c.args.store.now))
    (behind_own c.args._ops.now c.args.places.now c.requires.ready.own c.args.lanes.now (cells c.args.store.now)) c.args._index c.args.sum
    c.requires.sum.0 c.requires.sum.1.0 c.requires.sum.1.1).dest
    (sum_low c.args._ops.now c.args.strip.position c.args.strip.count c.args.strip.room c.requires.strip c.args._tasks.now c.args.lanes.now c.requires.tasks c.requires.ready.typed
    (held c.args.lanes.now c.args.places.now (cells c.args.store.now))
    (behind_own c.args._ops.now c.args.places.now c.requires.ready.own c.args.lanes.now (cells c.args.store.now)) c.args._index c.args.sum
    c.requires.sum.0 c.requires.sum.1.0 c.requires.sum.1.1)

pub returns-clause-ready : goal.returns-clause-ready
returns-clause-ready c =
    ready_one c.args._ops.now c.args.sum.to c.args.strip.room c.args.strip.count c.args.sum.dest (sum_value (held c.args.lanes.now c.args.places.now (cells c.args.store.now)) c.args.sum) c.args.lanes.now c.run_sum.new.lanes c.run_sum.ensures.lanes
    (sum_fits c.args._ops.now c.args.strip.position c.args.strip.count c.args.strip.room c.requires.strip c.args._tasks.now c.args.lanes.now c.requires.tasks c.requires.ready.typed
    (held c.args.lanes.now c.args.places.now (cells c.args.store.now))
    (behind_own c.args._ops.now c.args.places.now c.requires.ready.own c.args.lanes.now (cells c.args.store.now)) c.args._index c.args.sum
    c.requires.sum.0 c.requires.sum.1.0 c.requires.sum.1.1).dest
    (sum_low c.args._ops.now c.args.strip.position c.args.strip.count c.args.strip.room c.requires.strip c.args._tasks.now c.args.lanes.now c.requires.tasks c.requires.ready.typed
    (held c.args.lanes.now c.args.places.now (cells c.args.store.now))
    (behind_own c.args._ops.now c.args.places.now c.requires.ready.own c.args.lanes.now (cells c.args.store.now)) c.args._index c.args.sum
    c.requires.sum.0 c.requires.sum.1.0 c.requires.sum.1.1)
    c.args.strip.width c.args.places.now (cells c.args.store.now) c.args._numbers.now
    (own_written c.args._ops.now c.args.places.now c.requires.ready.own c.args.sum.dest
    (sum_written c.args._ops.now c.args.strip.position c.args.strip.count c.args.strip.room c.requires.strip c.args._tasks.now c.args.lanes.now c.requires.tasks c.requires.ready.typed
    (held c.args.lanes.now c.args.places.now (cells c.args.store.now))
    (behind_own c.args._ops.now c.args.places.now c.requires.ready.own c.args.lanes.now (cells c.args.store.now)) c.args._index c.args.sum
    c.requires.sum.0 c.requires.sum.1.0 c.requires.sum.1.1))
    c.requires.ready
