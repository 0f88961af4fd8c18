use Rattle.std.proofs.Common.{◌≡◌, ◌≤◌, length, subst, arith}
use Rattle.arr_store.specs.Slots.{slots_of}
use Rattle.arr_store.specs.Stored.{cells}
use Rattle.arr_lanes.specs.Lanes.{held}
use Rattle.arr_machine.specs.Standing.{Advances}
use Rattle.arr_machine.proofs.Steadies.{steady_more, steady_none, tasks_steady}
use Rattle.arr_machine.proofs.run.run_tasks.Goals as goal

pub loop-index-init : goal.loop-index-init
loop-index-init c =
    record {
      inside = omega arith;
      stands = λ h start s. s;
      ready = c.requires.ready;
      steady = steady_none c.args.ops.now c.args.strip.room c.args.lanes.now;
      spares = c.requires.spares;
      slots = c.requires.slots;
    }

pub run_next-index-requires-clause-there : goal.run_next-index-requires-clause-there
run_next-index-requires-clause-there c = omega (arith, c.requires.tasks.long, c.loop-index-test.true)

pub run_next-index-requires-clause-tasks : goal.run_next-index-requires-clause-tasks
run_next-index-requires-clause-tasks c = tasks_steady c.args.ops.now c.args.strip.room c.args.lanes.now c.loop-index.lanes c.loop-index.invariant.steady c.args.tasks.now c.requires.tasks

pub loop-index-preserved : goal.loop-index-preserved
loop-index-preserved c =
    record {
      inside = c.run_next-index.ensures.inside;
      stands = λ h start s. c.run_next-index.ensures.stands h start (c.loop-index.invariant.stands h start s);
      ready = c.run_next-index.ensures.ready;
      steady = steady_more c.args.ops.now c.args.strip.room c.args.lanes.now c.loop-index.lanes c.run_next-index.new.lanes c.loop-index.invariant.steady c.run_next-index.ensures.steady;
      spares = c.run_next-index.ensures.spares;
      slots = c.run_next-index.ensures.slots;
    }

pub returns-clause-stands : goal.returns-clause-stands
returns-clause-stands c =
    let low : c.loop-index.index ≤ length c.args.ops.now = c.loop-index.invariant.inside in
    let all : c.loop-index.index ≡ length c.args.ops.now = omega (arith, c.requires.tasks.long, c.loop-index-test.false) in
    subst (λ k. Advances c.args.ops.now c.args.strip.position c.args.strip.count 0 k (held c.args.lanes.now c.args.places.now (cells c.args.store.now)) c.args.numbers.now (slots_of c.args.slots.now) (held c.loop-index.lanes c.args.places.now (cells c.args.store.now)) c.loop-index.numbers (slots_of c.loop-index.slots)) all
    c.loop-index.invariant.stands
