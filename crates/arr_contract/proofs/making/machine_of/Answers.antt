use Rattle.std.proofs.Common.{◌≡◌, ◌∙◌, ◌≤◌, ◌*◌, ◌/◌, length, map, max, min, ap, subst, sym, arith}
use Rattle.std.specs.List.{AllByRecursion}
use Rattle.arr_view.specs.Views.{identical}
use Rattle.arr_ops.specs.Costs.{reads}
use Rattle.arr_store.specs.Buffers.{cell_of}
use Rattle.arr_strips.specs.Blocks.{stores}
use Rattle.arr_strips.specs.Registers.{register_views}
use Rattle.arr_machine.specs.Ports.{ArePorts}
use Rattle.arr_machine.specs.Tasks.{AreTasks}
use Rattle.arr_strips.proofs.Blocks.{block_of}
use Rattle.arr_contract.specs.Making.{IsWalked, lane_cells}
use Rattle.arr_contract.specs.Prepared.{widest}
use Rattle.arr_contract.proofs.Counts.{few_classes}
use Rattle.arr_contract.proofs.Makings.{lanes_typed}
use Rattle.arr_contract.proofs.Walked.{reads_walked, stores_walked}
use Rattle.arr_contract.proofs.making.machine_of.Goals as goal

pub tasks_of-requires-clause-few_views : goal.tasks_of-requires-clause-few_views
tasks_of-requires-clause-few_views c =
    subst (λ vs. length vs ≤ 768) (sym c.requires.views) (let few : length (register_views c.args.ops.now) ≤ 3 * length c.args.ops.now = few_classes identical c.args.ops.now in omega (arith, c.requires.few))

pub ports_of-requires-clause-few : goal.ports_of-requires-clause-few
ports_of-requires-clause-few c =
    subst (λ vs. length vs ≤ 768) (sym c.requires.views) (let few : length (register_views c.args.ops.now) ≤ 3 * length c.args.ops.now = few_classes identical c.args.ops.now in omega (arith, c.requires.few))

pub ports_of-requires-2-clause-few : goal.ports_of-requires-2-clause-few
ports_of-requires-2-clause-few c =
    subst (λ vs. length vs ≤ 768) (sym c.requires.views) (let few : length (register_views c.args.ops.now) ≤ 3 * length c.args.ops.now = few_classes identical c.args.ops.now in omega (arith, c.requires.few))

pub ports_of-requires-clause-walked : goal.ports_of-requires-clause-walked
ports_of-requires-clause-walked c =
    subst (AllByRecursion (IsWalked c.args.ops.now)) (sym (c.as_slice-2.ensures.value ∙ c.in_ok-read_views.ensures)) (reads_walked c.args.ops.now (block_of c.args.ops.now c.requires.block))

pub ports_of-requires-2-clause-walked : goal.ports_of-requires-2-clause-walked
ports_of-requires-2-clause-walked c =
    subst (AllByRecursion (IsWalked c.args.ops.now)) (sym (c.as_slice-3.ensures.value ∙ c.in_ok-stores.ensures)) (stores_walked c.args.ops.now (block_of c.args.ops.now c.requires.block))

pub returns-clause-machine : goal.returns-clause-machine
returns-clause-machine c =
    let lanes : map cell_of c.in_ok-lanes.lanes.items ≡ lane_cells c.args.ops.now c.room_of-room.result (register_views c.args.ops.now) = subst (λ vs. map cell_of c.in_ok-lanes.lanes.items ≡ lane_cells c.args.ops.now c.room_of-room.result vs) c.requires.views c.in_ok-lanes.ensures in
    let tasks : AreTasks c.args.ops.now c.room_of-room.result c.in_ok-lanes.lanes.items c.in_ok-tasks.tasks.items = subst (λ ls. AreTasks c.args.ops.now c.room_of-room.result ls c.in_ok-tasks.tasks.items) c.as_slice.ensures.value c.in_ok-tasks.ensures in
    let read : ArePorts c.args.ops.now (reads c.args.ops.now) c.in_ok-reads.reads.items = subst (λ vs. ArePorts c.args.ops.now vs c.in_ok-reads.reads.items) (c.as_slice-2.ensures.value ∙ c.in_ok-read_views.ensures) c.in_ok-reads.ensures in
    let stored : ArePorts c.args.ops.now (stores c.args.ops.now) c.in_ok-ports_of.field-0.items = subst (λ vs. ArePorts c.args.ops.now vs c.in_ok-ports_of.field-0.items) (c.as_slice-3.ensures.value ∙ c.in_ok-stores.ensures) c.in_ok-ports_of.ensures in
    record {
      positions = c.positions_of-positions.ensures;
      some = c.room_of-room.ensures.some;
      some_row = c.row_of.ensures;
      tasks = tasks;
      typed = lanes_typed c.args.ops.now c.room_of-room.result c.in_ok-lanes.lanes.items lanes;
      places = omega (arith, c.in_ok-vec.ensures.len, c.len.ensures, c.in_ok-vec.field-0.ok, c.in_ok-lanes.lanes.ok);
      spares = c.in_ok-new.ensures;
      reads = read;
      stores = stored;
    }

pub returns-clause-strip : goal.returns-clause-strip
returns-clause-strip c = c.room_of-room.ensures.exact ∙ ap (λ n. max (min (4096 / widest c.args.ops.now) n) 1) c.positions_of-positions.ensures
