use Rattle.std.proofs.Common.{◌≡◌, ◌+◌, ◌≤◌, Some, length, refl, ap, sym, subst, arith}
use Rattle.std.specs.Prelude.{slice_get}
use Rattle.arr_store.specs.Buffers.{cell_of}
use Rattle.arr_store.specs.Runs.{IsOfSlot}
use Rattle.arr_store.specs.Slots.{slots_of}
use Rattle.arr_store.specs.Stored.{cells}
use Rattle.arr_strips.specs.Blocks.{block_positions}
use Rattle.arr_lanes.specs.Lanes.{IsLane, held, held_at, number}
use Rattle.arr_lanes.proofs.Places.{in_lanes, read_lane}
use Rattle.arr_machine.proofs.Blocks.{item_at}
use Rattle.arr_machine.proofs.Few.{few_block}
use Rattle.arr_machine.proofs.Shows.{lies_up, show_lane, show_match, show_own, show_size, show_stands, show_type}
use Rattle.arr_machine.proofs.run.show_lane.Goals as goal

pub overflow_cast-run : goal.overflow_cast-run
overflow_cast-run c =
    let few : block_positions c.args._ops.now ≤ 1048576 = few_block c.args._ops.now c.requires.strip.block in
    let inside : c.args.strip.position + c.args.strip.count ≤ block_positions c.args._ops.now = c.requires.strip.inside in
    omega arith

pub bounds-lanes-lane : goal.bounds-lanes-lane
bounds-lanes-lane c =
    let op = item_at c.args._ops.now c.args._index c.requires.there in
    in_lanes op.0.from c.args.strip.room c.args.lanes.now c.args.lane (show_lane c.args._ops.now c.args.strip.position c.args.strip.count c.args.strip.room c.requires.strip c.args._index op.0 c.requires.there op.1 c.args.slot c.args.lane c.args.lanes.now (c.requires.task op.0 op.1) (slots_of c.args.slots.now) c.requires.slots c.requires.ready.typed)

pub put_run-requires-clause-slot : goal.put_run-requires-clause-slot
put_run-requires-clause-slot c =
    let op = item_at c.args._ops.now c.args._index c.requires.there in
    let lane = c.index-lanes-lane.result in
    let there : slice_get c.args.lanes.now c.args.lane ≡ Some lane = read_lane c.args.lanes.now c.args.lane lane (in_lanes op.0.from c.args.strip.room c.args.lanes.now c.args.lane (show_lane c.args._ops.now c.args.strip.position c.args.strip.count c.args.strip.room c.requires.strip c.args._index op.0 c.requires.there op.1 c.args.slot c.args.lane c.args.lanes.now (c.requires.task op.0 op.1) (slots_of c.args.slots.now) c.requires.slots c.requires.ready.typed)) c.index-lanes-lane.is in
    let typed : IsLane op.0.from c.args.strip.room (Some lane) = subst (IsLane op.0.from c.args.strip.room) there (show_lane c.args._ops.now c.args.strip.position c.args.strip.count c.args.strip.room c.requires.strip c.args._index op.0 c.requires.there op.1 c.args.slot c.args.lane c.args.lanes.now (c.requires.task op.0 op.1) (slots_of c.args.slots.now) c.requires.slots c.requires.ready.typed) in
    let within : c.args.strip.count ≤ c.args.strip.room = c.requires.strip.within in
    let room : c.args.strip.room ≤ length (cell_of lane).numbers = typed.1 in
    subst (λ y. IsOfSlot y (slots_of c.args.slots.now c.args.slot)) (sym typed.0) (show_type c.args._ops.now c.args.strip.position c.args.strip.count c.args.strip.room c.requires.strip c.args._index op.0 c.requires.there op.1 c.args.slot c.args.lane c.args.lanes.now (c.requires.task op.0 op.1) (slots_of c.args.slots.now) c.requires.slots)

pub put_run-requires-clause-lane : goal.put_run-requires-clause-lane
put_run-requires-clause-lane c =
    let op = item_at c.args._ops.now c.args._index c.requires.there in
    let lane = c.index-lanes-lane.result in
    let there : slice_get c.args.lanes.now c.args.lane ≡ Some lane = read_lane c.args.lanes.now c.args.lane lane (in_lanes op.0.from c.args.strip.room c.args.lanes.now c.args.lane (show_lane c.args._ops.now c.args.strip.position c.args.strip.count c.args.strip.room c.requires.strip c.args._index op.0 c.requires.there op.1 c.args.slot c.args.lane c.args.lanes.now (c.requires.task op.0 op.1) (slots_of c.args.slots.now) c.requires.slots c.requires.ready.typed)) c.index-lanes-lane.is in
    let typed : IsLane op.0.from c.args.strip.room (Some lane) = subst (IsLane op.0.from c.args.strip.room) there (show_lane c.args._ops.now c.args.strip.position c.args.strip.count c.args.strip.room c.requires.strip c.args._index op.0 c.requires.there op.1 c.args.slot c.args.lane c.args.lanes.now (c.requires.task op.0 op.1) (slots_of c.args.slots.now) c.requires.slots c.requires.ready.typed) in
    let within : c.args.strip.count ≤ c.args.strip.room = c.requires.strip.within in
    let room : c.args.strip.room ≤ length (cell_of lane).numbers = typed.1 in
    omega arith

pub put_run-requires-clause-there : goal.put_run-requires-clause-there
put_run-requires-clause-there c =
    let op = item_at c.args._ops.now c.args._index c.requires.there in
    let few : block_positions c.args._ops.now ≤ 1048576 = few_block c.args._ops.now c.requires.strip.block in
    let inside : c.args.strip.position + c.args.strip.count ≤ block_positions c.args._ops.now = c.requires.strip.inside in
    lies_up _ c.args.strip.position c.args.strip.count (show_size c.args._ops.now c.args.strip.position c.args.strip.count c.args.strip.room c.requires.strip c.args._index op.0 c.requires.there op.1 c.args.slot c.args.lane c.args.lanes.now (c.requires.task op.0 op.1) (slots_of c.args.slots.now) c.requires.slots) (omega arith)

pub returns-clause-stands : goal.returns-clause-stands
returns-clause-stands c =
    let op = item_at c.args._ops.now c.args._index c.requires.there in
    let lane = c.index-lanes-lane.result in
    let there : slice_get c.args.lanes.now c.args.lane ≡ Some lane = read_lane c.args.lanes.now c.args.lane lane (in_lanes op.0.from c.args.strip.room c.args.lanes.now c.args.lane (show_lane c.args._ops.now c.args.strip.position c.args.strip.count c.args.strip.room c.requires.strip c.args._index op.0 c.requires.there op.1 c.args.slot c.args.lane c.args.lanes.now (c.requires.task op.0 op.1) (slots_of c.args.slots.now) c.requires.slots c.requires.ready.typed)) c.index-lanes-lane.is in
    let typed : IsLane op.0.from c.args.strip.room (Some lane) = subst (IsLane op.0.from c.args.strip.room) there (show_lane c.args._ops.now c.args.strip.position c.args.strip.count c.args.strip.room c.requires.strip c.args._index op.0 c.requires.there op.1 c.args.slot c.args.lane c.args.lanes.now (c.requires.task op.0 op.1) (slots_of c.args.slots.now) c.requires.slots c.requires.ready.typed) in
    let within : c.args.strip.count ≤ c.args.strip.room = c.requires.strip.within in
    let room : c.args.strip.room ≤ length (cell_of lane).numbers = typed.1 in
    show_stands c.args._ops.now c.args.strip.position c.args.strip.count c.args.strip.room c.requires.strip c.args._index op.0 c.requires.there op.1 c.args.slot c.args.lane c.args.lanes.now (c.requires.task op.0 op.1) (slots_of c.args.slots.now) c.requires.slots lane there (omega arith) (slots_of c.put_run.new.self) c.put_run.ensures (held c.args.lanes.now c.args._places.now (cells c.args._store.now))
    (λ i. ap (λ o. held_at (cells c.args._store.now) o (slice_get c.args.lanes.now c.args.lane) i)
    (show_own c.args._ops.now c.args.strip.position c.args.strip.count c.args.strip.room c.requires.strip c.args._index op.0 c.requires.there op.1 c.args.slot c.args.lane c.args.lanes.now (c.requires.task op.0 op.1) (slots_of c.args.slots.now) c.requires.slots c.args._places.now c.requires.ready.own))
    c.args._numbers.now

pub returns-clause-slots : goal.returns-clause-slots
returns-clause-slots c =
    let op = item_at c.args._ops.now c.args._index c.requires.there in
    let lane = c.index-lanes-lane.result in
    let there : slice_get c.args.lanes.now c.args.lane ≡ Some lane = read_lane c.args.lanes.now c.args.lane lane (in_lanes op.0.from c.args.strip.room c.args.lanes.now c.args.lane (show_lane c.args._ops.now c.args.strip.position c.args.strip.count c.args.strip.room c.requires.strip c.args._index op.0 c.requires.there op.1 c.args.slot c.args.lane c.args.lanes.now (c.requires.task op.0 op.1) (slots_of c.args.slots.now) c.requires.slots c.requires.ready.typed)) c.index-lanes-lane.is in
    let typed : IsLane op.0.from c.args.strip.room (Some lane) = subst (IsLane op.0.from c.args.strip.room) there (show_lane c.args._ops.now c.args.strip.position c.args.strip.count c.args.strip.room c.requires.strip c.args._index op.0 c.requires.there op.1 c.args.slot c.args.lane c.args.lanes.now (c.requires.task op.0 op.1) (slots_of c.args.slots.now) c.requires.slots c.requires.ready.typed) in
    let within : c.args.strip.count ≤ c.args.strip.room = c.requires.strip.within in
    let room : c.args.strip.room ≤ length (cell_of lane).numbers = typed.1 in
    show_match c.args._ops.now c.args.strip.position c.args.strip.count c.args.strip.room c.requires.strip c.args._index op.0 c.requires.there op.1 c.args.slot c.args.lane c.args.lanes.now (c.requires.task op.0 op.1) (slots_of c.args.slots.now) c.requires.slots lane there (omega arith) (slots_of c.put_run.new.self) c.put_run.ensures (λ r i. number c.args.lanes.now r i) (λ i. refl)
