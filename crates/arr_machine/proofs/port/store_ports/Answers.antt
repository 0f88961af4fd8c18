use Rattle.std.proofs.Common.{◌≡◌, ◌+◌, ◌*◌, ◌<◌, ◌≤◌, Some, length, take, ap, sym, subst, ◌∙◌, arith, refl}
use Rattle.std.specs.Prelude.{slice_get}
use Rattle.arr_view.specs.Strided.{Strided}
use Rattle.arr_ops.specs.Costs.{total}
use Rattle.arr_store.specs.Buffers.{cell_of}
use Rattle.arr_store.specs.Cells.{width_at}
use Rattle.arr_store.specs.Runs.{IsOf}
use Rattle.arr_store.specs.Stored.{cells}
use Rattle.arr_strips.specs.Blocks.{block_positions, stores}
use Rattle.arr_machine.specs.Ports.{IsThere}
use Rattle.arr_machine.specs.Tasks.{TypedLanes}
use Rattle.arr_machine.proofs.Few.{few_block}
use Rattle.arr_machine.proofs.Gates.{Gate, gate_at, lane_inside, lane_is_typed, lane_there}
use Rattle.arr_machine.proofs.Loads.{few_bytes, widths_more}
use Rattle.arr_machine.proofs.Saves.{stored_more, stored_none, there_alike, outline_width}
use Rattle.arr_machine.proofs.port.store_ports.Goals as goal

pub overflow_cast-strip : goal.overflow_cast-strip
overflow_cast-strip c =
    let few : block_positions c.args._ops.now ≤ 1048576 = few_block c.args._ops.now c.requires.strip.block in
    let inside : c.args.strip.position + c.args.strip.count ≤ block_positions c.args._ops.now = c.requires.strip.inside in
    omega arith

pub bounds-lanes-port : goal.bounds-lanes-port
bounds-lanes-port c =
    let k = c.loop-port.port-index in
    let port = c.port-item.result in
    let g : Gate c.args._ops.now (stores c.args._ops.now) k (cells c.args.store.now) port.rows port.lane = gate_at c.args._ops.now (stores c.args._ops.now) c.args.ports.now k port (cells c.args.store.now) c.requires.ports c.loop-port-test.true c.port-item.is c.requires.there in
    let typed : TypedLanes c.args._ops.now c.args.strip.room c.args.lanes.now = c.requires.typed in
    lane_inside c.args._ops.now c.args.strip.room c.args.lanes.now typed port.rows port.lane g.lane g.register

pub store-requires-clause-within : goal.store-requires-clause-within
store-requires-clause-within c =
    let k = c.loop-port.port-index in
    let port = c.port-item.result in
    let g : Gate c.args._ops.now (stores c.args._ops.now) k (cells c.args.store.now) port.rows port.lane = gate_at c.args._ops.now (stores c.args._ops.now) c.args.ports.now k port (cells c.args.store.now) c.requires.ports c.loop-port-test.true c.port-item.is c.requires.there in
    let typed : TypedLanes c.args._ops.now c.args.strip.room c.args.lanes.now = c.requires.typed in
    let inside : c.args.strip.position + c.args.strip.count ≤ block_positions c.args._ops.now = c.requires.strip.inside in
    subst (λ n. c.args.strip.position + c.args.strip.count ≤ n) (sym g.long) inside

pub store-requires-clause-lane : goal.store-requires-clause-lane
store-requires-clause-lane c =
    let k = c.loop-port.port-index in
    let port = c.port-item.result in
    let g : Gate c.args._ops.now (stores c.args._ops.now) k (cells c.args.store.now) port.rows port.lane = gate_at c.args._ops.now (stores c.args._ops.now) c.args.ports.now k port (cells c.args.store.now) c.requires.ports c.loop-port-test.true c.port-item.is c.requires.there in
    let typed : TypedLanes c.args._ops.now c.args.strip.room c.args.lanes.now = c.requires.typed in
    let lane = c.index-lanes-port.result in
    let kept = lane_is_typed c.args._ops.now c.args.strip.room c.args.lanes.now typed port.rows port.lane g.lane g.register lane c.index-lanes-port.is in
    let within : c.args.strip.count ≤ c.args.strip.room = c.requires.strip.within in
    let room : c.args.strip.room ≤ length (cell_of lane).numbers = kept.1 in
    omega arith

pub store-requires-clause-base : goal.store-requires-clause-base
store-requires-clause-base c =
    let k = c.loop-port.port-index in
    let port = c.port-item.result in
    let g : Gate c.args._ops.now (stores c.args._ops.now) k (cells c.args.store.now) port.rows port.lane = gate_at c.args._ops.now (stores c.args._ops.now) c.args.ports.now k port (cells c.args.store.now) c.requires.ports c.loop-port-test.true c.port-item.is c.requires.there in
    let typed : TypedLanes c.args._ops.now c.args.strip.room c.args.lanes.now = c.requires.typed in
    let lane = c.index-lanes-port.result in
    let kept = lane_is_typed c.args._ops.now c.args.strip.room c.args.lanes.now typed port.rows port.lane g.lane g.register lane c.index-lanes-port.is in
    let within : c.args.strip.count ≤ c.args.strip.room = c.requires.strip.within in
    let room : c.args.strip.room ≤ length (cell_of lane).numbers = kept.1 in
    let there : IsThere c.args._ops.now (cells c.loop-port.store) port.rows = there_alike c.args._ops.now (cells c.args.store.now) (cells c.loop-port.store) port.rows (c.loop-port.invariant.stored.same port.rows.base) g.there in
    subst (λ y. IsOf y (cells c.loop-port.store port.rows.base)) (sym kept.0) there.typed

pub store-requires-clause-inside : goal.store-requires-clause-inside
store-requires-clause-inside c =
    let k = c.loop-port.port-index in
    let port = c.port-item.result in
    let g : Gate c.args._ops.now (stores c.args._ops.now) k (cells c.args.store.now) port.rows port.lane = gate_at c.args._ops.now (stores c.args._ops.now) c.args.ports.now k port (cells c.args.store.now) c.requires.ports c.loop-port-test.true c.port-item.is c.requires.there in
    let typed : TypedLanes c.args._ops.now c.args.strip.room c.args.lanes.now = c.requires.typed in
    let there : IsThere c.args._ops.now (cells c.loop-port.store) port.rows = there_alike c.args._ops.now (cells c.args.store.now) (cells c.loop-port.store) port.rows (c.loop-port.invariant.stored.same port.rows.base) g.there in
    there.inside

pub store-requires-clause-room : goal.store-requires-clause-room
store-requires-clause-room c =
    let few : block_positions c.args._ops.now ≤ 1048576 = few_block c.args._ops.now c.requires.strip.block in
    let inside : c.args.strip.position + c.args.strip.count ≤ block_positions c.args._ops.now = c.requires.strip.inside in
    let bytes = few_bytes (cells c.args.store.now) (stores c.args._ops.now) c.loop-port.port-index c.args.strip.count c.requires.few (omega arith) in
    omega (arith, c.loop-port.invariant.stores, c.requires.room)

pub loop-port-init : goal.loop-port-init
loop-port-init c =
    record {
      stored = stored_none c.args._ops.now (stores c.args._ops.now) c.args.strip.position c.args.strip.count c.args.lanes.now (cells c.args.store.now);
      stores = omega arith;
      loads = refl;
      made = refl;
    }

pub loop-port-preserved : goal.loop-port-preserved
loop-port-preserved c =
    let k = c.loop-port.port-index in
    let port = c.port-item.result in
    let g : Gate c.args._ops.now (stores c.args._ops.now) k (cells c.args.store.now) port.rows port.lane = gate_at c.args._ops.now (stores c.args._ops.now) c.args.ports.now k port (cells c.args.store.now) c.requires.ports c.loop-port-test.true c.port-item.is c.requires.there in
    let typed : TypedLanes c.args._ops.now c.args.strip.room c.args.lanes.now = c.requires.typed in
    let lane = c.index-lanes-port.result in
    let kept = lane_is_typed c.args._ops.now c.args.strip.room c.args.lanes.now typed port.rows port.lane g.lane g.register lane c.index-lanes-port.is in
    let within : c.args.strip.count ≤ c.args.strip.room = c.requires.strip.within in
    let room : c.args.strip.room ≤ length (cell_of lane).numbers = kept.1 in
    let below : k < length (stores c.args._ops.now) = subst (λ n. k < n) c.requires.ports.long c.loop-port-test.true in
    let there = lane_there c.args._ops.now c.args.strip.room c.args.lanes.now typed port.rows port.lane g.lane g.register lane c.index-lanes-port.is in
    let register = subst (λ q. slice_get c.args.lanes.now q ≡ Some lane) g.lane there in
    let bytes : c.args.strip.count * total (λ (v : Strided). width_at (cells c.args.store.now v.base)) (take (k + 1) (stores c.args._ops.now))
    ≡ c.args.strip.count * total (λ (v : Strided). width_at (cells c.args.store.now v.base)) (take k (stores c.args._ops.now)) + c.args.strip.count * width_at (cells c.args.store.now port.rows.base) =
    widths_more (λ (v : Strided). width_at (cells c.args.store.now v.base)) (stores c.args._ops.now) k c.args.strip.count port.rows below g.at in
    let saves : c.store.new.store.stores ≡ c.loop-port.store.stores + c.args.strip.count * width_at (cells c.args.store.now port.rows.base) =
    c.store.ensures.stores ∙ ap (λ n. c.loop-port.store.stores + c.args.strip.count * n) (outline_width (cells c.loop-port.store port.rows.base) (cells c.args.store.now port.rows.base) (c.loop-port.invariant.stored.same port.rows.base)) in
    record {
      stored = stored_more c.args._ops.now (stores c.args._ops.now) c.args.strip.position c.args.strip.count k c.args.lanes.now (cells c.args.store.now) (cells c.loop-port.store) (cells c.store.new.store) port.rows lane below g.at
          register (omega arith) c.store.ensures.bases c.loop-port.invariant.stored;
      stores = omega (arith, saves, bytes, c.loop-port.invariant.stores);
      loads = c.store.ensures.loads ∙ c.loop-port.invariant.loads;
      made = c.store.ensures.made ∙ c.loop-port.invariant.made;
    }
