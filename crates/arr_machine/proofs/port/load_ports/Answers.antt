use Rattle.std.proofs.Common.{◌≡◌, ◌+◌, ◌*◌, ◌<◌, ◌≤◌, length, take, sym, subst, ◌∙◌, arith, refl}
use Rattle.std.specs.FinMap as finite
use Rattle.arr_view.specs.Strided.{Strided}
use Rattle.arr_ops.specs.Costs.{reads, total}
use Rattle.arr_store.specs.Cells.{width_at}
use Rattle.arr_store.specs.Stored.{cells}
use Rattle.arr_strips.specs.Blocks.{block_positions}
use Rattle.arr_lanes.specs.Lanes.{PlacesFit, held}
use Rattle.arr_machine.specs.Ports.{Brings, IsThere}
use Rattle.arr_machine.proofs.Few.{few_block}
use Rattle.arr_machine.proofs.Gates.{Gate, gate_at, port_at, registered}
use Rattle.arr_machine.proofs.Loads.{LoadedTo, few_bytes, loaded_all, loaded_more, widths_more}
use Rattle.arr_machine.proofs.Steadies.{steady_more, steady_none, typed_steady}
use Rattle.arr_machine.proofs.Walking.{all_each}
use Rattle.arr_machine.proofs.port.load_ports.Goals as goal

pub loop-port-init : goal.loop-port-init
loop-port-init c =
    record {
      loaded = λ j v l. absurd (omega arith);
      places = record { long = c.forget_places.ensures.long ∙ c.requires.places; each = λ r. subst (λ o. Rattle.arr_lanes.specs.Lanes.PlaceFits c.args.strip.width (cells c.args.store.now) (Rattle.std.specs.Prelude.slice_get c.args.lanes.now r) o) (sym (c.forget_places.ensures.none r)) tt };
      own = record {
        views = Rattle.arr_machine.proofs.Brings.none_own c.args._ops.now c.forget_places.new.places c.forget_places.ensures.none c.args._ops.now;
        constants = λ r l. c.forget_places.ensures.none r;
      };
      steady = steady_none c.args._ops.now c.args.strip.room c.args.lanes.now;
      bases = refl;
      loads = omega arith;
      stores = refl;
      made = refl;
    }

pub load_port-requires-clause-port : goal.load_port-requires-clause-port
load_port-requires-clause-port c = port_at c.args._ops.now (reads c.args._ops.now) c.args.ports.now c.loop-port.port-index c.port-item.result c.requires.ports c.loop-port-test.true c.port-item.is

pub load_port-requires-clause-there : goal.load_port-requires-clause-there
load_port-requires-clause-there c =
    let k = c.loop-port.port-index in
    let port = c.port-item.result in
    let g : Gate c.args._ops.now (reads c.args._ops.now) k (cells c.args.store.now) port.rows port.lane = gate_at c.args._ops.now (reads c.args._ops.now) c.args.ports.now k port (cells c.args.store.now) c.requires.ports c.loop-port-test.true c.port-item.is c.requires.there in
    subst (λ b. IsThere c.args._ops.now (finite.get b) port.rows) (sym c.loop-port.invariant.bases) g.there

pub load_port-requires-clause-typed : goal.load_port-requires-clause-typed
load_port-requires-clause-typed c = typed_steady c.args._ops.now c.args.strip.room c.args.lanes.now c.loop-port.lanes c.loop-port.invariant.steady c.requires.typed

pub load_port-requires-clause-places : goal.load_port-requires-clause-places
load_port-requires-clause-places c = subst (λ b. PlacesFit c.args.strip.width c.loop-port.lanes c.loop-port.places (finite.get b)) (sym c.loop-port.invariant.bases) c.loop-port.invariant.places

pub load_port-requires-clause-room : goal.load_port-requires-clause-room
load_port-requires-clause-room c =
    let few : block_positions c.args._ops.now ≤ 1048576 = few_block c.args._ops.now c.requires.strip.block in
    let inside : c.args.strip.position + c.args.strip.count ≤ block_positions c.args._ops.now = c.requires.strip.inside in
    let bytes = few_bytes (cells c.args.store.now) (reads c.args._ops.now) c.loop-port.port-index c.args.strip.count c.requires.few (omega arith) in
    omega (arith, c.loop-port.invariant.loads, c.requires.room)

pub loop-port-preserved : goal.loop-port-preserved
loop-port-preserved c =
    let k = c.loop-port.port-index in
    let port = c.port-item.result in
    let g : Gate c.args._ops.now (reads c.args._ops.now) k (cells c.args.store.now) port.rows port.lane = gate_at c.args._ops.now (reads c.args._ops.now) c.args.ports.now k port (cells c.args.store.now) c.requires.ports c.loop-port-test.true c.port-item.is c.requires.there in
    let below : k < length (reads c.args._ops.now) = subst (λ n. k < n) c.requires.ports.long c.loop-port-test.true in
    let bytes : c.args.strip.count * total (λ (v : Strided). width_at (cells c.args.store.now v.base)) (take (k + 1) (reads c.args._ops.now))
    ≡ c.args.strip.count * total (λ (v : Strided). width_at (cells c.args.store.now v.base)) (take k (reads c.args._ops.now)) + c.args.strip.count * width_at (cells c.args.store.now port.rows.base) =
    widths_more (λ (v : Strided). width_at (cells c.args.store.now v.base)) (reads c.args._ops.now) k c.args.strip.count port.rows below g.at in
    let loads : c.load_port.new.store.loads ≡ c.loop-port.store.loads + c.args.strip.count * width_at (cells c.args.store.now port.rows.base) =
    subst (λ b. c.load_port.new.store.loads ≡ c.loop-port.store.loads + c.args.strip.count * width_at (finite.get b port.rows.base)) c.loop-port.invariant.bases c.load_port.ensures.loads in
    let brings : Brings c.args._ops.now c.args.strip port.rows (cells c.args.store.now) (held c.loop-port.lanes c.loop-port.places (cells c.args.store.now)) (held c.load_port.new.lanes c.load_port.new.places (cells c.args.store.now)) =
    subst (λ b. Brings c.args._ops.now c.args.strip port.rows (finite.get b) (held c.loop-port.lanes c.loop-port.places (finite.get b)) (held c.load_port.new.lanes c.load_port.new.places (finite.get b))) c.loop-port.invariant.bases c.load_port.ensures.loaded in
    record {
      loaded = loaded_more c.args._ops.now port.rows g.register k c.args.strip (cells c.args.store.now) (held c.loop-port.lanes c.loop-port.places (cells c.args.store.now))
          (held c.load_port.new.lanes c.load_port.new.places (cells c.args.store.now)) g.at below brings c.loop-port.invariant.loaded;
      places = subst (λ b. PlacesFit c.args.strip.width c.load_port.new.lanes c.load_port.new.places (finite.get b)) c.loop-port.invariant.bases c.load_port.ensures.places;
      own = c.load_port.ensures.own;
      steady = steady_more c.args._ops.now c.args.strip.room c.args.lanes.now c.loop-port.lanes c.load_port.new.lanes c.loop-port.invariant.steady c.load_port.ensures.steady;
      bases = c.load_port.ensures.bases ∙ c.loop-port.invariant.bases;
      loads = omega (arith, loads, bytes, c.loop-port.invariant.loads);
      stores = c.load_port.ensures.stores ∙ c.loop-port.invariant.stores;
      made = c.load_port.ensures.made ∙ c.loop-port.invariant.made;
    }

pub returns-clause-loaded : goal.returns-clause-loaded
returns-clause-loaded c =
    let all : c.loop-port.port-index ≡ length (reads c.args._ops.now) = omega (arith, c.requires.ports.long, c.loop-port-test.false) in
    loaded_all c.args._ops.now c.args.strip (cells c.args.store.now) (held c.loop-port.lanes c.loop-port.places (cells c.args.store.now))
    (all_each _ (reads c.args._ops.now) (λ k v l e. registered c.args._ops.now (reads c.args._ops.now) c.args.ports.now c.requires.ports k v l e))
    (subst (λ k. LoadedTo c.args._ops.now k c.args.strip (cells c.args.store.now) (held c.loop-port.lanes c.loop-port.places (cells c.args.store.now))) all c.loop-port.invariant.loaded)
