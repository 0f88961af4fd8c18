use Rattle.std.proofs.Common.{◌≡◌, ◌+◌, ◌*◌, take}
use Rattle.arr_ops.specs.Costs.{reads, total}
use Rattle.arr_store.specs.Cells.{width_at}
use Rattle.arr_store.specs.Stored.{cells}
use Rattle.arr_lanes.specs.Lanes.{PlacesFit, held}
use Rattle.arr_machine.specs.Lent.{AreOwn}
use Rattle.arr_machine.specs.Tasks.{Steady}
use Rattle.arr_machine.proofs.Loads.{LoadedTo}
use Rattle.arr_machine.proofs.port.load_ports.Given as goal

abbrev pub invariant-loop-port : goal.invariant-loop-port
invariant-loop-port l =
    record {
      loaded : LoadedTo l._ops l.port-index l.strip (cells l.fn.store) (held l.lanes l.places (cells l.fn.store));
      places : PlacesFit l.strip.width l.lanes l.places (cells l.fn.store);
      own : AreOwn l._ops l.places;
      steady : Steady l._ops l.strip.room l.fn.lanes l.lanes;
      bases : l.store.bases ≡ l.fn.store.bases;
      loads : l.store.loads ≡ l.fn.store.loads + l.strip.count * total (λ v. width_at (cells l.fn.store v.base)) (take l.port-index (reads l._ops));
      stores : l.store.stores ≡ l.fn.store.stores;
      made : l.store.made ≡ l.fn.store.made;
    }
