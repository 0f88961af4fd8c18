use Rattle.std.proofs.Common.{◌≡◌, ◌+◌, ◌*◌, take}
use Rattle.arr_ops.specs.Costs.{total}
use Rattle.arr_store.specs.Cells.{width_at}
use Rattle.arr_store.specs.Stored.{cells}
use Rattle.arr_strips.specs.Blocks.{stores}
use Rattle.arr_machine.proofs.Saves.{StoredTo}
use Rattle.arr_machine.proofs.port.store_ports.Given as goal

abbrev pub invariant-loop-port : goal.invariant-loop-port
invariant-loop-port l =
    record {
      stored : StoredTo l._ops (stores l._ops) l.strip.position l.strip.count l.port-index l.lanes (cells l.fn.store) (cells l.store);
      stores : l.store.stores ≡ l.fn.store.stores + l.strip.count * total (λ v. width_at (cells l.fn.store v.base)) (take l.port-index (stores l._ops));
      loads : l.store.loads ≡ l.fn.store.loads;
      made : l.store.made ≡ l.fn.store.made;
    }
