use Rattle.std.proofs.Common.{◌≡◌, ◌<◌, ℕ, get_or, length}
use Rattle.arr_view.specs.Strided.{Strided}
use Rattle.arr_machine.specs.Ports.{IsPort}
use Rattle.arr_machine.specs.declared.port.Port.{Port}
use Rattle.arr_contract.proofs.making.ports_of.Given as goal

abbrev pub invariant-loop-view : goal.invariant-loop-view
invariant-loop-view l =
    record {
      long : length l.ports.items ≡ l.view-index;
      each : (k : ℕ) (v : Strided) (port : Port) → k < l.view-index → v ≡ get_or l.some k v → port ≡ get_or l.ports.items k port → IsPort l.ops v port;
    }
