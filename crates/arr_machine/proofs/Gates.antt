-- A view of a port, and the lane that is its register.
use Rattle.std.proofs.Common.{◌≡◌, ℕ, ◌<◌, List, true, Option, Some, length, get_or, sym, subst}
use Rattle.std.specs.Prelude.{slice_get}
use Rattle.std.specs.List.{AllByRecursion}
use Rattle.arr_view.specs.Strided.{Strided}
use Rattle.arr_view.specs.Views.{positions}
use Rattle.arr_ops.specs.declared.op.Op.{Op}
use Rattle.arr_ops.specs.Costs.{elem_of}
use Rattle.arr_ops.specs.Memory.{Cell}
use Rattle.arr_store.specs.declared.buffer.Buffer.{Buffer}
use Rattle.arr_strips.specs.Blocks.{block_positions}
use Rattle.arr_strips.specs.Registers.{number_in, register_views}
use Rattle.arr_strips.specs.Strips.{loaded}
use Rattle.arr_lanes.specs.Lanes.{IsLane}
use Rattle.arr_lanes.proofs.Places.{in_lanes, read_lane}
use Rattle.arr_machine.specs.Ports.{ArePorts, IsPort, IsThere}
use Rattle.arr_machine.specs.Tasks.{TypedLanes}
use Rattle.arr_machine.specs.declared.port.Port.{Port}
use Rattle.arr_machine.proofs.Blocks.{all_get, item_at}

-- the view at a place of a list, in bases f, and its port
pub record Gate (ops : List Op) (vs : List Strided) (k : ℕ) (f : ℕ → Option Cell) (v : Strided) (r : ℕ) : Type 0 where
  pub at : v ≡ get_or vs k v
  pub lane : r ≡ number_in (register_views ops) v
  pub register : loaded (register_views ops) v ≡ true
  pub long : positions v.lengths ≡ block_positions ops
  pub there : IsThere ops f v

pub gate_at : (ops : List Op) (vs : List Strided) (ports : List Port) (k : ℕ) (port : Port) (f : ℕ → Option Cell) → ArePorts ops vs ports → k < length ports → port ≡ get_or ports k port → AllByRecursion (IsThere ops f) vs
    → Gate ops vs k f port.rows port.lane
gate_at ops vs ports k port f a l is there =
    let below : k < length vs = subst (λ n. k < n) a.long l in
    let v : (v : Strided) × (v ≡ get_or vs k v) = item_at vs k below in
    let p : IsPort ops v.0 port = a.each k v.0 port below v.1 is in
    let own : Gate ops vs k f v.0 port.lane = record { at = v.1; lane = p.lane; register = p.register; long = p.long; there = all_get (IsThere ops f) vs k v.0 below v.1 there } in
    subst (λ w. Gate ops vs k f w port.lane) (sym p.rows) own

-- a port is that of its own view
pub port_at : (ops : List Op) (vs : List Strided) (ports : List Port) (k : ℕ) (port : Port) → ArePorts ops vs ports → k < length ports → port ≡ get_or ports k port → IsPort ops port.rows port
port_at ops vs ports k port a l is =
    let below : k < length vs = subst (λ n. k < n) a.long l in
    let v : (v : Strided) × (v ≡ get_or vs k v) = item_at vs k below in
    let p : IsPort ops v.0 port = a.each k v.0 port below v.1 is in
    subst (λ w. IsPort ops w port) (sym p.rows) p

module _ (ops : List Op) (room : ℕ) (lanes : List Buffer) (typed : TypedLanes ops room lanes) (v : Strided) (r : ℕ) (is : r ≡ number_in (register_views ops) v) (on : loaded (register_views ops) v ≡ true) where
  lane_typed : IsLane (elem_of ops v.base) room (slice_get lanes r)
  lane_typed = subst (λ q. IsLane (elem_of ops v.base) room (slice_get lanes q)) (sym is) (typed v on)

  pub lane_inside : r < length lanes
  lane_inside = in_lanes (elem_of ops v.base) room lanes r lane_typed

  pub lane_there : (lane : Buffer) → lane ≡ get_or lanes r lane → slice_get lanes r ≡ Some lane
  lane_there lane e = read_lane lanes r lane lane_inside e

  pub lane_is_typed : (lane : Buffer) → lane ≡ get_or lanes r lane → IsLane (elem_of ops v.base) room (Some lane)
  lane_is_typed lane e = subst (IsLane (elem_of ops v.base) room) (lane_there lane e) lane_typed

pub registered : (ops : List Op) (vs : List Strided) (ports : List Port) → ArePorts ops vs ports → (k : ℕ) (v : Strided) → k < length vs → v ≡ get_or vs k v → loaded (register_views ops) v ≡ true
registered ops vs ports a k v l e =
    let port : (p : Port) × (p ≡ get_or ports k p) = item_at ports k (subst (λ n. k < n) (sym a.long) l) in
    (a.each k v port.0 l e port.1).register
