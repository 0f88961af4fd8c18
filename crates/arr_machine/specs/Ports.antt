-- Views that a strip loads or stores.
use Rattle.std.specs.Prelude.{ℕ, ℤ, ◌≡◌, ◌≢◌, ◌≤◌, ◌+◌, ◌-◌, ◌<◌, List, true, get_or, length, Option}
use Rattle.arr_view.specs.Strided.{Strided}
use Rattle.arr_view.specs.Views.{elements, positions}
use Rattle.arr_ops.specs.declared.op.Op.{Op}
use Rattle.arr_ops.specs.Costs.{elem_of, reads, total}
use Rattle.arr_ops.specs.Memory.{Cell}
use Rattle.arr_picks.specs.Picks.{AllBelow}
use Rattle.arr_store.specs.Cells.{number_at, size_at, width_at}
use Rattle.arr_store.specs.Runs.{IsOf}
use Rattle.arr_strips.specs.Blocks.{block_positions}
use Rattle.arr_strips.specs.Columns.{Columns, place_at}
use Rattle.arr_strips.specs.Registers.{number_in, register_views}
use Rattle.arr_strips.specs.Strips.{loaded}
use Rattle.arr_lanes.specs.declared.strip.Place.{Place}
use Rattle.arr_lanes.specs.declared.strip.Strip.{Strip}
use Rattle.arr_machine.specs.Lent.{is_lent}
use Rattle.arr_machine.specs.declared.port.Port.{Port}

-- each view of a list with the lane that is its register
pub record IsPort (ops : List Op) (v : Strided) (port : Port) : Type 0 where
  pub rows : port.rows ≡ v
  pub lane : port.lane ≡ number_in (register_views ops) v
  pub register : loaded (register_views ops) v ≡ true
  pub long : positions v.lengths ≡ block_positions ops
  pub lent : port.is_lent ≡ is_lent ops v

pub record ArePorts (ops : List Op) (vs : List Strided) (ports : List Port) : Type 0 where
  pub long : length ports ≡ length vs
  pub each : (k : ℕ) (v : Strided) (port : Port) → k < length vs → v ≡ get_or vs k v → port ≡ get_or ports k port → IsPort ops v port

-- the base of a view is there, of the type that a block gives it, and the view lies inside
pub record IsThere (ops : List Op) (f : ℕ → Option Cell) (v : Strided) : Type 0 where
  pub typed : IsOf (elem_of ops v.base) (f v.base)
  pub inside : AllBelow (size_at (f v.base)) (elements v)

-- what lanes hold at each place of a strip that begins at p, as columns
abbrev pub lane_columns : List Op → (ℕ → ℕ → ℤ) → ℕ → Columns
lane_columns ops held p q v = held (number_in (register_views ops) v) (q - p)

-- how many bytes one number of each of the views takes
abbrev pub widths : (ℕ → Option Cell) → List Strided → ℕ
widths f vs = total (λ (v : Strided). width_at (f v.base)) vs

-- the register of each view that the block reads holds the numbers of the view at the strip
abbrev pub AreLoaded : List Op → Strip → (ℕ → Option Cell) → (ℕ → ℕ → ℤ) → Type 0
AreLoaded ops s f held =
    (v : Strided) → loaded (reads ops) v ≡ true → (i : ℕ) → i < s.count
    → held (number_in (register_views ops) v) i ≡ number_at (f v.base) (place_at v (s.position + i))

-- one more view is loaded: its register holds its numbers at the strip, and every other register what it held
pub record Brings (ops : List Op) (s : Strip) (v : Strided) (f : ℕ → Option Cell) (before after : ℕ → ℕ → ℤ) : Type 0 where
  pub here : (i : ℕ) → i < s.count → after (number_in (register_views ops) v) i ≡ number_at (f v.base) (place_at v (s.position + i))
  pub others : (r i : ℕ) → number_in (register_views ops) v ≢ r → after r i ≡ before r i

-- a place is where a view stands at a strip, with numbers enough behind it
pub record StandsAt (ops : List Op) (s : Strip) (f : ℕ → Option Cell) (v : Strided) (p : Place) : Type 0 where
  pub base : p.base ≡ v.base
  pub each : (i : ℕ) → i < s.count → place_at v (s.position + i) ≡ p.start + i
  pub long : p.start + s.width ≤ size_at (f v.base)
  pub lent : is_lent ops v ≡ true
