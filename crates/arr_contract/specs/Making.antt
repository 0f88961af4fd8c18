-- The lanes of a block.
use Rattle.std.specs.Prelude.{ℕ, ◌≡◌, ◌≤◌, true, List, [], ◌∷◌, ◌++◌, map, replicate, Option, Some, None, slice_get}
use Rattle.std.specs.List.{flat_map}
use Rattle.arr_num.specs.declared.elem.Elem.{Elem}
use Rattle.arr_num.specs.declared.elem.Elem.TheVariants.{U64}
use Rattle.arr_num.specs.Numbers.{in_type}
use Rattle.arr_num.specs.declared.code.Code.{Code}
use Rattle.arr_num.specs.declared.code.Code.TheVariants.{Power}
use Rattle.arr_view.specs.Strided.{Strided}
use Rattle.arr_view.specs.Views.{positions}
use Rattle.arr_ops.specs.declared.op.Op.{Op}
use Rattle.arr_ops.specs.declared.op.Operand.{Operand}
use Rattle.arr_ops.specs.declared.op.Operand.TheVariants.{Array, Number}
use Rattle.arr_ops.specs.Costs.{elem_of}
use Rattle.arr_ops.specs.Memory.{Cell}
use Rattle.arr_store.specs.Cells.{blank}
use Rattle.arr_strips.specs.Blocks.{block_positions}
use Rattle.arr_strips.specs.Registers.{number_in, register_views}
use Rattle.arr_strips.specs.Strips.{loaded}
use Rattle.arr_lanes.specs.Lanes.{IsLane}
use Rattle.arr_machine.specs.declared.walk.Machine.{Machine}
use Rattle.arr_contract.specs.Prepared.{writer}

-- one number at each of so many places, for a constant; nothing for another operand
abbrev pub constant_cell : Elem → ℕ → Option Operand → Cell
constant_cell t room (Some (Number z)) = record { elem = t; numbers = replicate room z }
constant_cell t room _ = blank t 0

-- an exponent is no number of the type
abbrev pub kept_second : Code → Option Operand → Option Operand
kept_second Power o = None
kept_second _ o = o

abbrev pub constant_cells : ℕ → Op → List Cell
constant_cells room op = constant_cell op.from room op.first ∷ constant_cell op.from room (kept_second op.code op.second) ∷ []

abbrev pub view_cells : List Op → ℕ → List Strided → List Cell
view_cells ops room vs = map (λ (v : Strided). blank (elem_of ops v.base) room) vs

-- so many numbers for each view, and two lanes for each operation, which hold its constants
abbrev pub lane_cells : List Op → ℕ → List Strided → List Cell
lane_cells ops room vs = view_cells ops room vs ++ flat_map (constant_cells room) ops

-- the lane of an operand: the register of a view, that of a constant, or another for none
abbrev pub operand_lane : List Strided → ℕ → ℕ → Option Operand → ℕ
operand_lane vs constant other None = other
operand_lane vs constant other (Some (Number z)) = constant
operand_lane vs constant other (Some (Array v)) = number_in vs v

-- a constant from 0 to 18446744073709551615
abbrev pub IsExponent : Option Operand → Type 0
IsExponent None = ⊥
IsExponent (Some (Number z)) = in_type U64 z ≡ true
IsExponent (Some (Array v)) = ⊥

-- a view is a register, and has as many positions as the block
pub record IsWalked (ops : List Op) (v : Strided) : Type 0 where
  pub register : loaded (register_views ops) v ≡ true
  pub long : positions v.lengths ≡ block_positions ops

-- what a block with a serial operation has for it: a lane of the type of the first operation that writes
pub record HasLane (ops : List Op) (m : Machine) : Type 0 where
  pub some : 1 ≤ m.room
  pub lane : (op : Op) → writer ops ≡ Some op → IsLane op.to m.room (slice_get m.lanes.items 0)
