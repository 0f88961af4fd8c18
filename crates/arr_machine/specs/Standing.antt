-- Where a walk stands between two operations of a block, in the strip of c positions from p on.
use Rattle.std.specs.Prelude.{ℕ, ℤ, ◌≡◌, ◌+◌, ◌<◌, ◌≤◌, nat_lt, true, List, cond, get_or, take, length, Option}
use Rattle.arr_view.specs.Strided.{Strided}
use Rattle.arr_ops.specs.declared.op.Op.{Op}
use Rattle.arr_ops.specs.Formed.{each_typed}
use Rattle.arr_ops.specs.Memory.{Cell, Slot}
use Rattle.arr_ops.specs.Traffic.{scratch}
use Rattle.arr_store.specs.declared.buffer.Buffer.{Buffer}
use Rattle.arr_strips.specs.Blocks.{block_positions, is_block}
use Rattle.arr_strips.specs.Columns.{Columns, ends}
use Rattle.arr_strips.specs.Registers.{number_in, register_views}
use Rattle.arr_store.specs.Slots.{slots_of}
use Rattle.arr_lanes.specs.Lanes.{PlacesFit, held}
use Rattle.arr_lanes.specs.declared.strip.Place.{Place}
use Rattle.arr_lanes.specs.declared.strip.Strip.{Strip}
use Rattle.arr_machine.specs.Lent.{AreOwn}
use Rattle.arr_machine.specs.Needed.{needed}
use Rattle.arr_machine.specs.Kept.{AllKept, OpKept, TypedKept, kept_from}
use Rattle.arr_machine.specs.Shown.{Showing, seen}
use Rattle.arr_machine.specs.Tasks.{TypedLanes}

-- some positions of a block's walk, for lanes with room for so many numbers
pub record IsStripOf (ops : List Op) (p c room : ℕ) : Type 0 where
  pub block : is_block ops ≡ true
  pub types : each_typed ops ≡ true
  pub some : 1 ≤ c
  pub within : c ≤ room
  pub inside : p + c ≤ block_positions ops

-- before operation k: the registers of views that are still needed hold the columns there, the first k operations have done the
-- strip, and slots held `start` when the walk began
pub record Standing (ops : List Op) (p c k : ℕ) (h : Columns) (start : ℕ → Option Slot) (held : ℕ → ℕ → ℤ) (numbers : List ℤ) (slots : ℕ → Option Slot) : Type 0 where
  pub row : (v : Strided) → needed ops k v ≡ true → (i : ℕ) → i < c → held (number_in (register_views ops) v) i ≡ ends (take k ops) h (p + i) v
  pub kept : AllKept ops k (p + c) p h numbers
  pub shown : Showing ops (seen (length ops) p c k) h start slots

-- wherever a walk stood before operation j, it stands before operation k
abbrev pub Advances : List Op → ℕ → ℕ → ℕ → ℕ → (ℕ → ℕ → ℤ) → List ℤ → (ℕ → Option Slot) → (ℕ → ℕ → ℤ) → List ℤ → (ℕ → Option Slot) → Type 0
Advances ops p c j k held numbers slots held' numbers' slots' =
    (h : Columns) (start : ℕ → Option Slot) → Standing ops p c j h start held numbers slots → Standing ops p c k h start held' numbers' slots'

-- the same of lanes at a strip, whatever slots hold
abbrev pub Computes : List Op → Strip → List (Option Place) → (ℕ → Option Cell) → ℕ → ℕ → List Buffer → List ℤ → List Buffer → List ℤ → Type 0
Computes ops s places f j k lanes numbers lanes' numbers' =
    (slots : ℕ → Option Slot) → Advances ops s.position s.count j k (held lanes places f) numbers slots (held lanes' places f) numbers' slots

-- the same from some slots to others
abbrev pub GoesOn : List Op → Strip → List (Option Place) → (ℕ → Option Cell) → ℕ → ℕ → List Buffer → List ℤ → List Slot → List Buffer → List ℤ → List Slot → Type 0
GoesOn ops s places f j k lanes numbers slots lanes' numbers' slots' =
    Advances ops s.position s.count j k (held lanes places f) numbers (slots_of slots) (held lanes' places f) numbers' (slots_of slots')

-- lanes, places in bases and numbers have room and types for the operations of a block at c positions, in loops over some more
pub record IsReady (ops : List Op) (c width room : ℕ) (lanes : List Buffer) (places : List (Option Place)) (f : ℕ → Option Cell) (numbers : List ℤ) : Type 0 where
  pub typed : TypedLanes ops room lanes
  pub placed : PlacesFit width lanes places f
  pub own : AreOwn ops places
  pub within : c ≤ width
  pub wide : width ≤ room
  pub long : length numbers ≡ scratch ops
  pub kept : TypedKept ops numbers

-- the same at a strip
abbrev pub ReadyAt : List Op → Strip → List Buffer → List (Option Place) → (ℕ → Option Cell) → List ℤ → Type 0
ReadyAt ops s = IsReady ops s.count s.width s.room

-- between two strips: all operations have done the positions below p, and none has seen the others
pub record Resting (ops : List Op) (p : ℕ) (h : Columns) (start : ℕ → Option Slot) (numbers : List ℤ) (slots : ℕ → Option Slot) : Type 0 where
  pub kept : (j : ℕ) (op : Op) → j < length ops → op ≡ get_or ops j op → OpKept p (kept_from ops j) op (ends (take j ops) h) numbers
  pub shown : Showing ops (λ q. cond (nat_lt q p) (length ops) 0) h start slots
