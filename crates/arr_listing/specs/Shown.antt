-- What the slot of an operation shows.
use Rattle.std.specs.Prelude.{◌≡◌, ◌==◌, ℕ, ℤ, Bool, true, false, List, [], length, Option, Some, None}
use Rattle.arr_view.specs.Views.{positions}
use Rattle.arr_ops.specs.declared.op.Op.{Op}
use Rattle.arr_ops.specs.Formed.{is_array}
use Rattle.arr_ops.specs.Memory.{Slot, lengths_of}
use Rattle.arr_store.specs.Slots.{slots_of}
use Rattle.arr_listing.specs.Texts.{array_text}

-- the numbers of a slot, if it is there
abbrev pub numbers_of : Option Slot → List ℤ
numbers_of None = []
numbers_of (Some s) = s.numbers

-- the numbers of the slot with a number
abbrev pub slot_numbers : List Slot → ℕ → List ℤ
slot_numbers slots slot = numbers_of (slots_of slots slot)

-- its text
abbrev pub shown_text : Option Slot → List ℕ
shown_text None = []
shown_text (Some s) = array_text s

-- The slot is there, with the type and the shape of the view that the operation shows and a number at each position.
pub record Shows (op : Op) (slot : Option Slot) : Type 0 where
  pub array : is_array op.first ≡ true
  pub numbers : List ℤ
  pub is : slot ≡ Some (record { elem = op.from; lengths = lengths_of op.first; numbers = numbers })
  pub count : length numbers ≡ positions (lengths_of op.first)

-- it is this slot
abbrev pub is_slot : ℕ → Option ℕ → Bool
is_slot slot None = false
is_slot slot (Some own) = own == slot
