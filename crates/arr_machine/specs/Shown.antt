-- Slots, position by position.
use Rattle.std.specs.Prelude.{ℕ, ℤ, ◌≡◌, ◌+◌, ◌==◌, nat_lt, List, [], ◌∷◌, cond, take, length, Option, Some, None}
use Rattle.std.specs.List.{AllByRecursion}
use Rattle.arr_num.specs.declared.elem.Elem.{Elem}
use Rattle.arr_ops.specs.declared.op.Op.{Op}
use Rattle.arr_ops.specs.Memory.{Slot, lengths_of}
use Rattle.arr_store.specs.Slots.{slot_number}
use Rattle.arr_strips.specs.Blocks.{block_positions}
use Rattle.arr_strips.specs.Columns.{Columns, next, taken}

abbrev pub shown_number : Option ℕ → ℤ → ℕ → ℤ → ℤ
shown_number None x s c = c
shown_number (Some k) x s c = cond (k == s) x c

-- the number of slot s at position q after some operations
abbrev pub show_number : List Op → Columns → ℕ → ℕ → ℤ → ℤ
show_number [] h q s c = c
show_number (op ∷ ops) h q s c = show_number ops (next op h) q s (shown_number op.slot (taken (h q) op.first) s c)

-- the type, the lengths and the count of a slot
abbrev pub frame : Option Slot → Option (Elem × (List ℕ × ℕ))
frame None = None
frame (Some c) = Some (c.elem, (c.lengths, length c.numbers))

-- a slot has the type, the lengths and the count of what an operation shows in it
abbrev pub Matches : ℕ → Op → ℕ → Option Slot → Type 0
Matches n op s c = op.slot ≡ Some s → frame c ≡ Some (op.from, (lengths_of op.first, n))

-- each slot that a block shows has the type, the lengths and the count of what is shown in it
abbrev pub SlotsMatch : List Op → (ℕ → Option Slot) → Type 0
SlotsMatch ops f = (s : ℕ) → AllByRecursion (λ op. Matches (block_positions ops) op s (f s)) ops

-- how many operations a position has seen: all below p, the first k from there on for c positions, and none behind
abbrev pub seen : ℕ → ℕ → ℕ → ℕ → ℕ → ℕ
seen all p c k q = cond (nat_lt q p) all (cond (nat_lt q (p + c)) k 0)

-- the slots where the positions have seen so many operations each
pub record Showing (ops : List Op) (at : ℕ → ℕ) (h : Columns) (start now : ℕ → Option Slot) : Type 0 where
  pub same : (s : ℕ) → frame (now s) ≡ frame (start s)
  pub numbers : (s q : ℕ) → slot_number (now s) q ≡ show_number (take (at q) ops) h q s (slot_number (start s) q)
