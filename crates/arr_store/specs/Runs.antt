-- Numbers of a base that lie a stride apart.
use Rattle.std.specs.Prelude.{ℕ, zero, suc, ℤ, pos, ◌≡◌, ◌<◌, ◌+ℤ◌, true, List, map, Option, Some, None}
use Rattle.std.specs.List.{range_with_len}
use Rattle.arr_num.specs.declared.elem.Elem.{Elem}
use Rattle.arr_view.specs.Views.{to_place, is_place}
use Rattle.arr_ops.specs.Memory.{Cell, Slot, Writes, changed, write}

-- i strides on from z
abbrev pub moved : ℤ → ℤ → ℕ → ℤ
moved z s zero = z
moved z s (suc i) = moved (z +ℤ s) s i

abbrev pub run_place : ℕ → ℤ → ℕ → ℕ
run_place start stride i = to_place (moved (pos start) stride i)

abbrev pub run_places : ℕ → ℤ → ℕ → List ℕ
run_places start stride count = map (run_place start stride) (range_with_len 0 count)

-- the places of a run are among so many
abbrev pub LiesIn : ℕ → ℕ → ℤ → ℕ → Type 0
LiesIn size start stride count = (i : ℕ) → i < count → (is_place (moved (pos start) stride i) ≡ true) × (run_place start stride i < size)

-- a cell is there, and of the type
abbrev pub IsOf : Elem → Option Cell → Type 0
IsOf t None = ⊥
IsOf t (Some c) = t ≡ c.elem

-- a cell with numbers written at places
abbrev pub with_places : Cell → List ℕ → List ℤ → Cell
with_places c es xs = record { elem = c.elem; numbers = write es xs c.numbers }

-- the same, where there is a cell and the places are those of a run
abbrev pub with_run : Option Cell → ℕ → ℤ → ℕ → List ℤ → Option Cell
with_run c start stride count xs = changed (Writes (run_places start stride count) xs) c

-- a slot is there, and of the type
abbrev pub IsOfSlot : Elem → Option Slot → Type 0
IsOfSlot t None = ⊥
IsOfSlot t (Some s) = t ≡ s.elem

-- a slot with numbers written at the places of a run
abbrev pub with_slot_run : Option Slot → ℕ → ℤ → ℕ → List ℤ → Option Slot
with_slot_run None start stride count xs = None
with_slot_run (Some s) start stride count xs = Some (record { elem = s.elem; lengths = s.lengths; numbers = write (run_places start stride count) xs s.numbers })
