-- What opening a block leaves.
use Rattle.std.specs.Prelude.{ℕ, ◌≡◌, ◌+◌, List, Bool, true, false, not, cond, is_none, map, length, take, Option, None, IsSome, Vec}
use Rattle.std.specs.List.{filter, list_all}
use Rattle.arr_view.specs.Strided.{Strided}
use Rattle.arr_view.specs.Views.{has}
use Rattle.arr_ops.specs.declared.op.Op.{Op}
use Rattle.arr_ops.specs.Memory.{Cell}
use Rattle.arr_ops.specs.Ops.{creates, freed_by, outputs}
use Rattle.arr_ops.specs.Plans.{numbered, ops_of}
use Rattle.arr_ops.specs.Traffic.{created}
use Rattle.arr_store.specs.Stored.{Stored, cells}
use Rattle.arr_strips.specs.Columns.{opened_by, opening}

-- the bases that an operation creates
abbrev pub made_by : Op → List ℕ
made_by op = map (λ (o : Strided). o.base) (filter (λ _. op.makes) (outputs op))

-- with zeros for the bases that some operations of a block create and that the block does not free
abbrev pub opened_for : List Op → List Op → (ℕ → Option Cell) → ℕ → Option Cell
opened_for ops some f b = cond (freed_by ops b) (f b) (opening some b (f b))

-- the bases that some operations of a block create and that the block does not free
abbrev pub kept_bases : List Op → List Op → List ℕ
kept_bases ops some = filter (λ b. not (freed_by ops b)) (created some)

-- how many buffers a block of a list needs
abbrev pub buffers_for : List Op → List ℕ → ℕ
buffers_for list block = length (kept_bases (ops_of (numbered list) block) (ops_of (numbered list) block))

-- the bases before a block was opened: those that it creates were not there
abbrev pub unopened : List Op → (ℕ → Option Cell) → ℕ → Option Cell
unopened ops f b = cond (creates ops b) None (f b)

-- a store before and after buffers were made for some operations of a block: one for each of these bases, and nothing else changed
pub record OpenedFor (ops some : List Op) (before after : Stored) : Type 0 where
  pub bases : cells after ≡ opened_for ops some (cells before)
  pub made : after.made ≡ before.made + length (kept_bases ops some)
  pub loads : after.loads ≡ before.loads
  pub stores : after.stores ≡ before.stores

-- the buffers of some first operations of a block were made
abbrev pub PartOpened : List Op → Stored → Stored → Type 0
PartOpened ops before after = (n : ℕ) × OpenedFor ops (take n ops) before after

-- the bases that an operation creates, but for the contracted ones
abbrev pub kept_of : List ℕ → Op → List ℕ
kept_of contracted op = filter (λ b. not (has contracted b)) (made_by op)

abbrev pub are_absent : (ℕ → Option Cell) → List ℕ → Bool
are_absent f bs = list_all (λ b. is_none (f b)) bs

-- the bases before and after the one that an operation creates was opened, unless it is a contracted one
abbrev pub IsOpened : List ℕ → Op → (ℕ → Option Cell) → (ℕ → Option Cell) → Type 0
IsOpened contracted op before after = (b : ℕ) → after b ≡ cond (has contracted b) (before b) (opened_by op b (before b))

-- what a block frees is there if the block does not create it, and else not
abbrev pub FreedAreThere : List Op → (ℕ → Option Cell) → Type 0
FreedAreThere ops f = (b : ℕ) → freed_by ops b ≡ true → creates ops b ≡ false → IsSome (f b)

abbrev pub ContractedAreAbsent : List Op → (ℕ → Option Cell) → Type 0
ContractedAreAbsent ops f = (b : ℕ) → freed_by ops b ≡ true → creates ops b ≡ true → f b ≡ None
