-- A block that was opened, is walked, and ends.
use Rattle.std.proofs.Common.{◌≡◌, ℕ, ◌+◌, ◌*◌, ◌≤◌, ℤ, List, true, false, cond, Option, Some, None, length, refl, ap, sym, subst, ◌∙◌, arith}
use Rattle.std.specs.Prelude.{IsSome}
use Rattle.std.specs.List.{AllByRecursion, list_any}
use Rattle.arr_ops.specs.declared.op.Op.{Op}
use Rattle.arr_ops.specs.Costs.{reads, total, weight, writes}
use Rattle.arr_ops.specs.Fits.{fits, op_fits}
use Rattle.arr_ops.specs.Memory.{Cell, Memory, Slot, eager, without_slots}
use Rattle.arr_ops.specs.Ops.{creates, freed_by, serial}
use Rattle.arr_ops.proofs.Pairs.{All_weaker}
use Rattle.arr_ops.proofs.Spots.{created_absent}
use Rattle.arr_ops.proofs.Tests.{all_of}
use Rattle.arr_loop.proofs.Slots.{same_bases}
use Rattle.arr_store.specs.Cells.{width_at}
use Rattle.arr_store.specs.Slots.{slots_of}
use Rattle.arr_store.specs.Stored.{Stored, cells}
use Rattle.arr_view.specs.Strided.{Strided}
use Rattle.arr_strips.specs.Blocks.{block_positions, fold_stores, is_block, stores}
use Rattle.arr_strips.specs.Columns.{dropped, opening}
use Rattle.arr_strips.specs.Strips.{Bases, outline}
use Rattle.arr_strips.specs.Sums.{closed_by}
use Rattle.arr_strips.proofs.Blocks.{Block, block_of}
use Rattle.arr_strips.proofs.ByteLaws.{reads_weigh, writes_weigh}
use Rattle.arr_strips.proofs.StripLaws.{begin}
use Rattle.arr_strips.proofs.Totals.{sums_end}
use Rattle.arr_contract.specs.Prepared.{may_share_block}
use Rattle.arr_contract.proofs.Parallel.{block_typed, parallel_block}
use Rattle.arr_machine.specs.Kept.{StartsFolds}
use Rattle.arr_machine.specs.Machines.{Walks}
use Rattle.arr_machine.specs.Ports.{IsThere}
use Rattle.arr_machine.specs.Shown.{SlotsMatch}
use Rattle.arr_machine.proofs.Rests.{all_gathered, rests_first}
use Rattle.arr_machine.proofs.Saves.{there_alike}
use Rattle.arr_loop.specs.Ready.{IsOpen, before_open}
use Rattle.arr_loop.specs.Sums.{sum_kept}
use Rattle.arr_loop.proofs.Bounds.{light_views, writes_light}
use Rattle.arr_loop.proofs.Shares.{all_well}
use Rattle.arr_loop.proofs.Shown.{slots_left, slots_match}
use Rattle.arr_loop.proofs.There.{reads_there, stores_there, sums_there, widths_there}
use Rattle.arr_loop.proofs.Writing.{freed_there}

-- ---- bases that keep type and length

none_alike : (c d : Option Cell) → outline c ≡ outline d → d ≡ None → c ≡ None
none_alike None d e n = refl
none_alike (Some c) d e n = let no : outline (Some c) ≡ None = e ∙ ap outline n in absurd (cc)

some_alike : (c d : Option Cell) → outline c ≡ outline d → IsSome d → IsSome c
some_alike (Some c) d e h = refl
some_alike None None e h = h
some_alike None (Some d) e h = absurd (cc)

-- ---- an opened block

-- the memory before a block was opened, without slots
abbrev pub bare : List Op → Stored → List Slot → Memory
bare ops store slots = without_slots (before_open ops store slots)

module _ (ops : List Op) (store : Stored) (slots : List Slot) (share : may_share_block ops ≡ true) (none : list_any serial ops ≡ false) (opens : IsOpen ops store slots) where
  is : is_block ops ≡ true
  is = parallel_block ops share none

  block : Block ops
  block = block_of ops is

  -- what it loads and stores is there
  pub reads_open : AllByRecursion (IsThere ops (cells store)) (reads ops)
  reads_open = subst (λ (f : Bases). AllByRecursion (IsThere ops f) (reads ops)) (sym opens.opened) (reads_there ops (bare ops store slots) (block_typed ops share) opens.fit)

  pub stores_open : AllByRecursion (IsThere ops (cells store)) (stores ops)
  stores_open = subst (λ (f : Bases). AllByRecursion (IsThere ops f) (stores ops)) (sym opens.opened) (stores_there ops (bare ops store slots) (block_typed ops share) opens.fit block)

  sums_open : AllByRecursion (IsThere ops (cells store)) (fold_stores ops)
  sums_open = subst (λ (f : Bases). AllByRecursion (IsThere ops f) (fold_stores ops)) (sym opens.opened) (sums_there ops (bare ops store slots) (block_typed ops share) opens.fit block)

  pub sums_still : (now : Bases) → ((b : ℕ) → outline (now b) ≡ outline (cells store b)) → AllByRecursion (IsThere ops now) (fold_stores ops)
  sums_still now same = All_weaker (IsThere ops (cells store)) (IsThere ops now) (λ v h. there_alike ops (cells store) now v (same v.base) h) (fold_stores ops) sums_open

  pub slots_open : SlotsMatch ops (slots_of slots)
  slots_open = slots_match ops block (slots_of slots) opens.shown

  -- ---- its walk

  walk_begins : (xs : List ℤ) → StartsFolds ops xs → Walks ops (bare ops store slots) (slots_of slots) 0 (cells store) xs (slots_of slots)
  walk_begins xs starts =
      subst (λ (f : Bases). Walks ops (bare ops store slots) (slots_of slots) 0 f xs (slots_of slots)) (sym opens.opened)
      (begin ops (bare ops store slots), rests_first ops (begin ops (bare ops store slots)).begun xs (slots_of slots) starts)

  -- what a call walks, from such a start
  pub walk_done : (now : List Op) (before after : List ℤ) (f : Bases) (shown : ℕ → Option Slot) → now ≡ ops → StartsFolds ops before
      → ((m : Memory) (start : ℕ → Option Slot) → fits m now ≡ true → Walks now m start 0 (cells store) before (slots_of slots) → Walks now m start (block_positions now) f after shown)
      → Walks ops (bare ops store slots) (slots_of slots) (block_positions ops) f after shown
  walk_done now before after f shown same starts walks =
      subst (λ (os : List Op). Walks os (bare ops store slots) (slots_of slots) (block_positions os) f after shown) same
      (walks (bare ops store slots) (slots_of slots) (ap (fits (bare ops store slots)) same ∙ opens.fit)
      (subst (λ (os : List Op). Walks os (bare ops store slots) (slots_of slots) 0 (cells store) before (slots_of slots)) (sym same) (walk_begins before starts)))

  module _ (now : Bases) (xs : List ℤ) (shown : ℕ → Option Slot) (w : Walks ops (bare ops store slots) (slots_of slots) (block_positions ops) now xs shown) where
    pub bases_end : (b : ℕ) → dropped ops (closed_by ops 0 ops (sum_kept ops xs) now) b ≡ (eager (before_open ops store slots) ops).bases b
    bases_end b =
        sums_end ops (bare ops store slots) now is opens.fit w.0 (sum_kept ops xs) (all_gathered ops (block_positions ops) w.0.begun (slots_of slots) xs shown w.1) b
        ∙ ap (λ (f : Bases). f b) (same_bases ops (bare ops store slots) (before_open ops store slots) refl)

    pub slots_end : shown ≡ (eager (before_open ops store slots) ops).slots
    slots_end = λ i s. slots_left ops (before_open ops store slots) now shown is opens.fit w.0 w.1.shown slots_open s i

  -- ---- its bytes

  pub loads_are : block_positions ops * total (λ (v : Strided). width_at (cells store v.base)) (reads ops) ≡ total (weight ops) (reads ops)
  loads_are =
      ap (λ n. block_positions ops * n) (widths_there ops (cells store) (reads ops) reads_open) ∙ sym (reads_weigh ops (bare ops store slots) ops is opens.fit)

  pub stores_are : block_positions ops * total (λ (v : Strided). width_at (cells store v.base)) (stores ops) + total (weight ops) (fold_stores ops) ≡ total (weight ops) (writes ops)
  stores_are =
      ap (λ n. block_positions ops * n + total (weight ops) (fold_stores ops)) (widths_there ops (cells store) (stores ops) stores_open) ∙ sym (writes_weigh ops (bare ops store slots) ops is opens.fit)

  pub few_stores : length ops ≤ 256 → total (weight ops) (writes ops) ≤ 2147483648
  few_stores few =
      let light : total (weight ops) (writes ops) ≤ length ops * 8388608 =
      writes_light (weight ops) 8388608 ops
      (All_weaker (λ op. Rattle.arr_ops.specs.Formed.well_formed op ≡ true) (λ (op : Op). AllByRecursion (λ v. weight ops v ≤ 8388608) (Rattle.arr_ops.specs.Ops.views op)) (λ op h. light_views ops op h) ops
      (all_of Rattle.arr_ops.specs.Formed.well_formed ops (all_well ops share))) in
      omega arith

  -- ---- the bases that it frees

  opened_freed : (b : ℕ) → freed_by ops b ≡ true → cells store b ≡ (bare ops store slots).bases b
  opened_freed b gone =
      ap (λ (f : Bases). f b) opens.opened ∙ ap (λ z. cond z ((bare ops store slots).bases b) (opening ops b ((bare ops store slots).bases b))) gone

  module _ (now : Bases) (same : (b : ℕ) → outline (now b) ≡ outline (cells store b)) (b : ℕ) (gone : freed_by ops b ≡ true) where
    pub freed_still : creates ops b ≡ false → IsSome (now b)
    freed_still made = some_alike (now b) (cells store b) (same b) (subst (λ c. IsSome c) (sym (opened_freed b gone)) (freed_there (bare ops store slots) ops opens.fit b made gone))

    pub freed_never : creates ops b ≡ true → now b ≡ None
    freed_never made =
        none_alike (now b) (cells store b) (same b)
        (opened_freed b gone ∙ created_absent (bare ops store slots) b ops ops (all_of (op_fits (bare ops store slots) ops) ops opens.fit) made)
