-- What running the parts of a demo does.
use Rattle.std.specs.Prelude.{◌≡◌, ◌+◌, ℕ, suc, List, ◌++◌, Option, length}
use Rattle.std.specs.List.{flat_map}
use Rattle.std.specs.Option.{option_to_list}
use Rattle.std.specs.Io.KnownBytes.{Appends}
use Rattle.arr_io.specs.declared.sink.Sink.{Ghosts}
use Rattle.arr_io.specs.Taken.{AppendsPart}
use Rattle.arr_listing.specs.Totals.{totals_text}
use Rattle.arr_ops.specs.declared.op.Op.{Op}
use Rattle.arr_ops.specs.Memory.{Memory, Slot}
use Rattle.arr_record.specs.declared.part.Part.{Part}
use Rattle.arr_record.specs.Runs.{printed_parts}
use Rattle.arr_store.specs.Stored.{Stored, memory_of}
use Rattle.arr_run.specs.declared.demo.Totals.{Totals}
use Rattle.arr_run.specs.Demo.{demo_choice, demo_lines, part_summary, summaries}
use Rattle.arr_run.specs.Parts.{AppendsFront, Begun}
use Rattle.arr_run.specs.Pieces.{PlannedPart, PlannedParts, Rises, rise_of, rises, sum_of}

-- ---- sums

-- the slot of an operation, if it has one
abbrev pub shown_slot : (ℕ → Option Slot) → Op → List Slot
shown_slot slots op = flat_map (λ s. option_to_list (slots s)) (option_to_list op.slot)

-- those of a list, in its order
abbrev pub shown_slots : (ℕ → Option Slot) → List Op → List Slot
shown_slots slots ops = flat_map (shown_slot slots) ops

-- The lines of these arrays were added, which are numbered behind those that were there.
pub record Adds (old new : Totals) (arrays : List Slot) : Type 0 where
  pub lines : new.lines.items ≡ old.lines.items ++ totals_text (suc old.count) arrays
  pub count : new.count ≡ old.count + length arrays

-- ---- one part

-- The part was planned, its line was written, and the counters rose as far as it raises them.
pub record PartSummed (number : ℕ) (part : Part) (old new : Option (List ℕ)) (store after : Stored) : Type 0 where
  pub planned : PlannedPart demo_choice number part
  pub wrote : Appends old new (part_summary number part planned)
  pub counts : Rises (rise_of demo_choice number part planned) store after

-- The part was planned, and a byte of its line is missing.
pub record PartCut (number : ℕ) (part : Part) (old new : Option (List ℕ)) : Type 0 where
  pub planned : PlannedPart demo_choice number part
  pub wrote : AppendsPart old new (part_summary number part planned)

-- ---- parts one after another

-- All parts were planned, their lines were written, and the counters rose as far as they raise them.
pub record PartsSummed (parts : List Part) (old new : Option (List ℕ)) (store after : Stored) : Type 0 where
  pub planned : PlannedParts demo_choice 1 parts
  pub wrote : Appends old new (summaries 1 parts planned)
  pub counts : Rises (sum_of (rises demo_choice 1 parts planned)) store after

-- A byte is missing of the lines of the parts that were begun.
pub record PartsCut (parts : List Part) (old new : Option (List ℕ)) : Type 0 where
  pub begun : Begun demo_choice parts
  pub wrote : AppendsPart old new (summaries 1 begun.front begun.planned)

-- The lines of some first parts were written.
pub record PartsBroke (parts : List Part) (old new : Option (List ℕ)) : Type 0 where
  pub begun : Begun demo_choice parts
  pub wrote : Appends old new (summaries 1 begun.front begun.planned)

-- ---- a whole demo

-- All parts were planned, all lines were written, and the counters rose as far as the parts raise them.
pub record DemoWrote (script : List ℕ) (m : Memory) (parts : List Part) (old new : Option (List ℕ)) (store after : Stored) : Type 0 where
  pub planned : PlannedParts demo_choice 1 parts
  pub wrote : Appends old new (demo_lines script parts planned (printed_parts m parts))
  pub counts : Rises (sum_of (rises demo_choice 1 parts planned)) store after

-- A byte of the lines is missing.
pub record DemoCut (script : List ℕ) (m : Memory) (parts : List Part) (old new : Option (List ℕ)) : Type 0 where
  pub begun : Begun demo_choice parts
  pub wrote : AppendsPart old new (demo_lines script begun.front begun.planned (printed_parts m parts))

-- A front of the lines was written.
pub record DemoBroke (script : List ℕ) (m : Memory) (parts : List Part) (old new : Option (List ℕ)) : Type 0 where
  pub begun : Begun demo_choice parts
  pub wrote : AppendsFront old new (demo_lines script begun.front begun.planned (printed_parts m parts))

-- these three of a call, by its sink and its store before and after
abbrev pub WritesDemo : {K : Type 0} → Ghosts K → List ℕ → List Part → K → K → Stored → Stored → Type 0
WritesDemo g script parts old new store after = DemoWrote script (memory_of store) parts (g.written old) (g.written new) store after

abbrev pub CutsDemo : {K : Type 0} → Ghosts K → List ℕ → List Part → K → K → Stored → Type 0
CutsDemo g script parts old new store = DemoCut script (memory_of store) parts (g.written old) (g.written new)

abbrev pub BreaksDemo : {K : Type 0} → Ghosts K → List ℕ → List Part → K → K → Stored → Type 0
BreaksDemo g script parts old new store = DemoBroke script (memory_of store) parts (g.written old) (g.written new)
