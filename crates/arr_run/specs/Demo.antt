-- What the demo prints: the size of its script, what the plan of each flush costs and moves, and the sum of each array.
use Rattle.std.specs.Prelude.{ℕ, suc, ◌==◌, cond, List, [], ◌∷◌, ◌++◌, length, codes, decimal}
use Rattle.std.specs.Option.{unwrap_or}
use Rattle.arr_ops.specs.declared.op.Op.{Op}
use Rattle.arr_ops.specs.Costs.{cost}
use Rattle.arr_ops.specs.Memory.{Slot}
use Rattle.arr_record.specs.declared.part.Part.{Part}
use Rattle.arr_record.specs.declared.part.Part.TheVariants.{Flush}
use Rattle.arr_listing.specs.Totals.{totals_text}
use Rattle.arr_rewrite.specs.NormalForm.{normal_form}
use Rattle.arr_run.specs.declared.choice.Choice.{Choice}
use Rattle.arr_run.specs.declared.choice.Fuse.TheVariants.{Best}
use Rattle.arr_run.specs.declared.choice.Listing.TheVariants.{Quiet}
use Rattle.arr_run.specs.declared.planning.Planned.{Planned}
use Rattle.arr_run.specs.declared.summary.Summary.{Summary}
use Rattle.arr_run.specs.Checked.{mark_of}
use Rattle.arr_run.specs.Pieces.{PlannedPart, PlannedParts, number_behind, plan_rise}

-- how a demo is planned; no plan is listed
abbrev pub demo_choice : Choice
demo_choice = record { fuse = Best; budget = 2000; listing = Quiet }

-- ---- the script

-- how many line feeds a text has
abbrev pub feeds : List ℕ → ℕ
feeds [] = 0
feeds (byte ∷ bytes) = cond (byte == 10) (suc (feeds bytes)) (feeds bytes)

-- how many bytes and lines a script has
unfoldable pub script_line : List ℕ → List ℕ
script_line script = codes "script bytes " ++ decimal (length script) ++ codes " lines " ++ decimal (feeds script) ++ codes "\n"

-- ---- flushes

-- a flush: its number, how many operations it has as recorded and as rewritten, its plan's blocks and cost, the bound, and the units spent
unfoldable pub plan_words : Summary → List ℕ
plan_words s =
    codes "flush " ++ decimal s.number ++ codes " recorded " ++ decimal s.recorded ++ codes " rewritten " ++ decimal s.rewritten
    ++ codes " blocks " ++ decimal s.blocks ++ codes " cost " ++ decimal s.cost ++ codes " bound " ++ decimal s.bound ++ codes " units " ++ decimal s.units

-- its line: these, whether the plan costs just the bound, and by how much the counters rose
unfoldable pub summary_text : Summary → List ℕ
summary_text s =
    plan_words s ++ codes " " ++ mark_of (s.cost, s.bound)
    ++ codes " loads " ++ decimal s.loads ++ codes " stores " ++ decimal s.stores ++ codes " made " ++ decimal s.made ++ codes "\n"

-- what there is to tell of a flush, by the list that was recorded and what was planned for it; best always has a bound
abbrev pub summary_of : ℕ → List Op → Planned → Summary
summary_of number list p = record {
  number = number;
  recorded = length list;
  rewritten = length (normal_form list);
  blocks = length p.plan;
  cost = cost (normal_form list) p.plan;
  bound = unwrap_or p.bound 0;
  units = p.units;
  loads = (plan_rise (normal_form list) p.plan).loads;
  stores = (plan_rise (normal_form list) p.plan).stores;
  made = (plan_rise (normal_form list) p.plan).made;
}

-- the line of a part; a gather or scatter has none
abbrev pub part_summary : (number : ℕ) (part : Part) → PlannedPart demo_choice number part → List ℕ
part_summary number (Flush list) planned = summary_text (summary_of number list planned.0)
part_summary number _ planned = []

-- those of parts, the next flush having this number
abbrev pub summaries : (number : ℕ) (parts : List Part) → PlannedParts demo_choice number parts → List ℕ
summaries number [] planned = []
summaries number (part ∷ parts) planned = part_summary number part planned.0 ++ summaries (number_behind part number) parts planned.1

-- ---- all of it

-- the size of the script, the lines of the flushes, and the arrays with their sums, numbered from 1
abbrev pub demo_lines : List ℕ → (parts : List Part) → PlannedParts demo_choice 1 parts → List Slot → List ℕ
demo_lines script parts planned arrays = script_line script ++ summaries 1 parts planned ++ totals_text 1 arrays
