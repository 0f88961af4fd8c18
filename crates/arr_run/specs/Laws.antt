-- What follows from the relation of `serve`, and how many parts stand in so many bytes.
use Rattle.std.specs.Prelude.{◌≡◌, ◌≢◌, ◌⊎◌, ℕ, suc, ◌+◌, ◌-◌, ◌^◌, ◌<◌, ◌≤◌, true, List, [], ◌∷◌, ◌++◌, length, map, Option, Some}
use Rattle.std.specs.List.{flat_map}
use Rattle.std.specs.Option.{option_to_list}
use Rattle.std.specs.Io.KnownBytes.{Appends}
use Rattle.arr_elab.specs.Steps.{eager_arrays}
use Rattle.arr_store.specs.Stored.{Stored}
use Rattle.arr_run.specs.declared.words.Command.TheVariants.{Run, Check}
use Rattle.arr_run.specs.declared.choice.Choice.{Choice}
use Rattle.arr_run.specs.declared.choice.Fuse.TheVariants.{Linear, Best}
use Rattle.arr_run.specs.declared.choice.Listing.TheVariants.{Quiet, Cert}
use Rattle.arr_ops.specs.Costs.{cost}
use Rattle.arr_ops.specs.declared.op.Op.{Op}
use Rattle.arr_heur.specs.Planners.{greedy_plan}
use Rattle.arr_record.specs.declared.part.Part.{Part}
use Rattle.arr_record.specs.declared.part.Part.TheVariants.{Flush}
use Rattle.arr_record.specs.Parts.{parts_of}
use Rattle.arr_rewrite.specs.NormalForm.{normal_form}
use Rattle.arr_run.specs.declared.planning.Planned.{Planned}
use Rattle.arr_run.specs.Chosen.{IsPlanned}
use Rattle.arr_run.specs.Answers.{Blames, Given, IsCheck, IsRun, IsWhole, Serves, check_verdict, is_final, run_text}
use Rattle.arr_run.specs.Checked.{AreBounds, accepted_line, bounds_of, flush_lines, lists_of, most_proof, verdict_status, verdict_text}
use Rattle.arr_run.specs.Pieces.{PlannedPart, PlannedParts, Segment, number_behind, plan_rise, ran, segment_text}
use Rattle.arr_listing.specs.Texts.{array_text}

-- ---- what a status says

-- The text of a whole run was written: for each part in turn its head, which for a flush is what is listed of it, and its share of the
-- eager arrays. Where plans are not listed these arrays are all of it.
pub record PrintsRun (choice : Choice) (script : List ℕ) (old new : Option (List ℕ)) : Type 0 where
  pub run : IsRun choice script
  pub whole : IsWhole run
  pub wrote : Appends old new (run_text run)
  pub quiet : choice.listing ≡ Quiet → run_text run ≡ flat_map array_text (eager_arrays run.steps)

-- at status 0 nothing but that was written
abbrev pub PrintsEagerly : Type 0
PrintsEagerly =
    (choice : Choice) (script : List ℕ) (proof old new : Option (List ℕ)) (store after : Stored)
    → Serves (Some (Run choice)) (Some script) proof 0 old new store after → PrintsRun choice script old new

-- at status 1 the store is as it was
abbrev pub RefusalKeepsStore : Type 0
RefusalKeepsStore =
    (choice : Choice) (script proof old new : Option (List ℕ)) (store after : Stored)
    → Serves (Some (Run choice)) script proof 1 old new store after → after ≡ store

-- the words of `run` never get status 2 or 6
abbrev pub RunIsKnown : Type 0
RunIsKnown =
    (choice : Choice) (script proof old new : Option (List ℕ)) (status : ℕ) (store after : Stored)
    → Serves (Some (Run choice)) script proof status old new store after → (status ≢ 2) × (status ≢ 6)

-- The lines of a verdict were written, and each flush that is named in them has a plan that costs what is said, and none that costs less
-- than the bound.
pub record ChecksProof (script : List ℕ) (proof : Option (List ℕ)) (status : ℕ) (old new : Option (List ℕ)) : Type 0 where
  pub given : Given
  pub script_is : given.script ≡ script
  pub proof_is : given.proof ≡ proof
  pub check : IsCheck given
  pub status_is : verdict_status (check_verdict check) ≡ status
  pub wrote : Appends old new (verdict_text (check_verdict check))
  pub bounds : AreBounds (lists_of (parts_of check.steps)) (bounds_of (check_verdict check))

-- at status 0 and 6 nothing but that was written
abbrev pub ChecksCertify : Type 0
ChecksCertify =
    (script : List ℕ) (proof old new : Option (List ℕ)) (status : ℕ) (store after : Stored) → (status ≡ 0) ⊎ (status ≡ 6)
    → Serves (Some Check) (Some script) proof status old new store after → ChecksProof script proof status old new

-- ---- what a run that was cut short is a front of

-- Some whole run of the script writes what this one does, and then more or nothing.
pub record GoesOn {choice : Choice} {script : List ℕ} (r : IsRun choice script) : Type 0 where
  pub run : IsRun choice script
  pub whole : IsWhole run
  pub more : List ℕ
  pub text : run_text run ≡ run_text r ++ more

-- with linear and greedy each run goes on to a whole one
abbrev pub RunsGoOn : Type 0
RunsGoOn = (choice : Choice) (script : List ℕ) (r : IsRun choice script) → choice.fuse ≢ Best → GoesOn r

-- ---- what a flush moves

-- a plan loads no more than so many bytes, and stores no more
abbrev pub MovesWithin : List Op → List (List ℕ) → ℕ → Type 0
MovesWithin list plan most = ((plan_rise list plan).loads ≤ most) × ((plan_rise list plan).stores ≤ most)

-- what the plan of a flush loads, and what it stores, is each no more than it costs, and with best no more than greedy's plan costs
abbrev pub MovesLittle : Type 0
MovesLittle =
    (choice : Choice) (number : ℕ) (list : List Op) (p : Planned) → IsPlanned choice number list p
    → MovesWithin (normal_form list) p.plan (cost (normal_form list) p.plan)
    × (choice.fuse ≢ Linear → MovesWithin (normal_form list) p.plan (cost (normal_form list) (greedy_plan (normal_form list))))

-- ---- what `check` says of what `run` wrote

-- cost and bound of the plan of a part, if it has a bound
abbrev pub bound_in : (choice : Choice) (number : ℕ) (part : Part) → PlannedPart choice number part → List (ℕ × ℕ)
bound_in choice number (Flush list) planned = map (λ bound. (cost (normal_form list) planned.0.plan, bound)) (option_to_list planned.0.bound)
bound_in choice number _ planned = []

-- those of parts, the next flush having this number
abbrev pub bounds_in : (choice : Choice) (number : ℕ) (parts : List Part) → PlannedParts choice number parts → List (ℕ × ℕ)
bounds_in choice number [] planned = []
bounds_in choice number (part ∷ parts) planned = bound_in choice number part planned.0 ++ bounds_in choice (number_behind part number) parts planned.1

abbrev pub run_bounds : {choice : Choice} {script : List ℕ} → IsRun choice script → List (ℕ × ℕ)
run_bounds {choice} r = bounds_in choice 1 r.parts r.planned

-- The output is the text of a whole run, and the lines of an accepted proof were written, with the cost and the bound of each of its plans.
pub record AcceptsRun (choice : Choice) (script output : List ℕ) (status : ℕ) (old new : Option (List ℕ)) : Type 0 where
  pub run : IsRun choice script
  pub whole : IsWhole run
  pub output_is : output ≡ run_text run
  pub accepted : status ≡ 0
  pub wrote : Appends old new (flush_lines 1 (run_bounds run) ++ accepted_line (length (run_bounds run)))

-- what `run --cert` wrote with the planner best is accepted by `check`, where it has no more bytes than a proof may have
abbrev pub RunsCheck : Type 0
RunsCheck =
    (choice : Choice) (script output : List ℕ) (proof : Option (List ℕ)) (store after : Stored) → choice.fuse ≡ Best → choice.listing ≡ Cert
    → Serves (Some (Run choice)) (Some script) proof 0 (Some []) (Some output) store after → length output ≤ most_proof
    → (status : ℕ) (old new : Option (List ℕ)) (kept now : Stored) → is_final status ≡ true
    → Serves (Some Check) (Some script) (Some output) status old new kept now → AcceptsRun choice script output status old new

-- where no count of faults changed, no fault is answered
abbrev pub FaultsAreCounted : Type 0
FaultsAreCounted =
    (status reads proofs writes : ℕ) → reads < 2 ^ 64 - 1 → proofs < 2 ^ 64 - 1 → writes < 2 ^ 64 - 1
    → Blames status reads reads proofs proofs writes writes
    → (status ≢ 3) × (status ≢ 4)

-- ---- how many parts stand in so many bytes

-- the first missing byte stands in the head of a part: those before it have run
abbrev pub RanInHead : Type 0
RanInHead =
    (front : List Segment) (s : Segment) (rest : List Segment) (n : ℕ) → length (flat_map segment_text front) ≤ n
    → n < length (flat_map segment_text front) + length s.head → ran n (front ++ s ∷ rest) ≡ length front

-- it stands in the array lines of a flush: those before it have run, and it too
abbrev pub RanInArrays : Type 0
RanInArrays =
    (front : List Segment) (s : Segment) (rest : List Segment) (n : ℕ)
    → length (flat_map segment_text front) + length s.head ≤ n
    → n < length (flat_map segment_text front) + length (segment_text s)
    → ran n (front ++ s ∷ rest) ≡ suc (length front)

-- none is missing: all have run
abbrev pub RanWhole : Type 0
RanWhole = (all : List Segment) → ran (length (flat_map segment_text all)) all ≡ length all
