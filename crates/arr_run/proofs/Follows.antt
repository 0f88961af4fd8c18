-- What a caller may take from the relation.
use Rattle.std.proofs.Common.{◌≡◌, ◌⊎◌, inl, inr, ⊎_elim, ℕ, List, [], ◌∷◌, ◌++◌, Option, Some, length, take, drop, refl, ap, ◌∙◌, subst, arith}
use Rattle.std.specs.List.{flat_map}
use Rattle.std.specs.Io.KnownBytes.{Appends}
use Rattle.arr_record.specs.declared.part.Part.{Part}
use Rattle.arr_record.specs.declared.part.Part.TheVariants.{Flush, Gather, Scatter}
use Rattle.arr_ops.specs.Memory.{Slot}
use Rattle.arr_elab.specs.Steps.{eager_arrays}
use Rattle.arr_listing.specs.Texts.{array_text}
use Rattle.arr_store.specs.Stored.{Stored}
use Rattle.arr_run.specs.declared.choice.Choice.{Choice}
use Rattle.arr_run.specs.declared.choice.Listing.TheVariants.{Quiet}
use Rattle.arr_run.specs.declared.words.Command.TheVariants.{Run}
use Rattle.arr_run.specs.Answers.{Answer, Ends, Given, Leaves, answer_status, answer_text, done, is_final, refused}
use Rattle.arr_run.specs.Laws.{FaultsAreCounted, PrintsEagerly, PrintsRun, RefusalKeepsStore, RunIsKnown}
use Rattle.arr_run.specs.Pieces.{PlannedPart, PlannedParts, Segment, flush_head, head_of, number_behind, segment_text, segments_from, slots_in}

-- where nothing is listed, nothing stands before arrays
no_head : (choice : Choice) (number : ℕ) (x : Part) (p : PlannedPart choice number x) → choice.listing ≡ Quiet → head_of choice number x p ≡ []
no_head choice number (Flush list) p e = ap (λ l. flush_head l number list p.0) e
no_head choice number (Gather g) p e = refl
no_head choice number (Scatter g) p e = refl

no_heads : (choice : Choice) (number : ℕ) (parts : List Part) (planned : PlannedParts choice number parts) (arrays : List Slot) → choice.listing ≡ Quiet
    → flat_map segment_text (segments_from choice number parts planned arrays) ≡ flat_map (λ (s : Segment). s.arrays) (segments_from choice number parts planned arrays)
no_heads choice number [] planned arrays e = refl
no_heads choice number (x ∷ xs) planned arrays e =
    let own = flat_map array_text (take (slots_in x) arrays) in
    let rest = segments_from choice (number_behind x number) xs planned.1 (drop (slots_in x) arrays) in
    ap (λ h. (h ++ own) ++ flat_map segment_text rest) (no_head choice number x planned.0 e)
    ∙ ap (λ s. own ++ s) (no_heads choice (number_behind x number) xs planned.1 (drop (slots_in x) arrays) e)

printed_by : (choice : Choice) (given : Given) (old new : Option (List ℕ)) (a : Answer given (Some (Run choice))) → answer_status a ≡ 0 → Ends a → Appends old new (answer_text a) → PrintsRun choice given.script old new
printed_by choice given old new (done r) e ends w =
    record { run = r; whole = ends; wrote = w; quiet = λ q. no_heads choice 1 r.parts r.planned (eager_arrays r.steps) q ∙ ends.arrays }
printed_by choice given old new (refused why) e ends w = absurd (omega arith)

-- status 0: the text of a whole run was written, and nothing else
pub prints_eagerly : PrintsEagerly
prints_eagerly choice script proof old new store after s =
    let d = s.2.whole refl in
    subst (λ t. PrintsRun choice t old new) s.1.0 (printed_by choice s.0 old new d.answer d.status_is d.ends d.wrote)

kept_by : (choice : Choice) (given : Given) (store after : Stored) (n : ℕ) (a : Answer given (Some (Run choice))) → answer_status a ≡ 1 → Leaves a n store after → after ≡ store
kept_by choice given store after n (done r) e l = absurd (omega arith)
kept_by choice given store after n (refused why) e l = l

-- status 1: the store is as it was
pub refusal_keeps : RefusalKeepsStore
refusal_keeps choice script proof old new store after s = let d = s.2.whole refl in kept_by choice s.0 store after (length (answer_text d.answer)) d.answer d.status_is d.leaves

never_two : (choice : Choice) (given : Given) (a : Answer given (Some (Run choice))) → (answer_status a ≡ 2) ⊎ (answer_status a ≡ 6) → ⊥
never_two choice given (done r) e = ⊎_elim (λ h. omega arith) (λ h. omega arith) e
never_two choice given (refused why) e = ⊎_elim (λ h. omega arith) (λ h. omega arith) e

-- the words of `run` never answer 2 or 6
pub never_usage : RunIsKnown
never_usage choice script proof old new status store after s = (
  λ two. let d = s.2.whole (ap is_final two) in never_two choice s.0 d.answer (inl (d.status_is ∙ two)),
  λ six. let d = s.2.whole (ap is_final six) in never_two choice s.0 d.answer (inr (d.status_is ∙ six)),
)

-- a count that stands still has not risen
pub faults_counted : FaultsAreCounted
faults_counted status reads proofs writes few_reads few_proofs few_writes b =
    (λ e. ⊎_elim (λ rose. omega arith) (λ rose. omega arith) (b.read_fault e), λ e. let rose = b.write_fault e in omega arith)
