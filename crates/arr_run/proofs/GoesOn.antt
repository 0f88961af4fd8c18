-- A run by linear or greedy goes on to a whole one.
use Rattle.std.proofs.Common.{◌≡◌, ◌≢◌, ℕ, List, [], ◌∷◌, ◌++◌, take, drop, true, refl, ap, sym, ◌∙◌, append-nil}
use Rattle.std.proofs.lemmas.List.Concat.{flat_map-append}
use Rattle.std.specs.List.{flat_map, list_all}
use Rattle.arr_elab.specs.Steps.{eager_arrays}
use Rattle.arr_elab.proofs.Recorded.{recorded}
use Rattle.arr_heur.specs.Planners.{greedy_plan, linear_plan}
use Rattle.arr_listing.specs.Texts.{array_text}
use Rattle.arr_ops.specs.declared.op.Op.{Op}
use Rattle.arr_ops.specs.Memory.{Slot, empty}
use Rattle.arr_record.specs.declared.part.Part.{Part}
use Rattle.arr_record.specs.declared.part.Part.TheVariants.{Flush, Gather, Scatter}
use Rattle.arr_record.specs.Runs.{is_part, printed_parts}
use Rattle.arr_record.proofs.Walk.{all_parts, recording}
use Rattle.arr_rewrite.specs.NormalForm.{normal_form}
use Rattle.arr_run.specs.declared.choice.Choice.{Choice}
use Rattle.arr_run.specs.declared.choice.Fuse.{Fuse}
use Rattle.arr_run.specs.declared.choice.Fuse.TheVariants.{Linear, Greedy, Best}
use Rattle.arr_run.specs.declared.planning.Planned.{Planned}
use Rattle.arr_run.specs.Answers.{IsRun}
use Rattle.arr_run.specs.Chosen.{IsChosen, alone}
use Rattle.arr_run.specs.Laws.{RunsGoOn}
use Rattle.arr_run.specs.Pieces.{PlannedPart, PlannedParts, Segment, head_of, number_behind, segment_text, segments_from, slots_in}
use Rattle.arr_run.proofs.Chosen.{chosen_legal}
use Rattle.arr_run.proofs.Flushes.{dealt, segments_arrays}
use Rattle.arr_run.proofs.Turns.{number_after, planned_more}

-- ---- every list has a plan by linear and by greedy

chosen_for : (fuse : Fuse) → fuse ≢ Best → (list : List Op) (number budget : ℕ) → (p : Planned) × IsChosen fuse list number budget p
chosen_for Linear h list number budget = (alone (linear_plan list), refl)
chosen_for Greedy h list number budget = (alone (greedy_plan list), refl)
chosen_for Best h list number budget = absurd (h refl)

planned_for : (choice : Choice) → choice.fuse ≢ Best → (number : ℕ) (part : Part) → PlannedPart choice number part
planned_for choice h number (Flush list) =
    let p = chosen_for choice.fuse h (normal_form list) number choice.budget in
    (p.0, record { legal = chosen_legal choice.fuse (normal_form list) number choice.budget p.0 p.1; chosen = p.1 })
planned_for choice h number (Gather g) = tt
planned_for choice h number (Scatter g) = tt

all_planned : (choice : Choice) → choice.fuse ≢ Best → (number : ℕ) (parts : List Part) → PlannedParts choice number parts
all_planned choice h number [] = tt
all_planned choice h number (x ∷ xs) = (planned_for choice h number x, all_planned choice h (number_behind x number) xs)

-- ---- parts behind those that were begun

-- the arrays that are left behind parts
abbrev left_by : List Part → List Slot → List Slot
left_by [] arrays = arrays
left_by (x ∷ xs) arrays = left_by xs (drop (slots_in x) arrays)

segments_join : (choice : Choice) (number : ℕ) (xs ys : List Part) (p : PlannedParts choice number xs) (q : PlannedParts choice (number_after number xs) ys) (arrays : List Slot)
    → segments_from choice number (xs ++ ys) (planned_more choice number xs ys p q) arrays ≡ segments_from choice number xs p arrays ++ segments_from choice (number_after number xs) ys q (left_by xs arrays)
segments_join choice number [] ys p q arrays = refl
segments_join choice number (x ∷ xs) ys p q arrays =
    ap (λ (s : List Segment). record { head = head_of choice number x p.0; arrays = flat_map array_text (take (slots_in x) arrays) } ∷ s) (segments_join choice (number_behind x number) xs ys p.1 q (drop (slots_in x) arrays))

-- the arrays are dealt out in the same way, whatever the plans
same_arrays : (choice : Choice) (number : ℕ) (parts : List Part) (p q : PlannedParts choice number parts) (arrays : List Slot)
    → flat_map (λ (s : Segment). s.arrays) (segments_from choice number parts p arrays) ≡ flat_map (λ (s : Segment). s.arrays) (segments_from choice number parts q arrays)
same_arrays choice number [] p q arrays = refl
same_arrays choice number (x ∷ xs) p q arrays = ap (λ t. flat_map array_text (take (slots_in x) arrays) ++ t) (same_arrays choice (number_behind x number) xs p.1 q.1 (drop (slots_in x) arrays))

pub goes_on : RunsGoOn
goes_on choice script r h =
    let parts : List Part = r.parts ++ r.rest in
    let a = r.accepted in
    let number : ℕ = number_after 1 r.parts in
    let steps = recorded a.statements r.steps a.accepts in
    let formed : list_all is_part parts ≡ true = ap (list_all is_part) r.are ∙ all_parts r.steps steps in
    let prints : printed_parts empty parts ≡ eager_arrays r.steps = ap (printed_parts empty) r.are ∙ (recording r.steps steps).prints in
    let behind : PlannedParts choice number r.rest = all_planned choice h number r.rest in
    let planned : PlannedParts choice 1 parts = planned_more choice 1 r.parts r.rest r.planned behind in
    let plans : PlannedParts choice 1 parts = all_planned choice h 1 parts in
    let run : IsRun choice script = record { steps = r.steps; accepted = a; parts = parts; rest = []; are = append-nil parts ∙ r.are; planned = planned } in
    let left : List Segment = segments_from choice number r.rest behind (left_by r.parts (eager_arrays r.steps)) in
    record {
      run = run;
      whole = record {
        ends = refl;
        arrays = same_arrays choice 1 parts planned plans (eager_arrays r.steps)
            ∙ ap (λ (s : List Slot). flat_map (λ (g : Segment). g.arrays) (segments_from choice 1 parts plans s)) (sym prints ∙ sym (append-nil (printed_parts empty parts)))
            ∙ ap (flat_map (λ (g : Segment). g.arrays)) (dealt choice parts 1 empty plans [] formed) ∙ segments_arrays choice 1 empty parts plans ∙ ap (flat_map array_text) prints;
      };
      more = flat_map segment_text left;
      text = ap (flat_map segment_text) (segments_join choice 1 r.parts r.rest r.planned behind (eager_arrays r.steps))
          ∙ flat_map-append segment_text (segments_from choice 1 r.parts r.planned (eager_arrays r.steps)) left;
    }
