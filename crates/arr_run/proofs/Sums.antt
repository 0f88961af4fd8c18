-- The parts of a demo that run one after another, and what is written of them.
use Rattle.std.proofs.Common.{◌≡◌, ◌⊎◌, inl, inr, ⊎_elim, ℕ, suc, ◌+◌, ◌<◌, ◌≤◌, List, [], ◌∷◌, ◌++◌, length, take, drop, get_or, true, refl, ap, sym, ◌∙◌, subst, arith, Option, Some, append-nil, append_assoc, length-append, take_at, take_all}
use Rattle.std.proofs.KnownBytes.{Appends-nil, Appends-trans}
use Rattle.std.proofs.lemmas.Bool.{false≢true}
use Rattle.std.proofs.lemmas.List.{take_more}
use Rattle.std.proofs.lemmas.List.Concat.{flat_map-append}
use Rattle.std.specs.List.{flat_map}
use Rattle.std.specs.Option.{option_to_list}
use Rattle.std.specs.Io.KnownBytes.{Appends}
use Rattle.arr_io.specs.Causes.{Rose}
use Rattle.arr_io.specs.Taken.{AppendsPart}
use Rattle.arr_demo.specs.Script.{demo_script}
use Rattle.arr_demo.proofs.Accepted.{scripts_are_accepted}
use Rattle.arr_elab.specs.declared.step.Step.{Step}
use Rattle.arr_elab.specs.Steps.{printed}
use Rattle.arr_listing.specs.Totals.{shown_total, total_text, totals_text}
use Rattle.arr_ops.specs.declared.op.Op.{Op}
use Rattle.arr_ops.specs.Fits.{fits}
use Rattle.arr_ops.specs.Formed.{is_formed, slot_numbers}
use Rattle.arr_ops.specs.Memory.{Memory, Slot, eager, empty}
use Rattle.arr_loop.proofs.Slots.{ascend}
use Rattle.arr_record.specs.declared.part.Part.{Part}
use Rattle.arr_record.specs.Runs.{after_parts, printed_part, printed_parts}
use Rattle.arr_rewrite.specs.NormalForm.{normal_form}
use Rattle.arr_rewrite.proofs.Laws.{normal_keeps}
use Rattle.arr_store.specs.Stored.{Stored, memory_of}
use Rattle.arr_run.specs.declared.demo.Totals.{Totals}
use Rattle.arr_run.specs.declared.summary.Summary.{Summary}
use Rattle.arr_run.specs.declared.words.Command.TheVariants.{Demo}
use Rattle.arr_run.specs.Answers.{Began, Blames, Cut, Done, IsAccepted, IsRun, IsRunStatus, Served, Serves, demo_text, nothing, summed}
use Rattle.arr_run.specs.Demo.{demo_choice, demo_lines, part_summary, script_line, summaries}
use Rattle.arr_run.specs.Parts.{AppendsFront, ArePartsOf, Begun}
use Rattle.arr_run.specs.Pieces.{PlannedPart, PlannedParts, Rises, number_behind, rise_of, rises, sum_of}
use Rattle.arr_run.specs.Summing.{Adds, DemoBroke, DemoCut, DemoWrote, PartCut, PartSummed, PartsBroke, PartsCut, PartsSummed, shown_slot, shown_slots}
use Rattle.arr_run.proofs.Flushes.{all_rises}
use Rattle.arr_run.proofs.Rewritten.{Kept, normal_kept, printed_same}
use Rattle.arr_run.proofs.Turns.{Turn, number_after, planned_more, rises_behind, rises_more}
use Rattle.arr_run.proofs.Whole.{printed_more, unfinished}
use Rattle.arr_run.proofs.Writes.{part_of_first, part_of_second}

-- ---- the arrays that were added

pub adds_none : (t : Totals) → Adds t t []
adds_none t = record { lines = sym (append-nil t.lines.items); count = omega arith }

totals_more : (n : ℕ) (xs ys : List Slot) → totals_text n (xs ++ ys) ≡ totals_text n xs ++ totals_text (n + length xs) ys
totals_more n [] ys = let e : n ≡ n + 0 = omega arith in ap (λ k. totals_text k ys) e
totals_more n (x ∷ xs) ys =
    let e : suc n + length xs ≡ n + suc (length xs) = omega arith in
    ap (λ t. total_text n x ++ t) (totals_more (suc n) xs ys) ∙ ap (λ k. total_text n x ++ (totals_text (suc n) xs ++ totals_text k ys)) e
    ∙ sym (append_assoc (total_text n x) (totals_text (suc n) xs) (totals_text (n + suc (length xs)) ys))

pub adds_more : (a b c : Totals) (xs ys : List Slot) → Adds a b xs → Adds b c ys → Adds a c (xs ++ ys)
adds_more a b c xs ys f g =
    let p = f.count in
    let q = g.count in
    let next : suc b.count ≡ suc a.count + length xs = omega arith in
    record {
      lines = g.lines ∙ ap (λ t. t ++ totals_text (suc b.count) ys) f.lines ∙ append_assoc a.lines.items (totals_text (suc a.count) xs) (totals_text (suc b.count) ys)
          ∙ ap (λ k. a.lines.items ++ (totals_text (suc a.count) xs ++ totals_text k ys)) next ∙ ap (λ t. a.lines.items ++ t) (sym (totals_more (suc a.count) xs ys));
      count = omega (arith, length-append xs ys);
    }

-- one array more
adds_one : (a b : Totals) (slot : Slot) (lines : List ℕ) → b.lines.items ≡ a.lines.items ++ lines → lines ≡ total_text (suc a.count) slot → b.count ≡ a.count + 1 → Adds a b (slot ∷ [])
adds_one a b slot lines e is count = record { lines = e ∙ ap (λ t. a.lines.items ++ t) (is ∙ sym (append-nil (total_text (suc a.count) slot))); count = count }

-- the array of an operation that has a slot
pub adds_slot : (a b : Totals) (slots : ℕ → Option Slot) (op : Op) (s : ℕ) (slot : Slot) (lines : List ℕ) → op.slot ≡ Some s → slots s ≡ Some slot → b.lines.items ≡ a.lines.items ++ lines → lines ≡ shown_total (a.count + 1) (slots s)
    → b.count ≡ a.count + 1 → Adds a b (shown_slot slots op)
adds_slot a b slots op s slot lines is there e text count =
    let next : a.count + 1 ≡ suc a.count = omega arith in
    let one : shown_slot slots op ≡ slot ∷ [] = ap (λ o. flat_map (λ k. option_to_list (slots k)) (option_to_list o)) is ∙ ap (λ x. option_to_list x ++ []) there in
    subst (Adds a b) (sym one) (adds_one a b slot lines e (text ∙ ap (shown_total (a.count + 1)) there ∙ ap (λ n. total_text n slot) next) count)

pub adds_as : (a b : Totals) (xs ys : List Slot) → xs ≡ ys → Adds a b xs → Adds a b ys
adds_as a b xs ys e f = subst (Adds a b) e f

-- all that were added, where none was there
pub adds_all : (a b : Totals) (xs : List Slot) → Adds a b xs → a.lines.items ≡ [] → a.count ≡ 0 → b.lines.items ≡ totals_text 1 xs
adds_all a b xs f none zero = f.lines ∙ ap (λ t. t ++ totals_text (suc a.count) xs) none ∙ ap (λ n. totals_text (suc n) xs) zero

-- ---- the slots of a list

pub shown_turn : (slots : ℕ → Option Slot) (ops : List Op) (i : ℕ) (op : Op) → i < length ops → op ≡ get_or ops i op → shown_slots slots (take i ops) ++ shown_slot slots op ≡ shown_slots slots (take (i + 1) ops)
shown_turn slots ops i op l is =
    sym
    (ap (shown_slots slots) (take_more ops i op l ∙ ap (λ y. take i ops ++ y ∷ []) (sym is)) ∙ flat_map-append (shown_slot slots) (take i ops) (op ∷ [])
    ∙ ap (λ t. shown_slots slots (take i ops) ++ t) (append-nil (shown_slot slots op)))

pub shown_whole : (slots : ℕ → Option Slot) (ops : List Op) (i : ℕ) → length ops ≤ i → shown_slots slots (take i ops) ≡ shown_slots slots ops
shown_whole slots ops i past = ap (shown_slots slots) (take_all i ops past)

by_slot : (slots : ℕ → Option Slot) (ops : List Op) → shown_slots slots ops ≡ flat_map (λ s. option_to_list (slots s)) (slot_numbers ops)
by_slot slots [] = refl
by_slot slots (op ∷ ops) = ap (λ t. shown_slot slots op ++ t) (by_slot slots ops) ∙ sym (flat_map-append (λ s. option_to_list (slots s)) (option_to_list op.slot) (slot_numbers ops))

shown_printed : (m : Memory) (ops : List Op) → is_formed ops ≡ true → shown_slots (eager m ops).slots ops ≡ printed m ops
shown_printed m ops h = let slots : ℕ → Option Slot = (eager m ops).slots in by_slot slots ops ∙ ap (λ ns. flat_map (λ s. option_to_list (slots s)) ns) (ascend ops h)

-- those of the normal form are what the list prints
pub shown_same : (m : Memory) (ops list : List Op) → list ≡ normal_form ops → is_formed ops ≡ true → fits m ops ≡ true → shown_slots (eager m (normal_form ops)).slots list ≡ printed m ops
shown_same m ops list is formed fit =
    let k : Kept ops (normal_form ops) = normal_kept ops formed in
    let same : eager m (normal_form ops) ≡ eager m ops = normal_keeps m ops formed fit in
    ap (shown_slots (eager m (normal_form ops)).slots) is ∙ shown_printed m (normal_form ops) k.formed ∙ printed_same m ops (normal_form ops) k.slots same

-- ---- what there is to tell of a flush

pub summary_is : (s t : Summary) → s.number ≡ t.number → s.recorded ≡ t.recorded → s.rewritten ≡ t.rewritten → s.blocks ≡ t.blocks → s.cost ≡ t.cost → s.bound ≡ t.bound → s.units ≡ t.units → s.loads ≡ t.loads → s.stores ≡ t.stores
    → s.made ≡ t.made → s ≡ t
summary_is s t e f g h i j k l m n = λ x. record { number = e x; recorded = f x; rewritten = g x; blocks = h x; cost = i x; bound = j x; units = k x; loads = l x; stores = m x; made = n x }

-- ---- one more part

summaries_more : (number : ℕ) (xs ys : List Part) (p : PlannedParts demo_choice number xs) (q : PlannedParts demo_choice (number_after number xs) ys)
    → summaries number (xs ++ ys) (planned_more demo_choice number xs ys p q) ≡ summaries number xs p ++ summaries (number_after number xs) ys q
summaries_more number [] ys p q = refl
summaries_more number (x ∷ xs) ys p q =
    ap (λ t. part_summary number x p.0 ++ t) (summaries_more (number_behind x number) xs ys p.1 q)
    ∙ sym (append_assoc (part_summary number x p.0) (summaries (number_behind x number) xs p.1) (summaries (number_after (number_behind x number) xs) ys q))

summary_behind : (xs : List Part) (x : Part) (p : PlannedParts demo_choice 1 xs) (q : PlannedPart demo_choice (number_after 1 xs) x)
    → summaries 1 (xs ++ x ∷ []) (planned_more demo_choice 1 xs (x ∷ []) p (q, tt)) ≡ summaries 1 xs p ++ part_summary (number_after 1 xs) x q
summary_behind xs x p q = summaries_more 1 xs (x ∷ []) p (q, tt) ∙ ap (λ t. summaries 1 xs p ++ t) (append-nil (part_summary (number_after 1 xs) x q))

summed_behind : (xs : List Part) (x : Part) (a b c : Option (List ℕ)) (old between new : Stored) → PartsSummed xs a b old between → PartSummed (number_after 1 xs) x b c between new → PartsSummed (xs ++ x ∷ []) a c old new
summed_behind xs x a b c old between new f g = record {
  planned = planned_more demo_choice 1 xs (x ∷ []) f.planned (g.planned, tt);
  wrote = subst (Appends a c) (sym (summary_behind xs x f.planned g.planned)) (Appends-trans a b c (summaries 1 xs f.planned) (part_summary (number_after 1 xs) x g.planned) f.wrote g.wrote);
  counts = subst (λ rs. Rises (sum_of rs) old new) (sym (rises_more demo_choice 1 xs (x ∷ []) f.planned (g.planned, tt)))
      (rises_behind (rises demo_choice 1 xs f.planned) (rise_of demo_choice (number_after 1 xs) x g.planned) old between new f.counts g.counts);
}

pub summed_more : {parts : List Part} {i : ℕ} {m now : Memory} {number : ℕ} {x : Part} {a b c : Option (List ℕ)} {old between new : Stored} → Turn parts i m now number x → PartsSummed (take i parts) a b old between
    → PartSummed number x b c between new → PartsSummed (take (i + 1) parts) a c old new
summed_more {parts} {i} {m} {now} {number} {x} {a} {b} {c} {old} {between} {new} t f g =
    subst (λ (ps : List Part). PartsSummed ps a c old new) (sym t.front) (summed_behind (take i parts) x a b c old between new f (subst (λ k. PartSummed k x b c between new) t.number_was g))

pub cut_more : {parts : List Part} {i : ℕ} {m now : Memory} {number : ℕ} {x : Part} {a b c : Option (List ℕ)} {old between : Stored} → Turn parts i m now number x → PartsSummed (take i parts) a b old between → PartCut number x b c → PartsCut parts a c
cut_more {parts} {i} {m} {now} {number} {x} {a} {b} {c} {old} {between} t f given =
    let xs : List Part = take i parts in
    let g : PartCut (number_after 1 xs) x b c = subst (λ k. PartCut k x b c) t.number_was given in
    record {
      begun = record { front = xs ++ x ∷ []; rest = drop (i + 1) parts; are = t.whole; planned = planned_more demo_choice 1 xs (x ∷ []) f.planned (g.planned, tt) };
      wrote = subst (AppendsPart a c) (sym (summary_behind xs x f.planned g.planned)) (part_of_second a b c (summaries 1 xs f.planned) (part_summary (number_after 1 xs) x g.planned) f.wrote g.wrote);
    }

pub broke_more : {parts : List Part} {i : ℕ} {m now : Memory} {number : ℕ} {x : Part} {a b c : Option (List ℕ)} {old between : Stored} → Turn parts i m now number x → PartsSummed (take i parts) a b old between → Appends b c [] → PartsBroke parts a c
broke_more {parts} {i} {m} {now} {number} {x} {a} {b} {c} {old} {between} t f none =
    let xs : List Part = take i parts in
    record {
      begun = record { front = xs; rest = x ∷ drop (i + 1) parts; are = sym (append_assoc xs (x ∷ []) (drop (i + 1) parts)) ∙ t.whole; planned = f.planned };
      wrote = subst (Appends a c) (append-nil (summaries 1 xs f.planned)) (Appends-trans a b c (summaries 1 xs f.planned) [] f.wrote none);
    }

printed_turn : (parts : List Part) (i : ℕ) (m now : Memory) (number : ℕ) (x : Part) → Turn parts i m now number x → printed_parts m (take i parts) ++ printed_part now x ≡ printed_parts m (take (i + 1) parts)
printed_turn parts i m now number x t =
    sym
    (ap (printed_parts m) t.front ∙ printed_more m (take i parts) (x ∷ []) ∙ ap (λ s. printed_parts m (take i parts) ++ s) (append-nil (printed_part (after_parts m (take i parts)) x))
    ∙ ap (λ n. printed_parts m (take i parts) ++ printed_part n x) (sym t.before))

pub adds_turn : {parts : List Part} {i : ℕ} {m now : Memory} {number : ℕ} {x : Part} {a b c : Totals} → Turn parts i m now number x → Adds a b (printed_parts m (take i parts)) → Adds b c (printed_part now x) → Adds a c (printed_parts m (take (i + 1) parts))
adds_turn {parts} {i} {m} {now} {number} {x} {a} {b} {c} t f g = adds_as a c _ _ (printed_turn parts i m now number x t) (adds_more a b c (printed_parts m (take i parts)) (printed_part now x) f g)

-- ---- a whole demo

-- no part was begun
abbrev pub not_begun : (parts : List Part) → Begun demo_choice parts
not_begun parts = record { front = []; rest = parts; are = refl; planned = tt }

-- a byte of the first line is missing
pub cut_first : (script : List ℕ) (m : Memory) (parts : List Part) (line : List ℕ) (a b : Option (List ℕ)) → line ≡ script_line script → AppendsPart a b line → DemoCut script m parts a b
cut_first script m parts line a b is p =
    let totals : List ℕ = totals_text 1 (printed_parts m parts) in
    record { begun = not_begun parts; wrote = part_of_first a b (script_line script ++ []) totals (part_of_first a b (script_line script) [] (subst (AppendsPart a b) is p)) }

-- one of the lines of the flushes
pub cut_inside : (script : List ℕ) (m : Memory) (parts : List Part) (line : List ℕ) (a b c : Option (List ℕ)) → line ≡ script_line script → Appends a b line → PartsCut parts b c → DemoCut script m parts a c
cut_inside script m parts line a b c is first p =
    let sums : List ℕ = summaries 1 p.begun.front p.begun.planned in
    record {
      begun = p.begun;
      wrote = part_of_first a c (script_line script ++ sums) (totals_text 1 (printed_parts m parts)) (part_of_second a b c (script_line script) sums (subst (Appends a b) is first) p.wrote);
    }

-- one of the arrays
pub cut_last : (script : List ℕ) (m : Memory) (parts : List Part) (line lines : List ℕ) (a b c d : Option (List ℕ)) (old new : Stored) → line ≡ script_line script → Appends a b line → PartsSummed parts b c old new
    → lines ≡ totals_text 1 (printed_parts m parts) → AppendsPart c d lines → DemoCut script m parts a d
cut_last script m parts line lines a b c d old new is first s all p =
    let sums : List ℕ = summaries 1 parts s.planned in
    record {
      begun = record { front = parts; rest = []; are = append-nil parts; planned = s.planned };
      wrote = part_of_second a c d (script_line script ++ sums) (totals_text 1 (printed_parts m parts)) (Appends-trans a b c (script_line script) sums (subst (Appends a b) is first) s.wrote) (subst (AppendsPart c d) all p);
    }

-- nothing was written
pub broke_first : (script : List ℕ) (m : Memory) (parts : List Part) (a : Option (List ℕ)) → DemoBroke script m parts a a
broke_first script m parts a = record { begun = not_begun parts; wrote = (0, omega arith, Appends-nil a) }

front_of_both : (a b : Option (List ℕ)) (s t : List ℕ) → Appends a b s → AppendsFront a b (s ++ t)
front_of_both a b s t p = (length s, omega (arith, length-append s t), subst (Appends a b) (sym (take_at s t (length s) refl)) p)

-- the lines of some first flushes were written
pub broke_inside : (script : List ℕ) (m : Memory) (parts : List Part) (line : List ℕ) (a b c : Option (List ℕ)) → line ≡ script_line script → Appends a b line → PartsBroke parts b c → DemoBroke script m parts a c
broke_inside script m parts line a b c is first p =
    let sums : List ℕ = summaries 1 p.begun.front p.begun.planned in
    record {
      begun = p.begun;
      wrote = front_of_both a c (script_line script ++ sums) (totals_text 1 (printed_parts m parts)) (Appends-trans a b c (script_line script) sums (subst (Appends a b) is first) p.wrote);
    }

-- ---- the script of a demo

-- it is accepted
pub accepted_demo : (number : ℕ) → (steps : List Step) × IsAccepted (demo_script number) steps
accepted_demo number = let a = scripts_are_accepted number in (a.steps, record { short = a.short; statements = a.statements; reads = a.reads; accepts = a.accepts })

-- a text that is one of a demo is not refused
pub never_refused : (number : ℕ) (text : List ℕ) (P : Type 0) → text ≡ demo_script number → ((steps : List Step) → IsAccepted text steps → P) → P
never_refused number text P is h = let a = accepted_demo number in h a.0 (subst (λ t. IsAccepted t a.0) (sym is) a.1)

-- ---- the answer of a demo

-- what came of running the parts of a demo's script
pub record DemoRan (script : List ℕ) (m : Memory) (parts : List Part) (status : ℕ) (old new : Option (List ℕ)) (store after : Stored) : Type 0 where
  pub known : IsRunStatus status
  pub wrote : status ≡ 0 → DemoWrote script m parts old new store after
  pub memory : status ≡ 0 → memory_of after ≡ after_parts m parts
  pub cut : status ≡ 4 → DemoCut script m parts old new
  pub broke : status ≡ 5 → DemoBroke script m parts old new

abbrev demo_run : (number : ℕ) (parts : List Part) → ArePartsOf (demo_script number) parts → Begun demo_choice parts → IsRun demo_choice (demo_script number)
demo_run number parts a begun = record { steps = a.steps; accepted = a.accepted; parts = begun.front; rest = begun.rest; are = begun.are ∙ a.are; planned = begun.planned }

done_demo : (number : ℕ) (parts : List Part) (a : ArePartsOf (demo_script number) parts) (old new : Option (List ℕ)) (store after : Stored) → DemoWrote (demo_script number) empty parts old new store after → memory_of after ≡ after_parts empty parts
    → Done (Some (Demo number)) nothing 0 old new store after
done_demo number parts a old new store after w m =
    let run : IsRun demo_choice (demo_script number) = demo_run number parts a (record { front = parts; rest = []; are = append-nil parts; planned = w.planned }) in
    record {
      answer = summed run;
      status_is = refl;
      ends = refl;
      wrote = subst (λ arrays. Appends old new (demo_lines (demo_script number) parts w.planned arrays)) a.prints w.wrote;
      leaves = λ h. record {
        bases = ap (λ (x : Memory). x.bases) (m ∙ ap (after_parts empty) (sym (take_all (length parts) parts (omega arith))));
        counters = subst (λ all. Rises (sum_of all) store after) (sym (all_rises demo_choice 1 parts w.planned)) w.counts;
      };
    }

cut_demo : (number : ℕ) (parts : List Part) (a : ArePartsOf (demo_script number) parts) (old new : Option (List ℕ)) (store after : Stored) → DemoCut (demo_script number) empty parts old new → Cut (Some (Demo number)) nothing old new store after
cut_demo number parts a old new store after cut =
    let run : IsRun demo_choice (demo_script number) = demo_run number parts a cut.begun in
    let p : AppendsPart old new (demo_text number run) = subst (λ arrays. AppendsPart old new (demo_lines (demo_script number) cut.begun.front cut.begun.planned arrays)) a.prints cut.wrote in
    let short : p.0 < length (demo_text number run) = p.1 in
    record { answer = summed run; count = p.0; short = short; wrote = p.2; leaves = λ h. let all : length (demo_text number run) ≤ p.0 = h in absurd (omega arith) }

began_demo : (number : ℕ) (parts : List Part) (a : ArePartsOf (demo_script number) parts) (old new : Option (List ℕ)) → DemoBroke (demo_script number) empty parts old new → Began (Some (Demo number)) nothing old new
began_demo number parts a old new b =
    let run : IsRun demo_choice (demo_script number) = demo_run number parts a b.begun in
    let p : AppendsFront old new (demo_text number run) = subst (λ arrays. AppendsFront old new (demo_lines (demo_script number) b.begun.front b.begun.planned arrays)) a.prints b.wrote in
    record { answer = summed run; count = p.0; within = p.1; wrote = p.2 }

served_parts : (number : ℕ) (parts : List Part) (status : ℕ) (old new : Option (List ℕ)) (store after : Stored) → ArePartsOf (demo_script number) parts → DemoRan (demo_script number) empty parts status old new store after
    → Served (Some (Demo number)) nothing status old new store after
served_parts number parts status old new store after a ran =
    let cases : (P : Type 0) → (status ≡ 0 → P) → (status ≡ 4 → P) → (status ≡ 5 → P) → P = λ P f g h. ⊎_elim f (λ k. ⊎_elim g h k) ran.known in
    record {
      known = cases (status < 7) (λ f. omega arith) (λ f. omega arith) (λ f. omega arith);
      wrong_words = λ h. absurd (false≢true (sym h));
      whole = λ h. cases (Done (Some (Demo number)) nothing status old new store after)
          (λ f. subst (λ s. Done (Some (Demo number)) nothing s old new store after) (sym f) (done_demo number parts a old new store after (ran.wrote f) (ran.memory f)))
          (λ f. unfinished status h (inl f)) (λ f. unfinished status h (inr f));
      stopped = λ h. absurd (cases ⊥ (λ f. omega arith) (λ f. omega arith) (λ f. omega arith));
      cut = λ h. cut_demo number parts a old new store after (ran.cut h);
      broken = λ h. inr (began_demo number parts a old new (ran.broke h));
    }

pub served_demo : (number : ℕ) (text : List ℕ) (parts : List Part) (m : Memory) (status : ℕ) (old new : Option (List ℕ)) (store after : Stored) → text ≡ demo_script number → ArePartsOf text parts → m ≡ empty
    → DemoRan text m parts status old new store after → (script proof : Option (List ℕ)) → Serves (Some (Demo number)) script proof status old new store after
served_demo number text parts m status old new store after is a e ran script proof =
    let own : ArePartsOf (demo_script number) parts = subst (λ s. ArePartsOf s parts) is a in
    let ran_empty : DemoRan text empty parts status old new store after = subst (λ n. DemoRan text n parts status old new store after) e ran in
    (nothing, refl, served_parts number parts status old new store after own (subst (λ s. DemoRan s empty parts status old new store after) is ran_empty))

-- without a fault of writing all was done, or memory was wanting
pub finishes : (status before now : ℕ) → IsRunStatus status → (status ≡ 4 → Rose before now) → (Rose before now → ⊥) → (status ≡ 0) ⊎ (status ≡ 5)
finishes status before now known cause none = ⊎_elim (λ f. inl f) (λ k. ⊎_elim (λ f. absurd (none (cause f))) (λ f. inr f) k) known

pub blames_writes : (status reads proofs before now : ℕ) → IsRunStatus status → before ≤ now → (status ≡ 4 → Rose before now) → Blames status reads reads proofs proofs before now
blames_writes status reads proofs before now known later cause = record {
  read_fault = λ h. absurd (⊎_elim (λ f. omega arith) (λ k. ⊎_elim (λ f. omega arith) (λ f. omega arith) k) known);
  write_fault = cause;
  read_faults = omega arith;
  proof_faults = omega arith;
  write_faults = later;
}
