-- Lists and operations, one more at the end.
use Rattle.std.proofs.Common.{◌≡◌, ◌≢◌, ℕ, ◌+◌, ◌<◌, ◌≤◌, zero, suc, List, [], ◌∷◌, ◌++◌, true, ◌&&◌, ◌⊎◌, inl, inr, ⊎_elim, refl, ap, ap₂, sym, ◌∙◌, arith, Option, Some, None, length, length-append, append_assoc, append-nil, cond}
use Rattle.std.proofs.lemmas.Bool.{ne_eqb, eq-eqb}
use Rattle.std.proofs.lemmas.Grind.{flat_map-append}
use Rattle.std.specs.Prelude.{unwrap_or}
use Rattle.std.specs.List.{flat_map, range_with_len}
use Rattle.std.specs.Option.{option_to_list}
use Rattle.arr_num.specs.declared.code.Code.{Code}
use Rattle.arr_num.specs.declared.code.Code.TheVariants.{Sync}
use Rattle.arr_ops.specs.declared.op.Op.{Op}
use Rattle.arr_ops.specs.Ops.{at_slot}
use Rattle.arr_ops.specs.Formed.{slot_numbers}
use Rattle.arr_ops.specs.Memory.{Memory, Slot, eager, step, computed, lengths_of, slot_after}
use Rattle.arr_ops.proofs.Tests.{both_left, both_right}
use Rattle.arr_elab.specs.declared.step.Step.TheVariants.{Act}
use Rattle.arr_elab.specs.Steps.{Progress, run_step, shown, printed, slot_count, slots_to, slot_from, filled_after}
use Rattle.arr_record.specs.declared.part.Part.{Part}
use Rattle.arr_record.specs.Runs.{after_part, after_parts, printed_part, printed_parts, part_fits, each_fits}

-- ---- memory

pub eager_append : (m : Memory) (fs gs : List Op) → eager m (fs ++ gs) ≡ eager (eager m fs) gs
eager_append m [] gs = refl
eager_append m (f ∷ fs) gs = eager_append (step m f) fs gs

pub after_parts_more : (m : Memory) (parts : List Part) (part : Part) → after_parts m (parts ++ part ∷ []) ≡ after_part (after_parts m parts) part
after_parts_more m [] part = refl
after_parts_more m (p ∷ ps) part = after_parts_more (after_part m p) ps part

pub printed_parts_more : (m : Memory) (parts : List Part) (part : Part) → printed_parts m (parts ++ part ∷ []) ≡ printed_parts m parts ++ printed_part (after_parts m parts) part
printed_parts_more m [] part = append-nil (printed_part m part)
printed_parts_more m (p ∷ ps) part =
    ap (λ ss. printed_part m p ++ ss) (printed_parts_more (after_part m p) ps part)
    ∙ sym (append_assoc (printed_part m p) (printed_parts (after_part m p) ps) (printed_part (after_parts (after_part m p) ps) part))

pub each_fits_more : (m : Memory) (parts : List Part) (part : Part) → each_fits m parts ≡ true → part_fits (after_parts m parts) part ≡ true → each_fits m (parts ++ part ∷ []) ≡ true
each_fits_more m [] part a b = ap₂ (λ x y. x && y) b refl
each_fits_more m (p ∷ ps) part a b =
    ap₂ (λ x y. x && y) (both_left (part_fits m p) _ a) (each_fits_more (after_part m p) ps part (both_right (part_fits m p) _ a) b)

-- ---- slots

pub slot_cases : (n : ℕ) (code : Code) → ((slot_from (suc n) code ≡ None) × (filled_after n code ≡ n)) ⊎ ((slot_from (suc n) code ≡ Some (suc n)) × (filled_after n code ≡ suc n))
slot_cases n Sync = inr (refl, refl)
slot_cases n _ = inl (refl, refl)

pub slot_numbers_more : (ops : List Op) (op : Op) → slot_numbers (ops ++ op ∷ []) ≡ slot_numbers ops ++ option_to_list op.slot
slot_numbers_more [] op = append-nil (option_to_list op.slot)
slot_numbers_more (f ∷ ops) op = ap (λ ss. option_to_list f.slot ++ ss) (slot_numbers_more ops op) ∙ sym (append_assoc (option_to_list f.slot) (slot_numbers ops) (option_to_list op.slot))

pub slot_count_more : (ops : List Op) (op : Op) → slot_count (ops ++ op ∷ []) ≡ slot_count ops + length (option_to_list op.slot)
slot_count_more ops op = ap length (slot_numbers_more ops op) ∙ length-append (slot_numbers ops) (option_to_list op.slot)

-- the last slot of a list is that of its last operation, if this has one
pub slot_last : (ops : List Op) (op : Op) → op.slot ≡ slot_from (suc (slot_count ops)) op.code → slot_count (ops ++ op ∷ []) ≡ unwrap_or op.slot (slot_count ops)
slot_last ops op e =
    let n : ℕ = slot_count ops in
    slot_count_more ops op
    ∙ ⊎_elim
    (λ h. let none : op.slot ≡ None = e ∙ h.0 in ap (λ s. n + length (option_to_list s)) none ∙ (let z : n + 0 ≡ n = omega arith in z) ∙ ap (λ s. unwrap_or s n) (sym none))
    (λ h. let some : op.slot ≡ Some (suc n) = e ∙ h.0 in ap (λ s. n + length (option_to_list s)) some ∙ (let z : n + 1 ≡ suc n = omega arith in z) ∙ ap (λ s. unwrap_or s n) (sym some))
    (slot_cases n op.code)

-- what an operation puts into a slot
abbrev pub shown_at : Option ℕ → Slot → List Slot
shown_at None new = []
shown_at (Some s) new = new ∷ []

abbrev pub content : Memory → Op → Slot
content m op = record { elem = op.from; lengths = lengths_of op.first; numbers = computed m op }

pub range_more : (a n : ℕ) → range_with_len a (suc n) ≡ range_with_len a n ++ (a + n) ∷ []
range_more a zero = ap (λ k. k ∷ []) (omega arith)
range_more a (suc n) = ap (λ xs. a ∷ xs) (range_more (a + 1) n ∙ ap (λ k. range_with_len (a + 1) n ++ k ∷ []) (omega arith))

slots_alike : (m k : Memory) (a n : ℕ) → ((s : ℕ) → s < a + n → m.slots s ≡ k.slots s)
    → flat_map (λ s. option_to_list (m.slots s)) (range_with_len a n) ≡ flat_map (λ s. option_to_list (k.slots s)) (range_with_len a n)
slots_alike m k a zero h = refl
slots_alike m k a (suc n) h =
    ap₂ (λ x ys. option_to_list x ++ ys) (h a (omega arith)) (slots_alike m k (a + 1) n (λ s l. h s (omega arith)))

slots_more : (m : Memory) (op : Op) (n : ℕ) → op.slot ≡ Some (suc n) → slots_to (suc n) (step m op) ≡ slots_to n m ++ content m op ∷ []
slots_more m op n e =
    let next : Memory = step m op in
    let slots : ℕ → List Slot = λ s. option_to_list (next.slots s) in
    let kept : (s : ℕ) → s < 1 + n → next.slots s ≡ m.slots s =
    (λ s l. let ne : suc n ≢ s = omega arith in ap (λ k. slot_after k (content m op) s (m.slots s)) e ∙ ap (λ b. cond b (Some (content m op)) (m.slots s)) (ne_eqb (suc n) s ne)) in
    let filled : next.slots (1 + n) ≡ Some (content m op) =
    ap (λ k. slot_after k (content m op) (1 + n) (m.slots (1 + n))) e ∙ ap (λ b. cond b (Some (content m op)) (m.slots (1 + n))) (eq-eqb (suc n) (1 + n) (omega arith)) in
    ap (flat_map slots) (range_more 1 n) ∙ flat_map-append slots (range_with_len 1 n) ((1 + n) ∷ [])
    ∙ ap₂ (λ xs ys. xs ++ ys) (slots_alike next m 1 n kept) (append-nil (slots (1 + n)) ∙ ap option_to_list filled)

slots_kept : (m : Memory) (op : Op) (n : ℕ) → op.slot ≡ None → slots_to n (step m op) ≡ slots_to n m
slots_kept m op n e =
    let next : Memory = step m op in
    slots_alike next m 1 n (λ s l. ap (λ k. slot_after k (content m op) s (m.slots s)) e)

-- one more operation prints what it shows
pub printed_more : (m : Memory) (ops : List Op) (op : Op) → op.slot ≡ slot_from (suc (slot_count ops)) op.code
    → printed m (ops ++ op ∷ []) ≡ printed m ops ++ shown_at op.slot (content (eager m ops) op)
printed_more m ops op e =
    let n : ℕ = slot_count ops in
    let more : slot_count (ops ++ op ∷ []) ≡ n + length (option_to_list op.slot) = slot_count_more ops op in
    ap (slots_to (slot_count (ops ++ op ∷ []))) (eager_append m ops (op ∷ []))
    ∙ ⊎_elim
    (λ h.
    let none : op.slot ≡ None = e ∙ h.0 in
    let zero_more : length (option_to_list op.slot) ≡ 0 = ap (λ s. length (option_to_list s)) none in
    ap (λ k. slots_to k (step (eager m ops) op)) (let same : slot_count (ops ++ op ∷ []) ≡ n = omega arith in same)
    ∙ slots_kept (eager m ops) op n none ∙ sym (append-nil (slots_to n (eager m ops))) ∙ ap (λ s. slots_to n (eager m ops) ++ shown_at s (content (eager m ops) op)) (sym none))
    (λ h.
    let some : op.slot ≡ Some (suc n) = e ∙ h.0 in
    let one_more : length (option_to_list op.slot) ≡ 1 = ap (λ s. length (option_to_list s)) some in
    ap (λ k. slots_to k (step (eager m ops) op)) (let same : slot_count (ops ++ op ∷ []) ≡ suc n = omega arith in same)
    ∙ slots_more (eager m ops) op n some ∙ ap (λ s. slots_to n (eager m ops) ++ shown_at s (content (eager m ops) op)) (sym some))
    (slot_cases n op.code)

-- an operation that runs as it is reached
pub shown_more : (p : Progress) (op : Op) → shown (run_step p (Act op)) ≡ shown p ++ shown_at (slot_from (suc p.filled) op.code) (content p.memory op)
shown_more p op =
    let n : ℕ = p.filled in
    let g : Op = at_slot op (slot_from (suc n) op.code) in
    ⊎_elim
    (λ h. ap (λ k. slots_to k (step p.memory g)) h.1 ∙ slots_kept p.memory g n h.0 ∙ sym (append-nil (slots_to n p.memory)) ∙ ap (λ s. slots_to n p.memory ++ shown_at s (content p.memory op)) (sym h.0))
    (λ h. ap (λ k. slots_to k (step p.memory g)) h.1 ∙ slots_more p.memory g n h.0 ∙ ap (λ s. slots_to n p.memory ++ shown_at s (content p.memory op)) (sym h.0))
    (slot_cases n op.code)

pub slot_count_few : (ops : List Op) → slot_count ops ≤ length ops
slot_count_few [] = omega arith
slot_count_few (op ∷ ops) =
    let rest : slot_count ops ≤ length ops = slot_count_few ops in
    let both : slot_count (op ∷ ops) ≡ length (option_to_list op.slot) + slot_count ops =
    length-append (option_to_list op.slot) (slot_numbers ops) in
    let one : length (option_to_list op.slot) ≤ 1 = at_most op.slot in
    omega arith
  where
    at_most : (s : Option ℕ) → length (option_to_list s) ≤ 1
    at_most None = omega arith
    at_most (Some s) = omega arith
