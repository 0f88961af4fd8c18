-- A SYNC at a strip.
use Rattle.std.proofs.Common.{◌≡◌, ℕ, zero, suc, ◌+◌, ◌-◌, ◌<◌, ◌≤◌, ℤ, pos, List, true, false, cond, Option, Some, None, length, get_or, take, refl, ap, sym, subst, ◌∙◌, arith}
use Rattle.std.specs.Prelude.{◌==◌, is_none, is_some, nat_lt, slice_get}
use Rattle.std.proofs.lemmas.Bool.{eqb-true, true≢false, lt-ltb, ltb-false, ltb-true}
use Rattle.std.proofs.lemmas.List.{get_or-take, length-take-le}
use Rattle.std.proofs.lemmas.List.FromFn.{get_or-map-range_with_len, length-map-range_with_len}
use Rattle.arr_num.specs.declared.elem.Elem.{Elem}
use Rattle.arr_num.specs.Kinds.{Ending, Printing, folds, is_reduction, is_scan, kind, scans}
use Rattle.arr_view.specs.Strided.{Strided}
use Rattle.arr_view.specs.Views.{is_place, to_place}
use Rattle.arr_ops.specs.declared.op.Op.{Op}
use Rattle.arr_ops.specs.Memory.{Slot, lengths_of, write}
use Rattle.arr_ops.specs.Ops.{view_of}
use Rattle.arr_ops.specs.Formed.{operands_kept}
use Rattle.arr_ops.proofs.Spots.{all_left, none_from, operands_of}
use Rattle.arr_ops.proofs.Tests.{both_left, both_right}
use Rattle.arr_store.specs.declared.buffer.Buffer.{Buffer}
use Rattle.arr_store.specs.Buffers.{cell_of}
use Rattle.arr_store.specs.Cells.{assigned}
use Rattle.arr_store.specs.Runs.{IsOfSlot, LiesIn, moved, run_place, run_places, with_slot_run}
use Rattle.arr_store.specs.Slots.{slot_number, slot_size}
use Rattle.arr_strips.specs.Blocks.{block_positions}
use Rattle.arr_strips.specs.Columns.{ends, taken}
use Rattle.arr_strips.specs.Registers.{register_views}
use Rattle.arr_strips.proofs.Cells.{length-write, write-hit, write-miss}
use Rattle.arr_strips.proofs.Sorts.{Showing as ShowingOp, sorts}
use Rattle.arr_lanes.specs.declared.strip.Place.{Place}
use Rattle.arr_lanes.specs.Lanes.{IsLane, lane_number, number}
use Rattle.arr_machine.specs.declared.task.Task.TheVariants.{Show}
use Rattle.arr_machine.specs.Shown.{Matches, Showing, SlotsMatch, frame, seen, show_number, shown_number}
use Rattle.arr_machine.specs.Lent.{AreOwn}
use Rattle.arr_machine.specs.Standing.{Advances, IsStripOf}
use Rattle.arr_machine.specs.Tasks.{IsTask, TypedLanes}
use Rattle.arr_machine.proofs.Blocks.{all_get}
use Rattle.arr_machine.proofs.Lent.{own_shown}
use Rattle.arr_machine.proofs.Operands.{shows_number, stands_typed}
use Rattle.arr_machine.proofs.Steps.{inputs_on, kept_step, quiet, row_first, row_stays, seen_inside, seen_other, show_more, shows_none, well}
use Rattle.arr_machine.proofs.Types.{inputs_of_type}

-- ---- places side by side

moved_up : (a i : ℕ) → moved (pos a) (pos 1) i ≡ pos (a + i)
moved_up a zero = ap pos (let e : a ≡ a + 0 = omega arith in e)
moved_up a (suc i) = moved_up (a + 1) i ∙ ap pos (let e : a + 1 + i ≡ a + suc i = omega arith in e)

place_up : (a i : ℕ) → run_place a (pos 1) i ≡ a + i
place_up a i = ap to_place (moved_up a i)

pub lies_up : (size a c : ℕ) → a + c ≤ size → a + c ≤ 1048576 → LiesIn size a (pos 1) c
lies_up size a c fits few i u = (
  ap is_place (moved_up a i) ∙ lt-ltb (a + i) 1048576 (omega arith),
  subst (λ q. q < size) (sym (place_up a i)) (omega arith),
)

places_get : (a c i : ℕ) → i < c → get_or (run_places a (pos 1) c) i 0 ≡ a + i
places_get a c i u = get_or-map-range_with_len (run_place a (pos 1)) 0 c i i 0 u (omega arith) ∙ place_up a i

places_long : (a c : ℕ) → length (run_places a (pos 1) c) ≡ c
places_long a c = length-map-range_with_len (run_place a (pos 1)) 0 c

-- a slot with a strip of numbers
put_inside : (s : Option Slot) (a c q : ℕ) (ns : List ℤ) → a + c ≤ slot_size s → c ≤ length ns → a ≤ q → q < a + c → slot_number (with_slot_run s a (pos 1) c ns) q ≡ get_or ns (q - a) (pos 0)
put_inside None a c q ns size long low high = absurd (omega arith)
put_inside (Some s) a c q ns size long low high =
    let i : ℕ = q - a in
    let u : i < c = omega arith in
    let n : length (run_places a (pos 1) c) ≡ c = places_long a c in
    let at : get_or (run_places a (pos 1) c) i 0 ≡ q = places_get a c i u ∙ (let e : a + i ≡ q = omega arith in e) in
    ap (λ z. get_or (write (run_places a (pos 1) c) ns s.numbers) z (pos 0)) (sym at)
    ∙ write-hit (run_places a (pos 1) c) ns s.numbers i (omega arith) (omega arith) (omega arith)
    (λ x y lx ly same. let ex : get_or (run_places a (pos 1) c) x 0 ≡ a + x = places_get a c x (omega arith) in let ey : get_or (run_places a (pos 1) c) y 0 ≡ a + y = places_get a c y (omega arith) in omega arith)

put_outside : (s : Option Slot) (a c q : ℕ) (ns : List ℤ) → (a ≤ q → q < a + c → ⊥) → slot_number (with_slot_run s a (pos 1) c ns) q ≡ slot_number s q
put_outside None a c q ns off = refl
put_outside (Some s) a c q ns off =
    write-miss (run_places a (pos 1) c) ns s.numbers q
    (λ x lx same.
    let n : length (run_places a (pos 1) c) ≡ c = places_long a c in
    let ex : get_or (run_places a (pos 1) c) x 0 ≡ a + x = places_get a c x (omega arith) in
    absurd (off (omega arith) (omega arith)))

put_frame : (s : Option Slot) (a c : ℕ) (ns : List ℤ) → frame (with_slot_run s a (pos 1) c ns) ≡ frame s
put_frame None a c ns = refl
put_frame (Some s) a c ns = ap (λ n. let f : Elem × (List ℕ × ℕ) = (s.elem, (s.lengths, n)) in Some f) (length-write (run_places a (pos 1) c) ns s.numbers)

pub frame_size : (c : Option Slot) (t : Elem) (ls : List ℕ) (n : ℕ) → frame c ≡ Some (t, (ls, n)) → slot_size c ≡ n
frame_size None t ls n e = absurd (cc)
frame_size (Some c) t ls n e = ap size_of e
  where
    size_of : Option (Elem × (List ℕ × ℕ)) → ℕ
    size_of None = 0
    size_of (Some f) = f.1.1

pub frame_type : (c : Option Slot) (t : Elem) (ls : List ℕ) (n : ℕ) → frame c ≡ Some (t, (ls, n)) → IsOfSlot t c
frame_type None t ls n e = absurd (cc)
frame_type (Some c) t ls n e = sym (ap type_of e)
  where
    type_of : Option (Elem × (List ℕ × ℕ)) → Elem
    type_of None = t
    type_of (Some f) = f.0

-- what is known of a lane that is there
lane_cell : (lanes : List Buffer) (r : ℕ) (lane : Buffer) → slice_get lanes r ≡ Some lane → (i : ℕ) → number lanes r i ≡ get_or (cell_of lane).numbers i (pos 0)
lane_cell lanes r lane e i = ap (λ o. lane_number o i) e

module _ (ops : List Op) (p c room : ℕ) (t : IsStripOf ops p c room) (k : ℕ) (op : Op) (l : k < length ops) (e : op ≡ get_or ops k op) (slot r : ℕ) (lanes : List Buffer)
    (task : IsTask ops room lanes k op (Show slot r)) (slots : ℕ → Option Slot) (match : SlotsMatch ops slots) where
  showing : (v : Strided) × ShowingOp op v
  showing =
      sorts op (well ops p c room t k op l e) (λ o fill plain. absurd (true≢false (ap Rattle.arr_num.specs.Kinds.walks (sym task.0) ∙ fill.walks_not))) (λ v s. (v, s)) (λ s. absurd (cc))
      (λ o v s. absurd (true≢false (ap folds (sym s.kind_is ∙ task.0))))

  pub show_own : (places : List (Option Place)) → AreOwn ops places → get_or places r None ≡ None
  show_own places own =
      ap (λ q. get_or places q None) (subst (λ o. Rattle.arr_machine.specs.Tasks.Stands ops room lanes op.from o r) showing.1.first_is task.1.1)
      ∙ own_shown ops places own k op l e slot showing.0 task.1.0 showing.1.first_is

  framed : frame (slots slot) ≡ Some (op.from, (lengths_of op.first, block_positions ops))
  framed = all_get (λ op. Matches (block_positions ops) op slot (slots slot)) ops k op l e (match slot) task.1.0

  pub show_size : p + c ≤ slot_size (slots slot)
  show_size = subst (λ n. p + c ≤ n) (sym (frame_size (slots slot) op.from (lengths_of op.first) (block_positions ops) framed)) t.inside

  pub show_type : IsOfSlot op.from (slots slot)
  show_type = frame_type (slots slot) op.from (lengths_of op.first) (block_positions ops) framed

  pub show_lane : TypedLanes ops room lanes → IsLane op.from room (slice_get lanes r)
  show_lane typed =
      stands_typed ops room lanes op.from op.first r typed
      (all_left (λ v. Rattle.arr_strips.specs.Strips.loaded (register_views ops) v ≡ true) (view_of op.first) (view_of op.second) (inputs_on ops p c room t k op l e))
      (all_left (λ (v : Strided). Rattle.arr_ops.specs.Costs.elem_of ops v.base ≡ op.from) (view_of op.first) (view_of op.second) (inputs_of_type ops t.types k op l e)) task.1.1

  module _ (lane : Buffer) (there : slice_get lanes r ≡ Some lane) (long : c ≤ length (cell_of lane).numbers) (now : ℕ → Option Slot)
      (is : now ≡ assigned slots slot (with_slot_run (slots slot) p (pos 1) c (take c (cell_of lane).numbers))) (see : ℕ → ℕ → ℤ) (seen_there : (i : ℕ) → see r i ≡ number lanes r i) where
    here : ℕ → Option Slot
    here = assigned slots slot (with_slot_run (slots slot) p (pos 1) c (take c (cell_of lane).numbers))

    same_frame : (s : ℕ) → frame (here s) ≡ frame (slots s)
    unfolding here
    same_frame s = elim (slot == s) as (λ z. (slot == s) ≡ z → frame (cond z (with_slot_run (slots slot) p (pos 1) c (take c (cell_of lane).numbers)) (slots s)) ≡ frame (slots s)) [
      | true ↦ λ d. put_frame (slots slot) p c (take c (cell_of lane).numbers) ∙ ap (λ i. frame (slots i)) (eqb-true slot s d)
      | false ↦ λ d. refl
    ] refl

    pub show_match : SlotsMatch ops now
    unfolding here
    show_match s =
        Rattle.arr_ops.proofs.Pairs.All_weaker (λ f. Matches (block_positions ops) f s (slots s)) (λ f. Matches (block_positions ops) f s (now s))
        (λ f m q. ap (λ (g : ℕ → Option Slot). frame (g s)) is ∙ same_frame s ∙ m q) ops (match s)

    pub show_stands : (xs : List ℤ) → Advances ops p c k (k + 1) see xs slots see xs now
    unfolding here
    show_stands xs h start s =
        record {
          row = row_stays ops p c room t k op l e h start see xs slots s (ap (λ z. cond z None op.out) (ap folds task.0) ∙ showing.1.no_out);
          kept = kept_step ops p c room t k op l e h start see xs slots s xs (λ j f lj ej ne i u. refl) (quiet ops p c room t k op l e h start see xs slots s (ap folds task.0) (ap scans task.0) xs);
          shown = subst (λ f. Showing ops (seen (length ops) p c (k + 1)) h start f) (sym is) (record {
            same = λ a. same_frame a ∙ s.shown.same a;
            numbers = λ a q. at a q;
          });
        }
      where
        nums : List ℤ
        nums = take c (cell_of lane).numbers

        nums_long : c ≤ length (take c (cell_of lane).numbers)
        nums_long = let n : length (take c (cell_of lane).numbers) ≡ c = length-take-le c (cell_of lane).numbers long in omega arith

        -- what the strip shows
        column : (q : ℕ) → p ≤ q → q < p + c → get_or (take c (cell_of lane).numbers) (q - p) (pos 0) ≡ taken (ends (take k ops) h q) op.first
        column q low high =
            let u : q - p < c = omega arith in
            get_or-take c (cell_of lane).numbers (q - p) (pos 0) u ∙ sym (seen_there (q - p) ∙ lane_cell lanes r lane there (q - p))
            ∙ shows_number ops room lanes see op.from showing.0 op.first r (q - p) (ends (take k ops) h (p + (q - p))) showing.1.first_is task.1.1 (row_first ops p c room t k op l e h start see xs slots s (q - p) u)
            ∙ ap (λ i. taken (ends (take k ops) h i) op.first) (let z : p + (q - p) ≡ q = omega arith in z)

        -- elsewhere the position has seen as much as before
        outside : (a q : ℕ) → (p ≤ q → q < p + c → ⊥) → slot_number (here a) q ≡ show_number (take (seen (length ops) p c (k + 1) q) ops) h q a (slot_number (start a) q)
        outside a q off =
            elim (slot == a) as (λ z. (slot == a) ≡ z → slot_number (cond z (with_slot_run (slots slot) p (pos 1) c (take c (cell_of lane).numbers)) (slots a)) q ≡ slot_number (slots a) q) [
              | true ↦ λ d. put_outside (slots slot) p c q (take c (cell_of lane).numbers) off ∙ ap (λ i. slot_number (slots i) q) (eqb-true slot a d)
              | false ↦ λ d. refl
            ] refl
            ∙ s.shown.numbers a q ∙ ap (λ i. show_number (take i ops) h q a (slot_number (start a) q)) (seen_other (length ops) p c k (k + 1) q off)

        inside : (a q : ℕ) → p ≤ q → q < p + c → slot_number (here a) q ≡ show_number (take (seen (length ops) p c (k + 1) q) ops) h q a (slot_number (start a) q)
        inside a q low high =
            elim (slot == a) as (λ z. (slot == a) ≡ z → slot_number (cond z (with_slot_run (slots slot) p (pos 1) c (take c (cell_of lane).numbers)) (slots a)) q
            ≡ cond z (taken (ends (take k ops) h q) op.first) (show_number (take k ops) h q a (slot_number (start a) q))) [
              | true ↦ λ d. put_inside (slots slot) p c q (take c (cell_of lane).numbers) show_size nums_long low high ∙ column q low high
              | false ↦ λ d. s.shown.numbers a q ∙ ap (λ i. show_number (take i ops) h q a (slot_number (start a) q)) (seen_inside (length ops) p c k q low high)
            ] refl
            ∙ sym (show_more ops k op h q a (slot_number (start a) q) l e ∙ ap (λ z. shown_number z (taken (ends (take k ops) h q) op.first) a (show_number (take k ops) h q a (slot_number (start a) q))) task.1.0)
            ∙ ap (λ i. show_number (take i ops) h q a (slot_number (start a) q)) (sym (seen_inside (length ops) p c (k + 1) q low high))

        at : (a q : ℕ) → slot_number (here a) q ≡ show_number (take (seen (length ops) p c (k + 1) q) ops) h q a (slot_number (start a) q)
        at a q =
            elim (nat_lt q p) as (λ z. nat_lt q p ≡ z → slot_number (here a) q ≡ show_number (take (seen (length ops) p c (k + 1) q) ops) h q a (slot_number (start a) q)) [
              | true ↦ λ d. outside a q (λ low high. let b : q < p = ltb-true q p d in absurd (omega arith))
              | false ↦ λ d.
                  elim (nat_lt q (p + c)) as (λ z. nat_lt q (p + c) ≡ z → slot_number (here a) q ≡ show_number (take (seen (length ops) p c (k + 1) q) ops) h q a (slot_number (start a) q)) [
                    | true ↦ λ f. inside a q (ltb-false q p d) (ltb-true q (p + c) f)
                    | false ↦ λ f. outside a q (λ low high. let b : p + c ≤ q = ltb-false q (p + c) f in absurd (omega arith))
                  ] refl
            ] refl

-- ---- a FREE

pub nothing_stands : (ops : List Op) (p c room : ℕ) (t : IsStripOf ops p c room) (k : ℕ) (op : Op) (l : k < length ops) (e : op ≡ get_or ops k op) → kind op.code ≡ Ending
    → (see : ℕ → ℕ → ℤ) (xs : List ℤ) (slots : ℕ → Option Slot) → Advances ops p c k (k + 1) see xs slots see xs slots
nothing_stands ops p c room t k op l e free see xs slots h start s =
    record {
      row = row_stays ops p c room t k op l e h start see xs slots s (ap (λ z. cond z None op.out) (ap folds free) ∙ no_out);
      kept = kept_step ops p c room t k op l e h start see xs slots s xs (λ j g lj ej ne i u. refl) (quiet ops p c room t k op l e h start see xs slots s (ap folds free) (ap scans free) xs);
      shown = shows_none ops p c room t k op l e h start see xs slots s no_slot;
    }
  where
    no_out : op.out ≡ None
    no_out = none_from op.out (both_left (is_none op.out) _ (both_right (is_some op.frees) _ (ap (λ q. operands_kept q op) (sym free) ∙ operands_of op (well ops p c room t k op l e))))

    no_slot : op.slot ≡ None
    no_slot = sorts op (well ops p c room t k op l e) (λ o fill plain. plain.no_slot) (λ v s. absurd (other (sym free ∙ s.kind_is))) (λ s. s.no_slot) (λ o v s. s.no_slot)
      where
        other : Ending ≡ Printing → ⊥
        other q = cc
