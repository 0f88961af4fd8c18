-- What the slots hold when a walk ends.
use Rattle.std.proofs.Common.{◌≡◌, ℕ, ◌≤◌, ℤ, pos, List, [], ◌∷◌, ◌++◌, Bool, true, false, cond, not, ◌||◌, ◌&&◌, Option, Some, None, length, map, get_or, take, refl, ap, ap₂, sym, subst, ◌∙◌, arith}
use Rattle.std.specs.Prelude.{◌==◌, is_none, nat_eq, nat_lt}
use Rattle.std.specs.List.{AllByRecursion, list_all, range_with_len}
use Rattle.std.specs.Option.{option_to_list}
use Rattle.std.proofs.lemmas.Bool.{eq-eqb, eqb-true, false≢true, ltb-false, ltb-true}
use Rattle.std.proofs.lemmas.List.{ext_get_or, get_or_past, take_all}
use Rattle.std.proofs.lemmas.List.Folds.{list_any-append}
use Rattle.std.proofs.lemmas.List.FromFn.{get_or-map-range_with_len, length-map-range_with_len}
use Rattle.arr_num.specs.declared.elem.Elem.{Elem}
use Rattle.arr_view.specs.Views.{has, positions, same_lists}
use Rattle.arr_ops.specs.declared.op.Op.{Op}
use Rattle.arr_ops.specs.Fits.{Need, fits, meets_need, needs, op_fits}
use Rattle.arr_ops.specs.Formed.{same_elem, slot_numbers, well_formed}
use Rattle.arr_ops.specs.Memory.{Cell, Memory, Slot, eager, lengths_of, slot_after, without_slots}
use Rattle.arr_ops.specs.Ops.{creates, outputs}
use Rattle.arr_ops.proofs.Spots.{all_two, same_elem_is}
use Rattle.arr_ops.proofs.Tests.{all_of, both_left, both_right, same_from_test}
use Rattle.arr_view.specs.Strided.{Strided}
use Rattle.arr_loop.specs.Ready.{shows}
use Rattle.arr_loop.proofs.Slots.{slots_alike}
use Rattle.arr_store.specs.Slots.{slot_number}
use Rattle.arr_strips.specs.Blocks.{block_positions, block_shape, is_block}
use Rattle.arr_strips.specs.Columns.{Columns, next, slots_end, taken}
use Rattle.arr_strips.specs.Laws.{WalkedBlock}
use Rattle.arr_strips.specs.Strips.{Bases}
use Rattle.arr_strips.proofs.Blocks.{Block}
use Rattle.arr_strips.proofs.Sames.{or_true}
use Rattle.arr_strips.proofs.Sorts.{AtShape, one_shape, sorts, walked_showing}
use Rattle.arr_strips.proofs.StripLaws.{keep_slots}
use Rattle.arr_machine.specs.Shown.{Matches, Showing, SlotsMatch, frame, show_number, shown_number}
use Rattle.arr_machine.proofs.Shows.{frame_size}

-- ---- slots that are there for a block

frame_shown : (op : Op) (c : Option Slot) (n : ℕ) → positions (lengths_of op.first) ≡ n → shows op c ≡ true → frame c ≡ Some (op.from, (lengths_of op.first, n))
frame_shown op None n size h = absurd (false≢true h)
frame_shown op (Some c) n size h =
    let rest : (same_lists c.lengths (lengths_of op.first) && (length c.numbers == positions (lengths_of op.first))) ≡ true = both_right (same_elem c.elem op.from) _ h in
    let t : c.elem ≡ op.from = same_elem_is c.elem op.from (both_left (same_elem c.elem op.from) _ h) in
    let ls : c.lengths ≡ lengths_of op.first = same_from_test c.lengths (lengths_of op.first) (both_left (same_lists c.lengths (lengths_of op.first)) _ rest) in
    let k : length c.numbers ≡ n = eqb-true (length c.numbers) (positions (lengths_of op.first)) (both_right (same_lists c.lengths (lengths_of op.first)) _ rest) ∙ size in
    λ i. Some (t i, (ls i, k i))

matches_at : (shape : List ℕ) (op : Op) (slots : ℕ → Option Slot) (s : ℕ) → well_formed op ≡ true → AtShape shape op → list_all (λ s. shows op (slots s)) (option_to_list op.slot) ≡ true → Matches (positions shape) op s (slots s)
matches_at shape op slots s well at h e =
    frame_shown op (slots s) (positions shape)
    (sorts op well (λ o a p. absurd (apart p.no_slot))
    (λ v w. ap positions (ap lengths_of w.first_is ∙ (subst (λ (ss : List (List ℕ)). AllByRecursion (λ s. s ≡ shape) ss) (walked_showing op v w) at).0)) (λ f. absurd (apart f.no_slot)) (λ o v r. absurd (apart r.no_slot)))
    (both_left (shows op (slots s)) true (subst (λ x. list_all (λ s. shows op (slots s)) (option_to_list x) ≡ true) e h))
  where
    apart : op.slot ≡ None → ⊥
    apart none = let same : Some s ≡ None = sym e ∙ none in absurd (cc)

pub slots_match : (ops : List Op) → Block ops → (slots : ℕ → Option Slot) → list_all (λ (op : Op). list_all (λ s. shows op (slots s)) (option_to_list op.slot)) ops ≡ true → SlotsMatch ops slots
slots_match ops b slots h s =
    all_two (λ op. (well_formed op ≡ true) × AtShape (block_shape ops) op) (λ (op : Op). list_all (λ s. shows op (slots s)) (option_to_list op.slot) ≡ true) (λ op. Matches (block_positions ops) op s (slots s))
    (λ op x y. matches_at (block_shape ops) op slots s x.0 x.1 y) ops
    (all_two (λ op. well_formed op ≡ true) (AtShape (block_shape ops)) (λ op. (well_formed op ≡ true) × AtShape (block_shape ops) op) (λ op x y. (x, y)) ops b.well (one_shape ops b.fuse b.well))
    (all_of (λ (op : Op). list_all (λ s. shows op (slots s)) (option_to_list op.slot)) ops h)

-- ---- slots that show the same

same_slots : (c d : Option Slot) → frame c ≡ frame d → ((q : ℕ) → slot_number c q ≡ slot_number d q) → c ≡ d
same_slots None None e h = refl
same_slots None (Some d) e h = absurd (cc)
same_slots (Some c) None e h = absurd (cc)
same_slots (Some c) (Some d) e h =
    let shape : (c.elem, (c.lengths, length c.numbers)) ≡ (d.elem, (d.lengths, length d.numbers)) = some_same (c.elem, (c.lengths, length c.numbers)) (d.elem, (d.lengths, length d.numbers)) e in
    let t : c.elem ≡ d.elem = ap (λ (x : Elem × (List ℕ × ℕ)). x.0) shape in
    let ls : c.lengths ≡ d.lengths = ap (λ (x : Elem × (List ℕ × ℕ)). x.1.0) shape in
    let ns : c.numbers ≡ d.numbers = ext_get_or (pos 0) c.numbers d.numbers (ap (λ (x : Elem × (List ℕ × ℕ)). x.1.1) shape) (λ i l. h i) in
    λ i. Some (record { elem = t i; lengths = ls i; numbers = ns i })
  where
    some_same : (a b : Elem × (List ℕ × ℕ)) → Some a ≡ Some b → a ≡ b
    some_same a b e = cc

either : {X : Type 0} (z : Bool) (x : X) → cond z x x ≡ x
either true x = refl
either false x = refl

through : (z : Bool) (F : ℤ → ℤ) (y a b : ℤ) → y ≡ cond z a b → cond z (F y) y ≡ cond z (F a) b
through true F y a b e = ap F e
through false F y a b e = e

turned : (a b : ℕ) → (b == a) ≡ false → nat_eq a b ≡ false
turned a b e =
    elim (nat_eq a b) as (λ z. nat_eq a b ≡ z → z ≡ false) [
      | true ↦ λ on. absurd (false≢true (sym e ∙ eq-eqb b a (sym (eqb-true a b on))))
      | false ↦ λ on. refl
    ] refl

past_slot : (c : Option Slot) (t : Elem) (ls : List ℕ) (n q : ℕ) → frame c ≡ Some (t, (ls, n)) → n ≤ q → slot_number c q ≡ pos 0
past_slot None t ls n q e l = refl
past_slot (Some c) t ls n q e l = let long : length c.numbers ≡ n = frame_size (Some c) t ls n e in get_or_past c.numbers q (pos 0) (omega arith)

-- ---- what the operations show at all positions

module _ (n s : ℕ) where
  abbrev whole : Op → Columns → Slot
  whole op h = record { elem = op.from; lengths = lengths_of op.first; numbers = map (λ p. taken (h p) op.first) (range_with_len 0 n) }

  -- the numbers of one slot after another
  record Leads (F : ℕ → ℤ → ℤ) (c d : Option Slot) : Type 0 where
    same : frame d ≡ frame c
    numbers : (q : ℕ) → slot_number d q ≡ cond (nat_lt q n) (F q (slot_number c q)) (slot_number c q)

  leads_one : (op : Op) (h : Columns) (slot : Option ℕ) (c : Option Slot) → (slot ≡ Some s → frame c ≡ Some (op.from, (lengths_of op.first, n)))
      → Leads (λ q. shown_number slot (taken (h q) op.first) s) c (slot_after slot (whole op h) s c)
  leads_one op h None c e = record { same = refl; numbers = λ q. sym (either (nat_lt q n) (slot_number c q)) }
  leads_one op h (Some k) c e =
      elim (k == s) as (λ z. (k == s) ≡ z → Leads (λ q y. cond z (taken (h q) op.first) y) c (cond z (Some (whole op h)) c)) [
        | true ↦ λ on. filled (e (ap Some (eqb-true k s on)))
        | false ↦ λ on. record { same = refl; numbers = λ q. sym (either (nat_lt q n) (slot_number c q)) }
      ] refl
    where
      col : ℕ → ℤ
      col q = taken (h q) op.first

      filled : frame c ≡ Some (op.from, (lengths_of op.first, n)) → Leads (λ q y. taken (h q) op.first) c (Some (whole op h))
      filled f =
          record {
            same = (λ i. Some (op.from, (lengths_of op.first, length-map-range_with_len (λ p. taken (h p) op.first) 0 n i))) ∙ sym f;
            numbers = λ q. elim (nat_lt q n) as (λ z. nat_lt q n ≡ z → get_or (map (λ p. taken (h p) op.first) (range_with_len 0 n)) q (pos 0) ≡ cond z (taken (h q) op.first) (slot_number c q)) [
              | true ↦ λ l. get_or-map-range_with_len (λ p. taken (h p) op.first) 0 n q q (pos 0) (ltb-true q n l) (omega arith)
              | false ↦ λ l.
                  let far : n ≤ q = ltb-false q n l in
                  let long : length (map (λ p. taken (h p) op.first) (range_with_len 0 n)) ≡ n = length-map-range_with_len (λ p. taken (h p) op.first) 0 n in
                  get_or_past (map (λ p. taken (h p) op.first) (range_with_len 0 n)) q (pos 0) (omega arith) ∙ sym (past_slot c op.from (lengths_of op.first) n q f far)
            ] refl;
          }

  leads_all : (ops : List Op) (h : Columns) (c d : Option Slot) → AllByRecursion (λ op. Matches n op s d) ops → frame c ≡ frame d → Leads (λ q. show_number ops h q s) c (slots_end n ops h s c)
  leads_all [] h c d m e = record { same = refl; numbers = λ q. sym (either (nat_lt q n) (slot_number c q)) }
  leads_all (op ∷ ops) h c d m e =
      let one : Leads (λ q. shown_number op.slot (taken (h q) op.first) s) c (slot_after op.slot (whole op h) s c) = leads_one op h op.slot c (λ k. e ∙ m.0 k) in
      let rest : Leads (λ q. show_number ops (next op h) q s) (slot_after op.slot (whole op h) s c) (slots_end n ops (next op h) s (slot_after op.slot (whole op h) s c)) =
      leads_all ops (next op h) (slot_after op.slot (whole op h) s c) d m.1 (one.same ∙ e) in
      record {
        same = rest.same ∙ one.same;
        numbers = λ q. rest.numbers q
            ∙ through (nat_lt q n) (show_number ops (next op h) q s) (slot_number (slot_after op.slot (whole op h) s c) q) (shown_number op.slot (taken (h q) op.first) s (slot_number c q)) (slot_number c q) (one.numbers q);
      }

  -- a slot that is filled does not depend on what it held
  filled_alike : (ops : List Op) (h : Columns) (c d : Option Slot) → (has (slot_numbers ops) s ≡ false → c ≡ d) → slots_end n ops h s c ≡ slots_end n ops h s d
  filled_alike [] h c d e = e refl
  filled_alike (op ∷ ops) h c d e = filled_alike ops (next op h) (slot_after op.slot (whole op h) s c) (slot_after op.slot (whole op h) s d) (λ none. one op.slot none e)
    where
      one : (slot : Option ℕ) → has (slot_numbers ops) s ≡ false → (has (option_to_list slot ++ slot_numbers ops) s ≡ false → c ≡ d) → slot_after slot (whole op h) s c ≡ slot_after slot (whole op h) s d
      one None none f = f none
      one (Some k) none f =
          elim (k == s) as (λ z. (k == s) ≡ z → cond z (Some (whole op h)) c ≡ cond z (Some (whole op h)) d) [
            | true ↦ λ on. refl
            | false ↦ λ on. f (ap₂ (λ a b. a || b) (turned s k on) none)
          ] refl

-- what slots hold when the walk has seen all positions
showing_ends : (ops : List Op) (h : Columns) (start now : ℕ → Option Slot) → Showing ops (λ q. cond (nat_lt q (block_positions ops)) (length ops) 0) h start now → SlotsMatch ops start → (s : ℕ)
    → now s ≡ slots_end (block_positions ops) ops h s (start s)
showing_ends ops h start now w match s =
    same_slots (now s) (slots_end (block_positions ops) ops h s (start s)) (w.same s ∙ sym all.same)
    (λ q. w.numbers s q ∙ seen q (nat_lt q (block_positions ops)) ∙ sym (all.numbers q))
  where
    all : Leads (block_positions ops) s (λ q. show_number ops h q s) (start s) (slots_end (block_positions ops) ops h s (start s))
    all = leads_all (block_positions ops) s ops h (start s) (start s) (match s) refl

    seen : (q : ℕ) (z : Bool) → show_number (take (cond z (length ops) 0) ops) h q s (slot_number (start s) q) ≡ cond z (show_number ops h q s (slot_number (start s) q)) (slot_number (start s) q)
    seen q true = ap (λ ks. show_number ks h q s (slot_number (start s) q)) (take_all (length ops) ops (omega arith))
    seen q false = refl

-- ---- the block runs as if its own slots were empty

abbrev emptied : List Op → (ℕ → Option Slot) → ℕ → Option Slot
emptied ops slots s = cond (has (slot_numbers ops) s) None (slots s)

fits_emptied : (bases : ℕ → Option Cell) (slots : ℕ → Option Slot) (list ks : List Op) → ((s : ℕ) → has (slot_numbers ks) s ≡ true → slots s ≡ None)
    → list_all (op_fits (record { bases = bases; slots = λ s. None }) list) ks ≡ true → list_all (op_fits (record { bases = bases; slots = slots }) list) ks ≡ true
fits_emptied bases slots list [] none h = refl
fits_emptied bases slots list (op ∷ ks) none h =
    ap₂ (λ a b. a && b)
    (ap (λ z. list_all (λ (n : Need). creates list n.base || meets_need (bases n.base) n) (needs op) && (z && (not op.makes || list_all (λ (o : Strided). is_none (bases o.base)) (outputs op))))
    (own op.slot (λ s e. none s (ap (λ x. has (option_to_list x ++ slot_numbers ks) s) e ∙ ap (λ z. z || has (slot_numbers ks) s) (eq-eqb s s refl)))) ∙ both_left (op_fits (record { bases = bases; slots = λ s. None }) list op) _ h)
    (fits_emptied bases slots list ks (λ s t. none s (list_any-append (nat_eq s) (option_to_list op.slot) (slot_numbers ks) ∙ or_true (has (option_to_list op.slot) s) (has (slot_numbers ks) s) t))
    (both_right (op_fits (record { bases = bases; slots = λ s. None }) list op) _ h))
  where
    own : (slot : Option ℕ) → ((s : ℕ) → slot ≡ Some s → slots s ≡ None) → list_all (λ s. is_none (slots s)) (option_to_list slot) ≡ list_all (λ (s : ℕ). true) (option_to_list slot)
    own None e = refl
    own (Some s) e = ap (λ x. is_none x && true) (e s refl)

-- the slots when the walk ends are those that the operations leave
pub slots_left : (ops : List Op) (m : Memory) (now : Bases) (shown : ℕ → Option Slot) → is_block ops ≡ true → fits (without_slots m) ops ≡ true → (w : WalkedBlock ops (without_slots m) (block_positions ops) now)
    → Showing ops (λ q. cond (nat_lt q (block_positions ops)) (length ops) 0) w.begun m.slots shown → SlotsMatch ops m.slots → (s : ℕ) → shown s ≡ (eager m ops).slots s
slots_left ops m now shown is fit w showing match s =
    let bare : Memory = record { bases = m.bases; slots = emptied ops m.slots } in
    let fitting : fits bare ops ≡ true = fits_emptied m.bases (emptied ops m.slots) ops ops (λ a t. ap (λ z. cond z None (m.slots a)) t) fit in
    showing_ends ops w.begun m.slots shown showing match s
    ∙ filled_alike (block_positions ops) s ops w.begun (m.slots s) (emptied ops m.slots s) (λ none. sym (ap (λ z. cond z None (m.slots s)) none))
    ∙ keep_slots ops bare now is fitting w s
    ∙ slots_alike ops bare m refl (λ a none. ap (λ z. cond z None (m.slots a)) none) s
