-- The slots of a list: they ascend, keep their shape, and what they held before changes neither bases nor what they show.
use Rattle.std.proofs.Common.{◌≡◌, ℕ, ℤ, List, length, Bool, true, ◌&&◌, refl, ap, ◌∙◌, Option, Some, None, ◌≢◌, zero, suc, ◌+◌, ◌<◌, ◌≤◌, pos, ◌∷◌, ◌++◌, false, cond, ◌||◌, ap₂, sym, arith, subst, []}
use Rattle.std.specs.List.{AllByRecursion, list_all, range_with_len}
use Rattle.std.specs.Option.{option_to_list}
use Rattle.std.specs.Prelude.{is_some, is_none, ◌==◌, nat_eq}
use Rattle.std.proofs.lemmas.Bool.{false≢true, eq-eqb, eqb-false, ne_eqb, eqb-true}
use Rattle.std.proofs.lemmas.List.{length-map, length-replicate}
use Rattle.arr_num.specs.Kinds.{Kind, Binary, Unary, Counting, Reduction, Scan, Ending, Printing, kind}
use Rattle.arr_num.specs.declared.code.Code.TheVariants.{Sync}
use Rattle.arr_num.specs.declared.elem.Elem.{Elem}
use Rattle.arr_view.specs.Strided.{Strided}
use Rattle.arr_view.specs.Views.{elements, is_view, positions, has, same_lists}
use Rattle.arr_ops.specs.Formed.{elementwise, is_array, operands_kept, plain, well_formed, is_formed, slot_numbers, same_elem}
use Rattle.arr_ops.specs.Memory.{Cell, Memory, computed, first_numbers, lengths_of, operand, or_zero, out_lengths, read, results, Slot, eager, slot_after, step, changed, change}
use Rattle.arr_ops.specs.Ops.{inputs, outputs, view_of}
use Rattle.arr_ops.specs.declared.op.Op.{Op}
use Rattle.arr_ops.specs.declared.op.Operand.{Operand}
use Rattle.arr_ops.specs.declared.op.Operand.TheVariants.{Array, Number}
use Rattle.arr_ops.proofs.Alike.{same_list}
use Rattle.arr_ops.proofs.Independent.{same_elem_refl}
use Rattle.arr_ops.proofs.Pairs.{All_weaker}
use Rattle.arr_ops.proofs.Parts.{length-elements, prints}
use Rattle.arr_ops.proofs.Spots.{all_left, all_right, operands_of, views_of}
use Rattle.arr_ops.proofs.Tests.{both_left, both_right, same_from_test}
use Rattle.arr_store.specs.Slots.{blank_slot, blank_slots}
use Rattle.arr_store.proofs.Pages.{first_is_array}
use Rattle.arr_loop.specs.Ready.{shows}
use Rattle.arr_loop.proofs.Lone.{computed_same}

-- ---- the operation of a slot is a SYNC

no_slot : {P : Type 0} (slot : Option ℕ) → is_some slot ≡ true → is_none slot ≡ true → P
no_slot None is h = absurd (false≢true is)
no_slot (Some s) is h = absurd (false≢true h)

not_plain : {P : Type 0} (op : Op) → is_some op.slot ≡ true → elementwise op ≡ true → P
not_plain op is h = no_slot op.slot is (both_left (is_none op.slot) _ (both_right (is_none op.axis) _ (both_left (plain op) _ h)))

along : {P : Type 0} (op : Op) (a b c : Bool) (d : Bool) → is_some op.slot ≡ true → (a && (b && (c && (is_none op.slot && d)))) ≡ true → P
along op a b c d is h = no_slot op.slot is (both_left (is_none op.slot) d (both_right c _ (both_right b _ (both_right a _ h))))

only_prints : (k : Kind) (op : Op) → is_some op.slot ≡ true → operands_kept k op ≡ true → k ≡ Printing
only_prints Binary op is h = not_plain op is (both_left (elementwise op) _ h)
only_prints Unary op is h = not_plain op is (both_left (elementwise op) _ h)
only_prints Counting op is h = not_plain op is (both_left (elementwise op) _ h)
only_prints Reduction op is h = along op (is_some op.out) (is_array op.first) (is_none op.second) _ is h
only_prints Scan op is h = along op (is_some op.out) (is_array op.first) (is_none op.second) _ is h
only_prints Printing op is h = refl
only_prints Ending op is h =
    no_slot op.slot is (both_left (is_none op.slot) _ (both_right (is_none op.axis) _ (both_right (is_none op.second) _ (both_right (is_none op.first) _ (both_right (is_none op.out) _ (both_right (is_some op.frees) _ h))))))

-- ---- it shows as many numbers as its view has positions

length_read : (c : Option Cell) (ps : List ℕ) → length (read c ps) ≡ length ps
length_read None ps = length-map ps _
length_read (Some c) ps = length-map ps _

length_operand : (m : Memory) (n : ℕ) (o : Option Operand) → is_array o ≡ true → AllByRecursion (λ v. is_view v ≡ true) (view_of o) → length (operand m n o) ≡ positions (lengths_of o)
length_operand m n (Some (Array v)) a h = length_read (m.bases v.base) (elements v) ∙ length-elements v h.0
length_operand m n (Some (Number z)) a h = absurd (false≢true a)
length_operand m n None a h = absurd (false≢true a)

shown_numbers : (t : Elem) (lengths : List ℕ) (axis : ℕ) (m : Memory) (n : ℕ) (o : Option Operand) (ys : List ℤ) → results Sync t lengths axis (first_numbers Sync m n o) ys ≡ operand m n o
unfolding results
shown_numbers t lengths axis m n o ys = refl

pub length_shown : (m : Memory) (op : Op) → is_some op.slot ≡ true → well_formed op ≡ true → length (computed m op) ≡ positions (lengths_of op.first)
length_shown m op is w =
    let n : ℕ = positions (out_lengths op.out) in
    let sync : op.code ≡ Sync = prints op.code (only_prints (kind op.code) op is (operands_of op w)) in
    let views = all_left (λ v. is_view v ≡ true) (view_of op.first) (view_of op.second) (all_right (λ v. is_view v ≡ true) (outputs op) (inputs op) (views_of op w)) in
    ap (λ c. length (results c op.to (lengths_of op.first) (or_zero op.axis) (first_numbers c m n op.first) (operand m n op.second))) sync
    ∙ ap length (shown_numbers op.to (lengths_of op.first) (or_zero op.axis) m n op.first (operand m n op.second)) ∙ length_operand m n op.first (first_is_array op is w) views

-- ---- the slots of a list ascend

-- the slots behind an operation come after its own
pub record Behind (slot : Option ℕ) (rest : List ℕ) (j : ℕ) : Type 0 where
  pub from : ℕ
  pub count : ℕ
  pub is : rest ≡ range_with_len from count
  pub later : j < from + 1
  pub own : (s : ℕ) → slot ≡ Some s → (s < from) × (j < s + 1)

pub behind : (slot : Option ℕ) (rest : List ℕ) (j n : ℕ) → option_to_list slot ++ rest ≡ range_with_len j n → Behind slot rest j
behind None rest j n e = record { from = j; count = n; is = e; later = omega arith; own = λ s h. absurd (cc) }
behind (Some a) rest j zero e = absurd (cc)
behind (Some a) rest j (suc n) e =
    let here : a ≡ j = cc in
    record { from = j + 1; count = n; is = cc; later = omega arith; own = λ s h. let same : a ≡ s = cc in (omega arith, omega arith) }

pub kept_slot : (slot : Option ℕ) (new : Slot) (s : ℕ) (old : Option Slot) → ((a : ℕ) → slot ≡ Some a → a ≢ s) → slot_after slot new s old ≡ old
kept_slot None new s old h = refl
kept_slot (Some a) new s old h = ap (λ b. cond b (Some new) old) (ne_eqb a s (h a refl))

pub filled : (slot : Option ℕ) (new : Slot) (s : ℕ) (old : Option Slot) → slot ≡ Some s → slot_after slot new s old ≡ Some new
filled slot new s old e = ap (λ k. slot_after k new s old) e ∙ ap (λ b. cond b (Some new) old) (eq-eqb s s refl)

pub ascend : (ops : List Op) → is_formed ops ≡ true → slot_numbers ops ≡ range_with_len 1 (length (slot_numbers ops))
ascend ops h = same_from_test _ _ (both_left _ _ (both_right (list_all well_formed ops) _ h))

-- ---- slots change nothing in bases

everywhere : (f g : ℕ → Option Cell) → f ≡ g → (vs : List Strided) → AllByRecursion (λ (v : Strided). f v.base ≡ g v.base) vs
everywhere f g e [] = tt
everywhere f g e (v ∷ vs) = (ap (λ (k : ℕ → Option Cell). k v.base) e, everywhere f g e vs)

pub computed_alike : (f g : Memory) (op : Op) → f.bases ≡ g.bases → computed f op ≡ computed g op
computed_alike f g op e = computed_same f g op (everywhere f.bases g.bases e (inputs op))

step_bases : (f g : Memory) (op : Op) → f.bases ≡ g.bases → (step f op).bases ≡ (step g op).bases
step_bases f g op e = ap₂ (λ xs (bases : ℕ → Option Cell). λ b. changed (change op xs b) (bases b)) (computed_alike f g op e) e

pub same_bases : (ops : List Op) (f g : Memory) → f.bases ≡ g.bases → (eager f ops).bases ≡ (eager g ops).bases
same_bases [] f g e = e
same_bases (op ∷ ops) f g e = same_bases ops (step f op) (step g op) (step_bases f g op e)

-- ---- slots that are filled are alike afterwards

slot_alike : (slot : Option ℕ) (new other : Slot) (s : ℕ) (rest : List ℕ) (old before : Option Slot) → new ≡ other → has rest s ≡ false → (has (option_to_list slot ++ rest) s ≡ false → old ≡ before)
    → slot_after slot new s old ≡ slot_after slot other s before
slot_alike None new other s rest old before e none f = f none
slot_alike (Some a) new other s rest old before e none f =
    elim (a == s) as (λ b. (a == s) ≡ b → cond b (Some new) old ≡ cond b (Some other) before) [
      | true ↦ λ d. ap Some e
      | false ↦ λ d. let apart : s ≢ a = (λ h. eqb-false a s d (sym h)) in f (ap₂ (λ p q. p || q) (ne_eqb s a apart) none)
    ] refl

pub slots_alike : (ops : List Op) (f g : Memory) → f.bases ≡ g.bases → ((s : ℕ) → has (slot_numbers ops) s ≡ false → f.slots s ≡ g.slots s) → (s : ℕ) → (eager f ops).slots s ≡ (eager g ops).slots s
slots_alike [] f g e h s = h s refl
slots_alike (op ∷ ops) f g e h s =
    slots_alike ops (step f op) (step g op) (step_bases f g op e)
    (λ k none. slot_alike op.slot _ _ k (slot_numbers ops) (f.slots k) (g.slots k) (ap (λ xs. record { elem = op.from; lengths = lengths_of op.first; numbers = xs }) (computed_alike f g op e)) none (h k)) s

pub neither : (p q : Bool) → (p || q) ≡ false → (p ≡ false) × (q ≡ false)
neither true q h = absurd (false≢true (sym h))
neither false q h = (refl, h)

pub blank_none : (ops : List Op) (s : ℕ) → has (slot_numbers ops) s ≡ false → blank_slots ops s ≡ None
blank_none [] s h = refl
blank_none (op ∷ ops) s h = none_more op.slot (blank_slot op) s (slot_numbers ops) (blank_slots ops s) (blank_none ops s) h
  where
    none_more : (slot : Option ℕ) (new : Slot) (s : ℕ) (rest : List ℕ) (old : Option Slot) → (has rest s ≡ false → old ≡ None) → has (option_to_list slot ++ rest) s ≡ false → slot_after slot new s old ≡ None
    none_more None new s rest old f h = f h
    none_more (Some a) new s rest old f h =
        let parts : (nat_eq s a ≡ false) × (has rest s ≡ false) = neither (nat_eq s a) (has rest s) h in
        let apart : a ≢ s = (λ same. eqb-false s a parts.0 (sym same)) in
        ap (λ b. cond b (Some new) old) (ne_eqb a s apart) ∙ f parts.1

-- ---- the shapes of slots stay

-- both are there, with one type, one shape and as many numbers, or neither
abbrev pub Alike : Option Slot → Option Slot → Type 0
Alike None None = Unit {0}
Alike (Some a) (Some b) = (a.elem ≡ b.elem) × (a.lengths ≡ b.lengths) × (length a.numbers ≡ length b.numbers)
Alike _ _ = ⊥

-- the blank slot of the list at its number is its own
abbrev pub Own : List Op → Op → Type 0
Own list op = (s : ℕ) → op.slot ≡ Some s → blank_slots list s ≡ Some (blank_slot op)

own_from : (ops : List Op) (j n : ℕ) → slot_numbers ops ≡ range_with_len j n → AllByRecursion (λ (op : Op). (s : ℕ) → op.slot ≡ Some s → (j ≤ s) × (blank_slots ops s ≡ Some (blank_slot op))) ops
own_from [] j n e = tt
own_from (op ∷ ops) j n e =
    let b : Behind op.slot (slot_numbers ops) j = behind op.slot (slot_numbers ops) j n e in
    let later : j < b.from + 1 = b.later in (
      (λ s is. (let l : j < s + 1 = (b.own s is).1 in omega arith, filled op.slot (blank_slot op) s (blank_slots ops s) is)),
      All_weaker (λ (x : Op). (s : ℕ) → x.slot ≡ Some s → (b.from ≤ s) × (blank_slots ops s ≡ Some (blank_slot x))) (λ (x : Op). (s : ℕ) → x.slot ≡ Some s → (j ≤ s) × (blank_slots (op ∷ ops) s ≡ Some (blank_slot x)))
          (λ x h s is.
          let p = h s is in
          let low : b.from ≤ s = p.0 in
          (omega arith, kept_slot op.slot (blank_slot op) s (blank_slots ops s) (λ a here same. let k : a < b.from = (b.own a here).0 in absurd (omega arith)) ∙ p.1)) ops (own_from ops b.from b.count b.is),
    )

pub own_all : (list : List Op) → is_formed list ≡ true → AllByRecursion (Own list) list
own_all list h =
    All_weaker (λ (op : Op). (s : ℕ) → op.slot ≡ Some s → (1 ≤ s) × (blank_slots list s ≡ Some (blank_slot op))) (Own list) (λ op p s is. (p s is).1) list
    (own_from list 1 (length (slot_numbers list)) (ascend list h))

shows_alike : (op : Op) (a : Option Slot) → Alike a (Some (blank_slot op)) → shows op a ≡ true
shows_alike op None h = absurd h
shows_alike op (Some a) h =
    ap₂ (λ x y. x && y) (ap (λ t. same_elem t op.from) h.0 ∙ same_elem_refl op.from)
    (ap₂ (λ x y. x && y) (ap (λ ls. same_lists ls (lengths_of op.first)) h.1 ∙ same_list (lengths_of op.first))
    (eq-eqb (length a.numbers) (positions (lengths_of op.first)) (h.2 ∙ length-replicate (positions (lengths_of op.first)) (pos 0))))

pub slot_there : (list : List Op) (op : Op) (slots : ℕ → Option Slot) → Own list op → ((s : ℕ) → Alike (slots s) (blank_slots list s)) → (slot : Option ℕ) → op.slot ≡ slot → list_all (λ s. shows op (slots s)) (option_to_list slot) ≡ true
slot_there list op slots own alike None e = refl
slot_there list op slots own alike (Some s) e = ap (λ b. b && true) (shows_alike op (slots s) (subst (Alike (slots s)) (own s e) (alike s)))

alike_slot : (list : List Op) (op : Op) (m : Memory) → Own list op → well_formed op ≡ true → (slot : Option ℕ) → op.slot ≡ slot → (s : ℕ) → Alike (m.slots s) (blank_slots list s)
    → Alike (slot_after slot (record { elem = op.from; lengths = lengths_of op.first; numbers = computed m op }) s (m.slots s)) (blank_slots list s)
alike_slot list op m own well None e s alike = alike
alike_slot list op m own well (Some k) e s alike =
    let new : Slot = record { elem = op.from; lengths = lengths_of op.first; numbers = computed m op } in
    elim (k == s) as (λ b. (k == s) ≡ b → Alike (cond b (Some new) (m.slots s)) (blank_slots list s)) [
      | true ↦ λ same.
          let here : Some (blank_slot op) ≡ blank_slots list s = sym (own k e) ∙ ap (blank_slots list) (eqb-true k s same) in
          subst (Alike (Some new)) here (refl, refl, length_shown m op (ap is_some e) well ∙ sym (length-replicate (positions (lengths_of op.first)) (pos 0)))
      | false ↦ λ other. alike
    ] refl

pub alike_after : (list ops : List Op) (m : Memory) → AllByRecursion (Own list) ops → AllByRecursion (λ f. well_formed f ≡ true) ops → ((s : ℕ) → Alike (m.slots s) (blank_slots list s))
    → (s : ℕ) → Alike ((eager m ops).slots s) (blank_slots list s)
alike_after list [] m own well alike s = alike s
alike_after list (op ∷ ops) m own well alike s = alike_after list ops (step m op) own.1 well.1 (λ k. alike_slot list op m own.0 well.0 op.slot refl k (alike k)) s
