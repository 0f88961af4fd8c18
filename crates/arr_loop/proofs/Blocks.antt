-- The operations of the blocks of a legal plan: together they are as many as the list has, and leave what the list leaves.
use Rattle.std.proofs.Common.{◌≡◌, ℕ, ◌+◌, List, ◌∷◌, ◌++◌, length, true, false, cond, refl, ap, sym, ◌∙◌, Option, Some, None, ◌≢◌, suc, arith, []}
use Rattle.std.specs.List.{AllByRecursion}
use Rattle.std.specs.Option.{option_to_list}
use Rattle.std.specs.Prelude.{nat_eq, is_some}
use Rattle.std.proofs.lemmas.Bool.{eq-eqb, eqb-true, eqb-false, ne_eqb, false≢true}
use Rattle.arr_view.specs.Views.{has}
use Rattle.arr_ops.specs.Costs.{total}
use Rattle.arr_ops.specs.Fits.{fits}
use Rattle.arr_ops.specs.Formed.{inside_made, is_formed, may_precede, same_types, slot_numbers, well_formed}
use Rattle.arr_ops.specs.Memory.{Memory, Slot, computed, eager, lengths_of, slot_after, step}
use Rattle.arr_ops.specs.Plans.{numbered, ops_of, eager_blocks, holders, is_legal}
use Rattle.arr_ops.specs.declared.op.Op.{Op}
use Rattle.arr_ops.proofs.Legality.{legal_partition, partition_once}
use Rattle.arr_ops.proofs.Pairs.{All_weaker, Pairs}
use Rattle.arr_ops.proofs.Plans.{plans_keep}
use Rattle.arr_ops.proofs.Spots.{Formed, formed_of}
use Rattle.arr_ops.proofs.Tests.{all_numbered, pairs_numbered, or_cases}
use Rattle.arr_store.specs.Slots.{blank_slots}
use Rattle.arr_strips.proofs.Legal.{all_ops as all_picked}
use Rattle.arr_contract.proofs.Counts.{long_numbered}
use Rattle.arr_loop.proofs.Lone.{eager_append}
use Rattle.arr_loop.proofs.Slots.{neither, same_bases, slots_alike, blank_none}

-- ---- what holds of all operations of a list holds of those of a block

pub all_block : (P : Op → Type 0) (list : List Op) (block : List ℕ) → AllByRecursion P list → AllByRecursion P (ops_of (numbered list) block)
all_block P list block h = all_picked P block (numbered list) (all_numbered P 1 list h)

pairs_picked : (R : Op → Op → Type 0) (block : List ℕ) (xs : List (ℕ × Op)) → Pairs (λ (x y : ℕ × Op). R x.1 y.1) xs → Pairs R (ops_of xs block)
pairs_picked R block [] h = tt
pairs_picked R block (x ∷ xs) h =
    elim (has block x.0) as (λ b. Pairs R (cond b (x.1 ∷ ops_of xs block) (ops_of xs block))) [
      | true ↦ (all_picked (R x.1) block xs h.0, pairs_picked R block xs h.1)
      | false ↦ pairs_picked R block xs h.1
    ]

each_block : (R : Op → Op → Type 0) (list : List Op) (block : List ℕ) → AllByRecursion (λ f. AllByRecursion (R f) list) list → AllByRecursion (λ f. AllByRecursion (R f) (ops_of (numbered list) block)) (ops_of (numbered list) block)
each_block R list block h =
    all_block (λ f. AllByRecursion (R f) (ops_of (numbered list) block)) list block
    (All_weaker (λ f. AllByRecursion (R f) list) (λ f. AllByRecursion (R f) (ops_of (numbered list) block)) (λ f k. all_block (R f) list block k) list h)

pub formed_block : (list : List Op) (block : List ℕ) → is_formed list ≡ true → Formed (ops_of (numbered list) block)
formed_block list block h =
    let f : Formed list = formed_of list h in
    record {
      well = all_block (λ f. well_formed f ≡ true) list block f.well;
      inside = each_block (λ f g. inside_made f g ≡ true) list block f.inside;
      types = each_block (λ f g. same_types f g ≡ true) list block f.types;
      order = pairs_picked (λ f g. may_precede f g ≡ true) block (numbered list) (pairs_numbered (λ f g. may_precede f g ≡ true) 1 list f.order);
    }

-- ---- how many operations blocks have

abbrev pub ops_in : List Op → List (List ℕ) → ℕ
ops_in list blocks = total (λ b. length (ops_of (numbered list) b)) blocks

counted : (plan : List (List ℕ)) (x : ℕ × Op) (xs : List (ℕ × Op)) → total (λ b. length (ops_of (x ∷ xs) b)) plan ≡ holders plan x.0 + total (λ b. length (ops_of xs b)) plan
counted [] x xs = omega arith
counted (b ∷ plan) x xs =
    let rest : total (λ b. length (ops_of (x ∷ xs) b)) plan ≡ holders plan x.0 + total (λ b. length (ops_of xs b)) plan = counted plan x xs in
    elim (has b x.0) as (λ t. length (cond t (x.1 ∷ ops_of xs b) (ops_of xs b)) + total (λ b. length (ops_of (x ∷ xs) b)) plan ≡ cond t (suc (holders plan x.0)) (holders plan x.0) + (length (ops_of xs b) + total (λ b. length (ops_of xs b)) plan)) [
      | true ↦ omega arith
      | false ↦ omega arith
    ]

none_counted : (plan : List (List ℕ)) → total (λ (b : List ℕ). 0) plan ≡ 0
none_counted [] = refl
none_counted (b ∷ plan) = let rest = none_counted plan in omega arith

all_counted : (plan : List (List ℕ)) (xs : List (ℕ × Op)) → AllByRecursion (λ (x : ℕ × Op). holders plan x.0 ≡ 1) xs → total (λ b. length (ops_of xs b)) plan ≡ length xs
all_counted plan [] h = none_counted plan
all_counted plan (x ∷ xs) h = let one : holders plan x.0 ≡ 1 = h.0 in let rest = all_counted plan xs h.1 in counted plan x xs ∙ (omega arith)

pub all_ops : (list : List Op) (plan : List (List ℕ)) → is_legal list plan ≡ true → ops_in list plan ≡ length list
all_ops list plan h =
    let l = legal_partition list plan h in
    all_counted plan (numbered list) (partition_once list plan l.0) ∙ long_numbered 1 list

-- ---- what blocks leave is what the list leaves, as from the memory without slots

flat : List (ℕ × Op) → List (List ℕ) → List Op
flat xs [] = []
flat xs (block ∷ plan) = ops_of xs block ++ flat xs plan

eager_flat : (xs : List (ℕ × Op)) (plan : List (List ℕ)) (m : Memory) → eager_blocks m xs plan ≡ eager m (flat xs plan)
unfolding flat
eager_flat xs [] m = refl
eager_flat xs (block ∷ plan) m = eager_flat xs plan (eager m (ops_of xs block)) ∙ sym (eager_append (ops_of xs block) (flat xs plan) m)

slot_missed : (slot : Option ℕ) (new : Slot) (s : ℕ) (rest : List ℕ) (old : Option Slot) → has (option_to_list slot ++ rest) s ≡ false → (slot_after slot new s old ≡ old) × (has rest s ≡ false)
slot_missed None new s rest old h = (refl, h)
slot_missed (Some a) new s rest old h =
    let parts : (nat_eq s a ≡ false) × (has rest s ≡ false) = neither (nat_eq s a) (has rest s) h in
    let apart : a ≢ s = (λ same. eqb-false s a parts.0 (sym same)) in
    (ap (λ b. cond b (Some new) old) (ne_eqb a s apart), parts.1)

untouched : (ops : List Op) (m : Memory) (s : ℕ) → has (slot_numbers ops) s ≡ false → (eager m ops).slots s ≡ m.slots s
untouched [] m s h = refl
untouched (op ∷ ops) m s h =
    let missed = slot_missed op.slot (record { elem = op.from; lengths = lengths_of op.first; numbers = computed m op }) s (slot_numbers ops) (m.slots s) h in
    untouched ops (step m op) s missed.1 ∙ missed.0

slot_met : (slot : Option ℕ) (new : Slot) (s : ℕ) (rest : List ℕ) (old : Option Slot) → has rest s ≡ false → has (option_to_list slot ++ rest) s ≡ true → is_some (slot_after slot new s old) ≡ true
slot_met None new s rest old none h = absurd (false≢true (sym none ∙ h))
slot_met (Some a) new s rest old none h =
    or_cases (nat_eq s a) (has rest s) h (λ e. ap (λ b. is_some (cond b (Some new) old)) (eq-eqb a s (sym (eqb-true s a e)))) (λ e. absurd (false≢true (sym none ∙ e)))

touched : (ops : List Op) (m : Memory) (s : ℕ) → has (slot_numbers ops) s ≡ true → is_some ((eager m ops).slots s) ≡ true
touched [] m s h = absurd (false≢true h)
touched (op ∷ ops) m s h =
    elim (has (slot_numbers ops) s) as (λ b. has (slot_numbers ops) s ≡ b → is_some ((eager (step m op) ops).slots s) ≡ true) [
      | true ↦ λ e. touched ops (step m op) s e
      | false ↦ λ e. ap is_some (untouched ops (step m op) s e) ∙ slot_met op.slot _ s (slot_numbers ops) (m.slots s) e h
    ] refl

-- a slot that no block fills is none of the list
unfilled : (list : List Op) (plan : List (List ℕ)) (g : Memory) → eager g (flat (numbered list) plan) ≡ eager g list → ((s : ℕ) → g.slots s ≡ None) → (s : ℕ) → has (slot_numbers (flat (numbered list) plan)) s ≡ false → blank_slots list s ≡ None
unfilled list plan g same none s h =
    elim (has (slot_numbers list) s) as (λ b. has (slot_numbers list) s ≡ b → blank_slots list s ≡ None) [
      | true ↦ λ e.
          let empty : (eager g list).slots s ≡ None = ap (λ (m : Memory). m.slots s) (sym same) ∙ untouched (flat (numbered list) plan) g s h ∙ none s in
          absurd (false≢true (ap is_some (sym empty) ∙ touched list g s e))
      | false ↦ λ e. blank_none list s e
    ] refl

-- all that is left
pub record Leaves (list : List Op) (g after : Memory) : Type 0 where
  pub bases : after.bases ≡ (eager g list).bases
  pub slots : after.slots ≡ (eager g list).slots

pub leaves_list : (list : List Op) (plan : List (List ℕ)) (f g after : Memory) → is_formed list ≡ true → fits g list ≡ true → is_legal list plan ≡ true → f.bases ≡ g.bases → f.slots ≡ blank_slots list → g.slots ≡ (λ s. None)
    → after ≡ eager_blocks f (numbered list) plan → Leaves list g after
leaves_list list plan f g after formed fit legal e blank none is =
    let ops = flat (numbered list) plan in
    let same : eager g ops ≡ eager g list = sym (eager_flat (numbered list) plan g) ∙ plans_keep list plan g formed fit legal in
    let ran : after ≡ eager f ops = is ∙ eager_flat (numbered list) plan f in
    record {
      bases = ap (λ (m : Memory). m.bases) ran ∙ same_bases ops f g e ∙ ap (λ (m : Memory). m.bases) same;
      slots = ap (λ (m : Memory). m.slots) ran ∙ (λ i s. slots_alike ops f g e (λ k h. ap (λ slots. slots k) blank ∙ unfilled list plan g same (λ n. ap (λ slots. slots n) none) k h ∙ sym (ap (λ slots. slots k) none)) s i) ∙ ap (λ (m : Memory). m.slots) same;
    }
