-- Rewriting, in the words of the definitions: what holds of the next application, and of the normal form.
use Rattle.std.proofs.Common.{◌≡◌, ◌<◌, List, [], ◌∷◌, Bool, true, ◌&&◌, refl, ap, ap₂, sym, ◌∙◌, Some, None}
use Rattle.std.specs.Prelude.{length}
use Rattle.std.specs.List.{AllByRecursion, list_all, range_with_len}
use Rattle.arr_view.specs.Views.{same_lists}
use Rattle.arr_ops.specs.declared.op.Op.{Op}
use Rattle.arr_ops.specs.Memory.{Memory, eager}
use Rattle.arr_ops.specs.Formed.{is_formed, well_formed, inside_made, same_types, may_precede, each_inside, each_typed, slots_ascend, all_pairs}
use Rattle.arr_ops.specs.Fits.{fits}
use Rattle.arr_ops.proofs.Pairs.{Pairs, All_weaker}
use Rattle.arr_ops.proofs.Tests.{both_left, both_right, test_all}
use Rattle.arr_ops.proofs.Spots.{Formed, formed_of}
use Rattle.arr_rewrite.specs.NextRewrite.{next_rewrite}
use Rattle.arr_rewrite.specs.NormalForm.{potential, normal_form}
use Rattle.arr_rewrite.proofs.Turns.{Follows}
use Rattle.arr_rewrite.proofs.NextFollows.{next_follows}
use Rattle.arr_rewrite.proofs.NextKeeps as memory
use Rattle.arr_rewrite.proofs.Normal.{Falls, ends, stays, steps, here}

-- ---- the test of a formed list

pairs_test : (t : Op → Op → Bool) (list : List Op) → Pairs (λ f g. t f g ≡ true) list → all_pairs t list ≡ true
pairs_test t [] h = refl
pairs_test t (f ∷ fs) h = ap₂ (λ a b. a && b) (test_all (t f) fs h.0) (pairs_test t fs h.1)

square_test : (t : Op → Op → Bool) (list : List Op) → AllByRecursion (λ f. AllByRecursion (λ g. t f g ≡ true) list) list → list_all (λ f. list_all (t f) list) list ≡ true
square_test t list h =
    test_all (λ f. list_all (t f) list) list (All_weaker (λ f. AllByRecursion (λ g. t f g ≡ true) list) (λ f. list_all (t f) list ≡ true) (λ f k. test_all (t f) list k) list h)

pub formed_test : (list : List Op) → Formed list → slots_ascend list ≡ true → is_formed list ≡ true
formed_test list h s =
    ap₂ (λ a b. a && b) (test_all well_formed list h.well)
    (ap₂ (λ a b. a && b) s (ap₂ (λ a b. a && b) (square_test inside_made list h.inside) (ap₂ (λ a b. a && b) (square_test same_types list h.types) (pairs_test may_precede list h.order))))

-- ---- the next application

pub next_formed : (list next : List Op) → is_formed list ≡ true → next_rewrite list ≡ Some next → is_formed next ≡ true
next_formed list next h e =
    let f : Follows list next = next_follows list next (formed_of list h) e in
    let slots : slots_ascend list ≡ true = both_left (slots_ascend list) (each_inside list && (each_typed list && all_pairs may_precede list)) (both_right (list_all well_formed list) _ h) in
    formed_test next f.formed (ap (λ ss. same_lists ss (range_with_len 1 (length ss))) (sym f.slots) ∙ slots)

pub next_falls : (list next : List Op) → is_formed list ≡ true → next_rewrite list ≡ Some next → potential next < potential list
next_falls list next h e = (next_follows list next (formed_of list h) e).falls

pub next_fits : (m : Memory) (list next : List Op) → is_formed list ≡ true → fits m list ≡ true → next_rewrite list ≡ Some next → fits m next ≡ true
next_fits m list next h f e = (next_follows list next (formed_of list h) e).fits m f

pub next_keeps : (m : Memory) (list next : List Op) → is_formed list ≡ true → fits m list ≡ true → next_rewrite list ≡ Some next → eager m list ≡ eager m next
next_keeps m list next h f e = memory.next_keeps m list next (formed_of list h) f e

-- ---- the normal form

abbrev IsFormed : List Op → Type 0
IsFormed list = is_formed list ≡ true

formed_falls : Falls IsFormed
formed_falls = record { kept = next_formed; less = next_falls }

pub normal_formed : (list : List Op) → is_formed list ≡ true → is_formed (normal_form list) ≡ true
normal_formed list h = stays IsFormed formed_falls list h

pub normal_ends : (list : List Op) → is_formed list ≡ true → next_rewrite (normal_form list) ≡ None
normal_ends list h = ends IsFormed formed_falls list h

pub normal_step : (list next : List Op) → is_formed list ≡ true → next_rewrite list ≡ Some next → normal_form list ≡ normal_form next
normal_step list next h e = steps IsFormed formed_falls list next h e

pub normal_here : (list : List Op) → next_rewrite list ≡ None → normal_form list ≡ list
normal_here list e = here (potential list) list e

-- a formed list that m fits and that leaves k
record Leads (m k : Memory) (list : List Op) : Type 0 where
  formed : is_formed list ≡ true
  fitting : fits m list ≡ true
  leaves : eager m list ≡ k

leads_falls : (m k : Memory) → Falls (Leads m k)
leads_falls m k = record {
  kept = λ list next h e. record { formed = next_formed list next h.formed e; fitting = next_fits m list next h.formed h.fitting e; leaves = sym (next_keeps m list next h.formed h.fitting e) ∙ h.leaves };
  less = λ list next h e. next_falls list next h.formed e;
}

normal_leads : (m : Memory) (list : List Op) → is_formed list ≡ true → fits m list ≡ true → Leads m (eager m list) (normal_form list)
normal_leads m list h f = stays (Leads m (eager m list)) (leads_falls m (eager m list)) list (record { formed = h; fitting = f; leaves = refl })

pub normal_fits : (m : Memory) (list : List Op) → is_formed list ≡ true → fits m list ≡ true → fits m (normal_form list) ≡ true
normal_fits m list h f = (normal_leads m list h f).fitting

pub normal_keeps : (m : Memory) (list : List Op) → is_formed list ≡ true → fits m list ≡ true → eager m (normal_form list) ≡ eager m list
normal_keeps m list h f = (normal_leads m list h f).leaves
