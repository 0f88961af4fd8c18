-- Every legal plan of a formed list leaves the memory that the list leaves.
use Rattle.std.proofs.Common.{◌≡◌, ◌≢◌, ℕ, ◌+◌, ◌≤◌, List, [], ◌∷◌, Bool, true, false, not, ◌||◌, ◌&&◌, refl, ◌∙◌, arith, Option, Some, None, length}
use Rattle.std.proofs.lemmas.Bool.{false≢true, eqb-true, leb-true}
use Rattle.std.specs.Prelude.{is_some, nat_le, nat_lt, ◌==◌}
use Rattle.std.specs.List.{AllByRecursion, list_all, range_with_len, enumerate_from}
use Rattle.std.specs.Option.{option_to_list}
use Rattle.arr_view.specs.Strided.{Strided}
use Rattle.arr_view.specs.Views.{elements, same_lists, repeated, is_view, has_rank, strides_kept}
use Rattle.arr_ops.specs.Ops.{dep, fusible, views, outputs, inputs}
use Rattle.arr_ops.specs.Memory.{Memory, step, eager}
use Rattle.arr_ops.specs.Formed.{is_formed, well_formed, inside_made, slot_numbers, is_whole, kind_kept}
use Rattle.arr_ops.specs.Plans.{pair_legal, numbered, holders, place, not_empty}
use Rattle.arr_ops.specs.Laws.{PlansKeepMemory}
use Rattle.arr_ops.specs.declared.op.Op.{Op}
use Rattle.arr_ops.proofs.Pairs.{Pairs, All_weaker, Pairs_weaker, Pairs_All, Pairs_both}
use Rattle.arr_ops.proofs.Tests.{both_left, both_right, all_of, pairs_of, cross, pairs_numbered}
use Rattle.arr_ops.proofs.Reorder.{run}
use Rattle.arr_ops.proofs.Blocks.{numbered_step, Once, Ordered, blocks_run}
use Rattle.arr_ops.proofs.Commute.{step_comm}
use Rattle.arr_ops.proofs.Apart.{Sound, Whole, IsCons, cons_elements, SlotsApart, slots_apart, separate}

run-numbered : (k : ℕ) (m : Memory) (xs : List Op) → run numbered_step m (enumerate_from k xs) ≡ eager m xs
run-numbered k m [] = refl
run-numbered k m (x ∷ xs) = run-numbered (k + 1) (step m x) xs

-- ---- from the tests of a formed list

cons_view : (v : Strided) → is_view v ≡ true → IsCons (elements v)
cons_view v e =
    let a = both_right (has_rank v.lengths) _ e in
    let b = both_right (list_all (nat_le 1) v.lengths) _ a in
    cons_elements v (both_left (list_all (nat_le 1) v.lengths) _ a) (both_left (strides_kept v.lengths v.strides) _ b)

whole_of : (out : Option Strided) (makes : Bool) (more : Strided → Bool)
    → (not makes || (is_some out && list_all (λ (o : Strided). is_whole o && more o) (option_to_list out))) ≡ true → Whole out makes
whole_of None makes more e = tt
whole_of (Some v) false more e = λ m. absurd (false≢true m)
whole_of (Some v) true more e = λ m. both_left (is_whole v) (more v) (both_left (is_whole v && more v) true e)

sound : (f : Op) → well_formed f ≡ true → Sound f
sound f e =
    let a = both_right (kind_kept f) _ e in
    let b = both_right (list_all is_view (views f)) _ a in
    let c = both_right (list_all (λ o. not (repeated (elements o))) (outputs f)) _ b in
    record {
      whole = whole_of f.out f.makes (λ o. list_all (λ (v : Strided). not (v.base == o.base)) (inputs f)) c;
      cons = All_weaker (λ v. is_view v ≡ true) (λ v. IsCons (elements v)) cons_view (views f) (all_of is_view (views f) (both_left (list_all is_view (views f)) _ a));
    }

-- what a formed list says of two of its operations
pub record Beside (f g : Op) : Type 0 where
  pub sound_left : Sound f
  pub sound_right : Sound g
  pub inside_left : inside_made f g ≡ true
  pub inside_right : inside_made g f ≡ true
  pub slots : SlotsApart f g

pub beside_all : (list : List Op) → is_formed list ≡ true → Pairs Beside list
beside_all list e =
    let a = both_right (list_all well_formed list) _ e in
    let b = both_right (same_lists (slot_numbers list) (range_with_len 1 (length (slot_numbers list)))) _ a in
    let formed : AllByRecursion Sound list = All_weaker (λ f. well_formed f ≡ true) Sound sound list (all_of well_formed list (both_left (list_all well_formed list) _ e)) in
    let insides : Pairs (λ f g. (inside_made f g ≡ true) × (inside_made g f ≡ true)) list =
    cross (λ f g. inside_made f g ≡ true) list
    (All_weaker (λ f. list_all (inside_made f) list ≡ true) (λ f. AllByRecursion (λ g. inside_made f g ≡ true) list) (λ f h. all_of (inside_made f) list h) list
    (all_of (λ f. list_all (inside_made f) list) list (both_left (list_all (λ f. list_all (inside_made f) list) list) _ b))) in
    let slots : Pairs SlotsApart list = slots_apart list (both_left (same_lists (slot_numbers list) (range_with_len 1 (length (slot_numbers list)))) _ a) in
    Pairs_All Sound (λ f g. SlotsApart f g × ((inside_made f g ≡ true) × (inside_made g f ≡ true))) Beside
    (λ f g p q r. record { sound_left = p; sound_right = q; inside_left = r.1.0; inside_right = r.1.1; slots = r.0 })
    list formed (Pairs_both SlotsApart (λ f g. (inside_made f g ≡ true) × (inside_made g f ≡ true)) list slots insides)

pub commute_beside : (f g : Op) → Beside f g → dep f g ≡ false → (m : Memory) → step (step m f) g ≡ step (step m g) f
commute_beside f g b d m = step_comm f g m (separate f g b.sound_left b.sound_right b.inside_left b.inside_right b.slots d)

-- ---- from the tests of a legal plan

once_test : (plan : List (List ℕ)) (x : ℕ × Op) → (holders plan x.0 == 1) ≡ true → Once plan x
once_test plan x e = eqb-true (holders plan x.0) 1 e

independent_if_back : (d le : Bool) → (not d || le) ≡ true → le ≢ true → d ≡ false
independent_if_back true le e h = absurd (h e)
independent_if_back false le e h = refl

ordered_test : (plan : List (List ℕ)) (x y : ℕ × Op) → pair_legal plan x y ≡ true → Beside x.1 y.1 → Ordered plan x y
ordered_test plan x y e b lt m =
    let d : (not (dep x.1 y.1) || nat_le (place plan x.0) (place plan y.0)) ≡ true = both_right (not (place plan x.0 == place plan y.0) || fusible x.1 y.1) _ e in
    commute_beside x.1 y.1 b
    (independent_if_back (dep x.1 y.1) (nat_le (place plan x.0) (place plan y.0)) d (λ t. let le : place plan x.0 ≤ place plan y.0 = leb-true (place plan x.0) (place plan y.0) t in absurd (omega arith))) m

pub plans_keep : PlansKeepMemory
plans_keep list plan m formed fit legal =
    let xs : List (ℕ × Op) = numbered list in
    let a = both_right (list_all (λ block. not_empty block && list_all (λ i. nat_lt 0 i && nat_le i (length list)) block) plan) _ legal in
    blocks_run plan m xs
    (All_weaker (λ (x : ℕ × Op). (holders plan x.0 == 1) ≡ true) (Once plan) (once_test plan) xs (all_of (λ (x : ℕ × Op). holders plan x.0 == 1) xs (both_left (list_all (λ (x : ℕ × Op). holders plan x.0 == 1) xs) _ a)))
    (Pairs_weaker (λ x y. (pair_legal plan x y ≡ true) × Beside x.1 y.1) (Ordered plan) (λ x y h. ordered_test plan x y h.0 h.1) xs
    (Pairs_both (λ x y. pair_legal plan x y ≡ true) (λ x y. Beside x.1 y.1) xs
    (pairs_of (pair_legal plan) xs (both_right (list_all (λ (x : ℕ × Op). holders plan x.0 == 1) xs) _ a))
    (pairs_numbered Beside 1 list (beside_all list formed))))
    ∙ run-numbered 1 m list
