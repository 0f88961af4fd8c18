-- A block without serial operations is one that may be walked.
use Rattle.std.proofs.Common.{◌≡◌, List, [], ◌∷◌, Bool, true, false, not, ◌||◌, ◌&&◌, refl}
use Rattle.std.specs.List.{list_all, list_any}
use Rattle.std.proofs.lemmas.Bool.{false≢true, true≢false}
use Rattle.arr_ops.specs.declared.op.Op.{Op}
use Rattle.arr_ops.specs.Formed.{all_pairs, each_inside, each_typed, may_precede, well_formed}
use Rattle.arr_ops.specs.Ops.{fusible, serial}
use Rattle.arr_ops.proofs.Tests.{both_left, both_right}
use Rattle.arr_strips.specs.Blocks.{is_block}
use Rattle.arr_contract.specs.Prepared.{may_share_block}

both_true : (a b : Bool) → a ≡ true → b ≡ true → (a && b) ≡ true
both_true true b x y = y
both_true false b x y = absurd (false≢true x)

none_serial : (ops : List Op) → list_any serial ops ≡ false → list_all (λ f. not (serial f)) ops ≡ true
none_serial [] h = refl
none_serial (op ∷ ops) h =
    elim (serial op) as (λ z. (z || list_any serial ops) ≡ false → (not z && list_all (λ f. not (serial f)) ops) ≡ true) [
      | true ↦ λ e. absurd (true≢false e)
      | false ↦ λ e. none_serial ops e
    ] h

module _ (ops : List Op) (h : may_share_block ops ≡ true) where
  inside : (each_inside ops && (each_typed ops && (all_pairs may_precede ops && all_pairs fusible ops))) ≡ true
  inside = both_right (list_all well_formed ops) _ h

  types : (each_typed ops && (all_pairs may_precede ops && all_pairs fusible ops)) ≡ true
  types = both_right (each_inside ops) _ inside

  pub block_typed : each_typed ops ≡ true
  block_typed = both_left (each_typed ops) _ types

  pub parallel_block : list_any serial ops ≡ false → is_block ops ≡ true
  parallel_block none =
      let rest = both_right (each_typed ops) _ types in
      both_true (list_all well_formed ops) _ (both_left (list_all well_formed ops) _ h)
      (both_true (each_inside ops) _ (both_left (each_inside ops) _ inside)
      (both_true (all_pairs may_precede ops) _ (both_left (all_pairs may_precede ops) _ rest)
      (both_true (all_pairs fusible ops) _ (both_right (all_pairs may_precede ops) _ rest) (none_serial ops none))))
