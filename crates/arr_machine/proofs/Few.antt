-- A block has few positions.
use Rattle.std.proofs.Common.{◌≡◌, ◌≤◌, List, [], ◌∷◌, true, cond, Some, map, ap, subst, sym, ◌∙◌, arith}
use Rattle.std.specs.Prelude.{nat_le}
use Rattle.std.specs.List.{AllByRecursion, list_all}
use Rattle.std.specs.Option.{option_to_list}
use Rattle.std.proofs.lemmas.Bool.{leb-true}
use Rattle.arr_num.specs.Kinds.{walks}
use Rattle.arr_view.specs.Strided.{Strided}
use Rattle.arr_view.specs.Views.{has_rank, is_view, positions, strides_kept}
use Rattle.arr_ops.specs.declared.op.Op.{Op}
use Rattle.arr_ops.specs.Formed.{well_formed}
use Rattle.arr_ops.specs.Ops.{inputs, outputs, walked}
use Rattle.arr_ops.proofs.Spots.{all_left, views_of}
use Rattle.arr_ops.proofs.Tests.{both_left, both_right}
use Rattle.arr_strips.specs.Blocks.{block_positions, block_shape, first_shape, is_block}
use Rattle.arr_strips.proofs.Blocks.{Block, block_of}
use Rattle.arr_strips.proofs.Sorts.{Freeing, sorts, walked_plain, walked_reducing, walked_showing}
use Rattle.arr_machine.proofs.Axes.{input_view}

pub few_positions : (v : Strided) → is_view v ≡ true → positions v.lengths ≤ 1048576
few_positions v h =
    let a = both_right (has_rank v.lengths) _ h in
    let b = both_right (list_all (nat_le 1) v.lengths) _ a in
    let d = both_right (strides_kept v.lengths v.strides) _ b in
    leb-true _ _ (both_left (nat_le (positions v.lengths) 1048576) _ d)

pub few_block : (ops : List Op) → is_block ops ≡ true → block_positions ops ≤ 1048576
few_block ops is = let b : Block ops = block_of ops is in shape_few ops b.well
  where
    out_seen : (f : Op) (o : Strided) → f.out ≡ Some o → well_formed f ≡ true → is_view o ≡ true
    out_seen f o e w = (subst (λ x. AllByRecursion (λ v. is_view v ≡ true) (option_to_list x)) e (all_left (λ v. is_view v ≡ true) (outputs f) (inputs f) (views_of f w))).0

    walked_none : (f : Op) → Freeing f → walked f ≡ []
    walked_none f s = ap (λ q. map (λ (u : Strided). u.lengths) (cond (walks q) (inputs f) (outputs f))) s.kind_is ∙ ap (λ x. map (λ (u : Strided). u.lengths) (option_to_list x)) s.no_out

    shape_few : (fs : List Op) → AllByRecursion (λ f. well_formed f ≡ true) fs → positions (block_shape fs) ≤ 1048576
    shape_few [] w = omega arith
    shape_few (f ∷ fs) w =
        sorts f w.0
        (λ o fill plain. subst (λ ss. positions (first_shape ss (block_shape fs)) ≤ 1048576) (sym (walked_plain f o fill plain.out)) (few_positions o (out_seen f o plain.out w.0)))
        (λ v s. subst (λ ss. positions (first_shape ss (block_shape fs)) ≤ 1048576) (sym (walked_showing f v s)) (few_positions v (input_view f v w.0 s.first_is)))
        (λ s. subst (λ ss. positions (first_shape ss (block_shape fs)) ≤ 1048576) (sym (walked_none f s)) (shape_few fs w.1))
        (λ o v s. subst (λ ss. positions (first_shape ss (block_shape fs)) ≤ 1048576) (sym (walked_reducing f o v s)) (few_positions v (input_view f v w.0 s.first_is)))
