-- Accumulators that begin.
use Rattle.std.proofs.Common.{◌≡◌, ◌≢◌, ℕ, ◌+◌, ◌*◌, ◌<◌, ◌≤◌, ℤ, pos, List, [], ◌∷◌, true, false, cond, ◌||◌, Some, length, get_or, map, set, refl, ap, ap₂, sym, subst, ◌∙◌, arith}
use Rattle.std.specs.Prelude.{◌==◌}
use Rattle.std.specs.List.{AllByRecursion}
use Rattle.std.specs.Option.{option_to_list}
use Rattle.std.proofs.lemmas.Bool.{eqb-true, eqb-false, false≢true, true≢false}
use Rattle.arr_num.specs.declared.code.Code.{Code}
use Rattle.arr_num.specs.declared.elem.Elem.{Elem}
use Rattle.arr_num.specs.Kinds.{Kind, Reduction, binds_one, binds_two, counts, folds, is_fold, is_reduction, kind, scans, walks}
use Rattle.arr_num.specs.Numbers.{fold_start, in_type}
use Rattle.arr_view.specs.Strided.{Strided}
use Rattle.arr_view.specs.Views.{is_view, positions}
use Rattle.arr_view.proofs.Checks.{lawful}
use Rattle.arr_view.proofs.Counting.{some_position}
use Rattle.arr_ops.specs.declared.op.Op.{Op}
use Rattle.arr_ops.specs.Formed.{well_formed}
use Rattle.arr_ops.specs.Ops.{inputs, outputs, walked}
use Rattle.arr_ops.specs.Traffic.{kept_for, scratch}
use Rattle.arr_ops.proofs.Spots.{all_left, views_of}
use Rattle.arr_ops.proofs.Typed.{zero_in}
use Rattle.arr_strips.specs.Blocks.{block_positions, block_shape, first_shape, is_block}
use Rattle.arr_strips.specs.Columns.{count}
use Rattle.arr_strips.proofs.Blocks.{Block, block_of}
use Rattle.arr_strips.proofs.Sorts.{Freeing, sorts, walked_plain, walked_reducing, walked_showing}
use Rattle.arr_sums.specs.Kept.{ChangesWithin, StepsEach, kept_at}
use Rattle.arr_sums.proofs.Kept.{steps_more, steps_within}
use Rattle.arr_machine.specs.Kept.{StartsBelow, TypedKept, kept_from}
use Rattle.arr_machine.specs.Standing.{IsStripOf}
use Rattle.arr_machine.specs.Tasks.{IsAlong}
use Rattle.arr_machine.specs.declared.task.Along.{Along}
use Rattle.arr_machine.proofs.Axes.{input_view}
use Rattle.arr_machine.proofs.Blocks.{kept_inside, same_item, sums_room}
use Rattle.arr_machine.proofs.Steps.{kept_elsewhere, typed_within, well}

-- ---- a block has a position

some_view : (v : Strided) → is_view v ≡ true → 1 ≤ positions v.lengths
some_view v h = some_position v.lengths (lawful v h).lengths

pub some_block : (ops : List Op) → is_block ops ≡ true → 1 ≤ block_positions ops
some_block ops is = let b : Block ops = block_of ops is in shape_some ops b.well
  where
    out_seen : (f : Op) (o : Strided) → f.out ≡ Some o → well_formed f ≡ true → is_view o ≡ true
    out_seen f o e w = (subst (λ x. AllByRecursion (λ v. is_view v ≡ true) (option_to_list x)) e (all_left (λ v. is_view v ≡ true) (outputs f) (inputs f) (views_of f w))).0

    walked_none : (f : Op) → Freeing f → walked f ≡ []
    walked_none f s = ap (λ q. map (λ (u : Strided). u.lengths) (cond (walks q) (inputs f) (outputs f))) s.kind_is ∙ ap (λ x. map (λ (u : Strided). u.lengths) (option_to_list x)) s.no_out

    shape_some : (fs : List Op) → AllByRecursion (λ f. well_formed f ≡ true) fs → 1 ≤ positions (block_shape fs)
    shape_some [] w = omega arith
    shape_some (f ∷ fs) w =
        sorts f w.0
        (λ o fill plain. subst (λ ss. 1 ≤ positions (first_shape ss (block_shape fs))) (sym (walked_plain f o fill plain.out)) (some_view o (out_seen f o plain.out w.0)))
        (λ v s. subst (λ ss. 1 ≤ positions (first_shape ss (block_shape fs))) (sym (walked_showing f v s)) (some_view v (input_view f v w.0 s.first_is)))
        (λ s. subst (λ ss. 1 ≤ positions (first_shape ss (block_shape fs))) (sym (walked_none f s)) (shape_some fs w.1))
        (λ o v s. subst (λ ss. 1 ≤ positions (first_shape ss (block_shape fs))) (sym (walked_reducing f o v s)) (some_view v (input_view f v w.0 s.first_is)))

-- the first position alone is a strip
pub one_strip : (ops : List Op) → is_block ops ≡ true → Rattle.arr_ops.specs.Formed.each_typed ops ≡ true → IsStripOf ops 0 1 1
one_strip ops is types = record { block = is; types = types; some = omega arith; within = omega arith; inside = (let s : 1 ≤ block_positions ops = some_block ops is in omega arith) }

-- ---- one task more

module _ (ops : List Op) (t : IsStripOf ops 0 1 1) (k : ℕ) (op : Op) (l : k < length ops) (e : op ≡ get_or ops k op) (xs : List ℤ) where
  -- an operation that is no reduction
  pub starts_other : is_reduction op.code ≡ false → StartsBelow ops k xs → StartsBelow ops (k + 1) xs
  starts_other none h j f u lj ej red q v =
      elim (j == k) as (λ z. (j == k) ≡ z → kept_at xs (kept_from ops j) q ≡ fold_start f.code f.to) [
        | true ↦ λ d.
            let item : op ≡ f = same_item ops k op f l e (subst (λ i. f ≡ get_or ops i f) (eqb-true j k d) ej) in
            absurd (true≢false (sym red ∙ sym (ap (λ (g : Op). is_reduction g.code) item) ∙ none))
        | false ↦ λ d. let ne : j ≢ k = eqb-false j k d in h j f (omega arith) lj ej red q v
      ] refl

  module _ (along : Along) (kind_is : kind op.code ≡ Reduction) (a : IsAlong ops k op along) where
    size_is : along.axis.outer * along.axis.inner ≡ count op
    size_is =
        ap₂ (λ m n. m * n) a.outer a.inner
        ∙ sorts op (well ops 0 1 1 t k op l e) (λ o fill plain. absurd (true≢false (ap folds (sym kind_is) ∙ fill.not_fold))) (λ v s. absurd (true≢false (ap folds (sym kind_is ∙ s.kind_is))))
        (λ s. absurd (true≢false (ap folds (sym kind_is ∙ s.kind_is)))) (λ o v s. s.size)

    small : along.axis.outer * along.axis.inner ≤ kept_for op
    small = subst (λ n. n ≤ kept_for op) (sym size_is) (sums_room op (well ops 0 1 1 t k op l e) (ap folds kind_is))

    pub starts_inside : length xs ≡ scratch ops → along.kept + along.axis.outer * along.axis.inner ≤ length xs
    starts_inside long =
        let b : along.kept ≡ kept_from ops k = a.kept in
        let c : kept_from ops k + kept_for op ≤ scratch ops = kept_inside ops k op l e in
        let d : along.axis.outer * along.axis.inner ≤ kept_for op = small in
        omega arith

    module _ (ys : List ℤ) (s : StepsEach along.elem (λ sum x. fold_start along.code along.elem) xs (λ j. pos 0) along.kept (along.axis.outer * along.axis.inner) ys) where
      changes : ChangesWithin op.to (kept_from ops k) (along.axis.outer * along.axis.inner) xs ys
      changes =
          let at : StepsEach along.elem (λ sum x. fold_start along.code along.elem) xs (λ j. pos 0) (along.kept + 0) (along.axis.outer * along.axis.inner) ys =
          subst (λ n. StepsEach along.elem (λ sum x. fold_start along.code along.elem) xs (λ j. pos 0) n (along.axis.outer * along.axis.inner) ys) (let z : along.kept ≡ along.kept + 0 = omega arith in z) s in
          let w : ChangesWithin along.elem along.kept (along.axis.outer * along.axis.inner) xs ys = steps_within along.elem (λ sum x. fold_start along.code along.elem) xs ys (λ j. pos 0) along.kept 0 (along.axis.outer * along.axis.inner) (along.axis.outer * along.axis.inner) (omega arith) at in
          subst (λ y. ChangesWithin y (kept_from ops k) (along.axis.outer * along.axis.inner) xs ys) a.elem (subst (λ n. ChangesWithin along.elem n (along.axis.outer * along.axis.inner) xs ys) a.kept w)

      pub starts_typed : TypedKept ops xs → TypedKept ops ys
      starts_typed h = typed_within ops 0 1 1 t k op l e (along.axis.outer * along.axis.inner) xs ys small changes h

      pub starts_more : StartsBelow ops k xs → StartsBelow ops (k + 1) ys
      starts_more h j f u lj ej red q v =
          elim (j == k) as (λ z. (j == k) ≡ z → kept_at ys (kept_from ops j) q ≡ fold_start f.code f.to) [
            | true ↦ λ d.
                let same : j ≡ k = eqb-true j k d in
                let item : op ≡ f = same_item ops k op f l e (subst (λ i. f ≡ get_or ops i f) same ej) in
                let inside : q < along.axis.outer * along.axis.inner = subst (λ n. q < n) (sym size_is) (subst (λ (g : Op). q < count g) (sym item) v) in
                ap (λ i. kept_at ys (kept_from ops i) q) same ∙ ap (λ n. kept_at ys n q) (sym a.kept) ∙ s.each q inside ∙ ap₂ fold_start a.code a.elem ∙ ap (λ (g : Op). fold_start g.code g.to) item
            | false ↦ λ d.
                let ne : j ≢ k = eqb-false j k d in
                kept_elsewhere ops 0 1 1 t k op l e op.to (along.axis.outer * along.axis.inner) xs ys small changes j f lj ej ne q (let r : count f ≤ kept_for f = sums_room f (well ops 0 1 1 t j f lj ej) red in omega arith) ∙ h j f (omega arith) lj ej red q v
          ] refl

-- zeros are of each type
pub zeros_typed : (t : Elem) (ops : List Op) (xs ys : List ℤ) → length xs ≡ scratch ops → StepsEach t (λ _ _. pos 0) xs (λ _. pos 0) 0 (length xs) ys → TypedKept ops ys
zeros_typed t ops xs ys long s j op lj ej q v =
    let b : kept_from ops j + kept_for op ≤ scratch ops = kept_inside ops j op lj ej in
    let z : kept_from ops j + q ≡ 0 + (kept_from ops j + q) = omega arith in
    ap (λ i. in_type op.to (get_or ys i (pos 0))) z ∙ ap (in_type op.to) (s.each (kept_from ops j + q) (omega arith)) ∙ zero_in op.to

-- a cleared number more
pub zeros_more : (t : Elem) (xs now : List ℤ) (i : ℕ) → i < length now → StepsEach t (λ _ _. pos 0) xs (λ _. pos 0) 0 i now → StepsEach t (λ _ _. pos 0) xs (λ _. pos 0) 0 (i + 1) (set now i (pos 0))
zeros_more t xs now i u h =
    let z : 0 + i ≡ i = omega arith in
    subst (λ n. StepsEach t (λ _ _. pos 0) xs (λ _. pos 0) 0 (i + 1) (set now n (pos 0))) z (steps_more t (λ _ _. pos 0) xs now (λ _. pos 0) 0 i (pos 0) (omega arith) refl (zero_in t) h)

-- an element-wise operation is no reduction
pub plain_kind : (k : Kind) → (binds_two k || (binds_one k || counts k)) ≡ true → folds k ≡ false
plain_kind Reduction h = absurd (false≢true h)
plain_kind _ h = refl

-- a reduction is a fold
pub reduction_fold : (code : Code) → kind code ≡ Reduction → is_fold code ≡ true
reduction_fold code e = ap (λ k. folds k || scans k) e
