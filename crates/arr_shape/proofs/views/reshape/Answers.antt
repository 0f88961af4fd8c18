use Rattle.std.proofs.Common.{◌≡◌, ◌+◌, ◌≤◌, ℕ, List, true, ap, ap₂, sym, ◌∙◌, subst, arith, rules}
use Rattle.std.specs.Prelude.{IsSome, Some, IfOk, Ok, ok_or}
use Rattle.std.specs.List.{range_with_len}
use Rattle.arr_view.specs.Strided.{Strided}
use Rattle.arr_view.specs.Views.{elements, positions, is_view, whole_view, whole_strides, checked, view_from}
use Rattle.arr_shape.specs.declared.fault.ShapeFault.TheVariants.{NotContiguous}
use Rattle.arr_shape.specs.Views.{is_consecutive}
use Rattle.arr_shape.proofs.Shapes.{IsShape, shape_of}
use Rattle.arr_shape.proofs.Made.{checked_made, made, strided_of}
use Rattle.arr_shape.proofs.Consecutive.{sound_whole, elements_whole, ends_inside, lists_same, other_count, reshape_by}
use Rattle.arr_shape.proofs.views.reshape.Goals as goal

whole_there : (base : ℕ) (shape : List ℕ) → IsShape shape → checked (whole_view base shape) ≡ Some (whole_view base shape)
whole_there base shape good = checked_made base 0 shape (whole_strides shape) (sound_whole 0 shape good (let h : positions shape ≤ 1048576 = good.size in omega arith))

pub unwrap-whole-requires : goal.unwrap-whole-requires
unwrap-whole-requires c = subst IsSome (sym (c.whole.ensures.value ∙ whole_there c.base.result c.args.shape.now (shape_of c.args.shape.now c.requires))) (search rules)

pub returns-then-positions-clause-view : goal.returns-then-positions-clause-view
returns-then-positions-clause-view c =
    let shape : List ℕ = c.args.shape.now in
    let whole_is : Some c.unwrap-whole.result ≡ Some (whole_view c.base.result shape) = sym c.unwrap-whole.ensures ∙ c.whole.ensures.value ∙ whole_there c.base.result shape (shape_of shape c.requires) in
    let same : c.unwrap-whole.result ≡ whole_view c.base.result shape = cc in
    sym (other_count c.args.view.now shape (λ e. c.if-positions.true (c.positions.ensures.value ∙ ap (λ (w : Strided). positions w.lengths) same ∙ sym e ∙ sym c.positions-2.ensures.value)))

module _ (v : Strided) (shape : List ℕ) (lawful : is_view v ≡ true) (good : IsShape shape) (even : positions v.lengths ≡ positions shape) (in_order : is_consecutive v ≡ true) where
  reshaped : view_from v.base v.start shape (whole_strides shape) ≡ Some (strided_of v.base v.start shape (whole_strides shape))
  reshaped = made v.base v.start shape (whole_strides shape) (sound_whole v.start shape good (subst (λ k. v.start + k ≤ 1048576) even (ends_inside v lawful in_order)))

  same_elements : elements (strided_of v.base v.start shape (whole_strides shape)) ≡ elements v
  same_elements = elements_whole v.base v.start shape ∙ ap (range_with_len v.start) (sym even) ∙ sym (lists_same _ _ in_order)

pub returns-clause-view : goal.returns-clause-view
returns-clause-view c =
    let v : Strided = c.args.view.now in
    let shape : List ℕ = c.args.shape.now in
    let good : IsShape shape = shape_of shape c.requires in
    let whole_is : Some c.unwrap-whole.result ≡ Some (whole_view c.base.result shape) = sym c.unwrap-whole.ensures ∙ c.whole.ensures.value ∙ whole_there c.base.result shape good in
    let same : c.unwrap-whole.result ≡ whole_view c.base.result shape = cc in
    let even : positions v.lengths ≡ positions shape = sym c.positions-2.ensures.value ∙ sym c.if-positions.false ∙ c.positions.ensures.value ∙ ap (λ (w : Strided). positions w.lengths) same in
    let in_order : is_consecutive v ≡ true = sym c.is_gapless.ensures.value ∙ c.if-not-is_gapless.false in
    let strides : c.strides.result.now ≡ whole_strides shape = c.strides.ensures.value ∙ ap (λ (w : Strided). w.strides) same in
    c.ok_or.ensures.value
    ∙ ap (λ o. ok_or o NotContiguous)
    (c.new.ensures ∙ ap₂ (λ x y. view_from x y shape c.strides.result.now) c.base-2.ensures.value c.start.ensures.value ∙ ap (view_from v.base v.start shape) strides ∙ reshaped v shape c.start.ensures.lawful good even in_order)
    ∙ sym (reshape_by v shape true even in_order)

pub returns-clause-elements : goal.returns-clause-elements
returns-clause-elements c =
    let v : Strided = c.args.view.now in
    let shape : List ℕ = c.args.shape.now in
    let good : IsShape shape = shape_of shape c.requires in
    let whole_is : Some c.unwrap-whole.result ≡ Some (whole_view c.base.result shape) = sym c.unwrap-whole.ensures ∙ c.whole.ensures.value ∙ whole_there c.base.result shape good in
    let same : c.unwrap-whole.result ≡ whole_view c.base.result shape = cc in
    let even : positions v.lengths ≡ positions shape = sym c.positions-2.ensures.value ∙ sym c.if-positions.false ∙ c.positions.ensures.value ∙ ap (λ (w : Strided). positions w.lengths) same in
    let in_order : is_consecutive v ≡ true = sym c.is_gapless.ensures.value ∙ c.if-not-is_gapless.false in
    let strides : c.strides.result.now ≡ whole_strides shape = c.strides.ensures.value ∙ ap (λ (w : Strided). w.strides) same in
    let is : c.ok_or.result ≡ Ok (strided_of v.base v.start shape (whole_strides shape)) =
    c.ok_or.ensures.value
    ∙ ap (λ o. ok_or o NotContiguous)
    (c.new.ensures ∙ ap₂ (λ x y. view_from x y shape c.strides.result.now) c.base-2.ensures.value c.start.ensures.value ∙ ap (view_from v.base v.start shape) strides ∙ reshaped v shape c.start.ensures.lawful good even in_order) in
    subst (λ r. IfOk r (λ (w : Strided). elements w ≡ elements v)) (sym is) (same_elements v shape c.start.ensures.lawful good even in_order)
