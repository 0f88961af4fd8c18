use Rattle.std.proofs.Common.{◌≡◌, ◌≤◌, ℕ, ℤ, pos, List, length, reverse, true, ap, ap₂, sym, ◌∙◌, subst, arith, rules}
use Rattle.std.specs.Prelude.{IsSome, IsTrue, Some}
use Rattle.arr_view.specs.Strided.{Strided}
use Rattle.arr_view.specs.Views.{is_view, view_from}
use Rattle.arr_view.proofs.Checks.{lawful, same_rank, at_most_four}
use Rattle.arr_shape.specs.Views.{element_at, is_index, transpose}
use Rattle.arr_shape.proofs.Made.{made, sound_view}
use Rattle.arr_shape.proofs.Indexes.{sound_turned, index_length, place-reverse}
use Rattle.arr_shape.proofs.views.transpose.Goals as goal

four : (v : Strided) → is_view v ≡ true → length v.strides ≤ 4
four v e =
    let same : length v.strides ≡ length v.lengths = same_rank v e in
    let few : length v.lengths ≤ 4 = at_most_four v.lengths (lawful v e).rank in
    omega arith

pub reversed-strides-requires : goal.reversed-strides-requires
reversed-strides-requires c = (omega arith, subst (λ xs. length xs ≤ 4) (sym c.strides.ensures.value) (four c.args.view.now c.strides.ensures.lawful))

turned : (v : Strided) → is_view v ≡ true → view_from v.base v.start (reverse v.lengths) (reverse v.strides) ≡ Some (transpose v)
turned v e = made v.base v.start (reverse v.lengths) (reverse v.strides) (sound_turned v.start v.lengths v.strides (same_rank v e) (sound_view v e))

module _ (v : Strided) (base start : ℕ) (ns : List ℕ) (ss : List ℤ) (e : is_view v ≡ true) (a : base ≡ v.base) (b : start ≡ v.start) (f : ns ≡ reverse v.lengths) (g : ss ≡ reverse v.strides) where
  answer : view_from base start ns ss ≡ Some (transpose v)
  answer = ap₂ (λ x y. view_from x y ns ss) a b ∙ ap₂ (view_from v.base v.start) f g ∙ turned v e

turned_element : (v : Strided) (index : List ℕ) → length v.strides ≡ length v.lengths → IsTrue (is_index v.lengths index) → element_at (transpose v) (reverse index) ≡ element_at v index
turned_element v index same e = place-reverse (pos v.start) v.strides index (same ∙ sym (index_length v.lengths index e))

pub unwrap-requires : goal.unwrap-requires
unwrap-requires c =
    subst IsSome
    (sym (c.new.ensures ∙ answer c.args.view.now c.base.result c.start.result c.as_slice.result.now c.as_slice-2.result.now c.base.ensures.lawful c.base.ensures.value c.start.ensures.value
    (c.as_slice.ensures.value ∙ c.reversed-shape.ensures ∙ ap reverse c.shape.ensures.value) (c.as_slice-2.ensures.value ∙ c.reversed-strides.ensures ∙ ap reverse c.strides.ensures.value)))
    (search rules)

pub returns-clause-view : goal.returns-clause-view
returns-clause-view c =
    let some : c.new.result ≡ Some (transpose c.args.view.now) = c.new.ensures ∙ answer c.args.view.now c.base.result c.start.result c.as_slice.result.now c.as_slice-2.result.now c.base.ensures.lawful c.base.ensures.value c.start.ensures.value
    (c.as_slice.ensures.value ∙ c.reversed-shape.ensures ∙ ap reverse c.shape.ensures.value) (c.as_slice-2.ensures.value ∙ c.reversed-strides.ensures ∙ ap reverse c.strides.ensures.value) in
    let same : c.new.result ≡ Some c.unwrap.result = c.unwrap.ensures in
    cc

pub returns-clause-elements : goal.returns-clause-elements
returns-clause-elements c = λ index e.
    let some : c.new.result ≡ Some (transpose c.args.view.now) = c.new.ensures ∙ answer c.args.view.now c.base.result c.start.result c.as_slice.result.now c.as_slice-2.result.now c.base.ensures.lawful c.base.ensures.value c.start.ensures.value
    (c.as_slice.ensures.value ∙ c.reversed-shape.ensures ∙ ap reverse c.shape.ensures.value) (c.as_slice-2.ensures.value ∙ c.reversed-strides.ensures ∙ ap reverse c.strides.ensures.value) in
    let same : c.new.result ≡ Some c.unwrap.result = c.unwrap.ensures in
    let is : c.unwrap.result ≡ transpose c.args.view.now = cc in
    ap (λ w. element_at w (reverse index)) is ∙ turned_element c.args.view.now index (same_rank c.args.view.now c.base.ensures.lawful) e
