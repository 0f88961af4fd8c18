use Rattle.std.proofs.Common.{◌≡◌, ℕ, List, ap, sym, ◌∙◌, subst}
use Rattle.std.specs.Prelude.{Ok, IsTrue}
use Rattle.arr_view.specs.Strided.{Strided}
use Rattle.arr_shape.specs.declared.bounds.Cut.{Cut}
use Rattle.arr_shape.specs.Views.{element_at, is_index}
use Rattle.arr_shape.specs.Slices.{all_cuts, cut_view, taken, picked, AreCuts}
use Rattle.arr_shape.proofs.Taken.{slice_element}
use Rattle.arr_shape.proofs.slices.slice.Goals as goal

pub returns-clause-elements : goal.returns-clause-elements
returns-clause-elements c =
    let v : Strided = c.args.view.now in
    let slices = c.args.slices.now in
    let cuts : List Cut = c.in_ok-cuts.cuts.items in
    let lengths : c.shape-2.result.now ≡ v.lengths = c.shape-2.ensures.value in
    let is : all_cuts v.lengths slices ≡ Ok cuts = sym (ap (λ ns. all_cuts ns slices) lengths) ∙ sym c.in_ok-cuts.ensures.cuts in
    let lawful : AreCuts v.lengths cuts = subst (λ ns. AreCuts ns cuts) lengths c.in_ok-cuts.ensures.lawful in
    let same : c.cut_view.result ≡ cut_view v cuts = c.cut_view.ensures ∙ ap (cut_view v) c.as_slice.ensures.value in
    subst (λ (w : Strided). (index : List ℕ) → IsTrue (is_index w.lengths index) → element_at w index ≡ element_at v (picked (taken v.lengths slices) index)) (sym same)
    (slice_element v slices cuts c.shape.ensures.lawful is lawful)
