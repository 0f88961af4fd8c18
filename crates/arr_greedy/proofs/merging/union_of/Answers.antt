use Rattle.std.proofs.Common.{◌∙◌, ◌+◌, ◌||◌, ◌++◌, ◌∷◌, [], cond, ap, ap₂, sym, arith, false, get_or}
use Rattle.arr_view.specs.Views.{has}
use Rattle.arr_greedy.proofs.Grids.{filter_more}
use Rattle.arr_greedy.proofs.merging.union_of.Goals as goal

pub loop-place-preserved : goal.loop-place-preserved
loop-place-preserved c =
    let n = c.loop-place.place + 1 in
    c.in_ok-push_if.ensures
    ∙ ap₂ (λ found inside. found ++ cond inside (n ∷ []) []) c.loop-place.invariant
    (c.is_marked.ensures ∙ ap (λ xs. get_or xs n false) c.as_slice.ensures.value ∙ c.in_ok-marks.ensures.marks n (omega arith))
    ∙ sym (filter_more (λ i. has c.args.left.now i || has c.args.right.now i) c.loop-place.place)
