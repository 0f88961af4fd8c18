use Rattle.std.proofs.Common.{◌∙◌, ◌+◌, ◌*◌, ◌%◌, ◌&&◌, ap₂, length, min}
use Rattle.arr_cost.specs.Footprints.{keeps_class, loses, row_for, span}
use Rattle.arr_cost.proofs.footprints.Footprint.saving.Goals as goal

pub returns : goal.returns
returns c =
    c.saved_weight.ensures
    ∙ ap₂ (λ a b. span c.args.weights.now 0 (64 * min (length a) (length b)) (λ k. keeps_class a k && keeps_class b k) + span c.args.weights.now 0 (64 * min (length a) (length b)) (λ k. loses (row_for a k) (row_for b k) (k % 64)))
    (c.as_slice.ensures.value ∙ c.self.view_is) (c.as_slice-2.ensures.value ∙ c.other.view_is)
