use Rattle.std.proofs.Common.{◌≡◌, ◌∙◌, ◌+◌, ◌*◌, ◌%◌, ◌&&◌, List, ℕ, ap, length, min}
use Rattle.arr_ops.specs.declared.op.Op.{Op}
use Rattle.arr_cost.specs.Footprints.{keeps_class, loses, row_for, span, weights_of}
use Rattle.arr_cost.proofs.KeptSums.{prints_save}
use Rattle.arr_cost.proofs.costs.Costs.joint_saving.Goals as goal

pub returns : goal.returns
returns c = λ x y f g.
    let weights : c.as_slice.result.now ≡ weights_of c.args.self.now = c.as_slice.ensures.value ∙ c.self.invariant.5 ∙ ap (λ (l : List Op). weights_of l) c.self.view_is in
    prints_save c.args.self.now x y c.args.a.now c.args.b.now c.saving.result f g
    (c.saving.ensures
    ∙ ap (λ (ws : List ℕ). span ws 0 (64 * min (length c.args.a.now) (length c.args.b.now)) (λ k. keeps_class c.args.a.now k && keeps_class c.args.b.now k) + span ws 0 (64 * min (length c.args.a.now) (length c.args.b.now)) (λ k. loses (row_for c.args.a.now k) (row_for c.args.b.now k) (k % 64))) weights)
