use Rattle.std.proofs.Common.{◌≡◌, ◌∙◌, ap, sym, false}
use Rattle.arr_view.specs.Views.{same_lists}
use Rattle.arr_elab.proofs.target.stored_operation.Goals as goal

pub returns : goal.returns
returns c =
    let differ : same_lists c.args.pending.shape c.args.target.view.lengths ≡ false =
    sym (c.if-same_lists.ensures ∙ ap (λ x. same_lists x c.shape.result.now) c.lengths.ensures.value ∙ ap (same_lists c.args.pending.shape) c.shape.ensures.value) in
    rw differ (rw c.in_ok-source.ensures c.assigned.ensures)
