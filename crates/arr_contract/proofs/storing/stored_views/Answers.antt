use Rattle.std.proofs.Common.{◌≡◌, ◌∙◌, ap, subst, IfOk}
use Rattle.arr_ops.specs.Costs.{writes}
use Rattle.arr_contract.proofs.Storage.{stored_are}
use Rattle.arr_contract.proofs.storing.stored_views.Goals as goal

pub returns : goal.returns
returns c =
    subst (λ vs. IfOk c.block_writes.result (λ found. found.items ≡ vs)) (ap writes (c.as_slice.ensures.value ∙ c.in_ok-walked.ensures) ∙ stored_are c.args.block.now c.requires) c.block_writes.ensures
