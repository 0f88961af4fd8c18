use Rattle.std.proofs.Common.{◌∙◌, ◌++◌, ◌∷◌, [], ap₂, sym, cond}
use Rattle.arr_cost.proofs.Members.{ops_all, ops_more}
use Rattle.arr_cost.proofs.costs.block_ops.Goals as goal

pub loop-place-preserved : goal.loop-place-preserved
loop-place-preserved c =
    c.in_ok-push_if.ensures
    ∙ ap₂ (λ found inside. found ++ cond inside (c.index-ops-place.result ∷ []) []) c.loop-place.invariant c.has.ensures
    ∙ sym (ops_more c.args.ops.now c.args.block.now c.loop-place.place c.index-ops-place.result c.loop-place-test.true c.index-ops-place.is)

pub returns : goal.returns
returns c = c.loop-place.invariant ∙ ops_all c.args.ops.now c.args.block.now c.loop-place.place c.loop-place-test.false
