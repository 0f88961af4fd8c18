use Rattle.std.proofs.Common.{◌∙◌, sym}
use Rattle.arr_ops.specs.declared.op.Op.{Op}
use Rattle.arr_ops.specs.Ops.{makes_base}
use Rattle.arr_check.proofs.Positions.{first_at, numbered_at}
use Rattle.arr_check.proofs.weights.creator.Goals as goal

pub returns-then-creates : goal.returns-then-creates
returns-then-creates c =
    numbered_at (λ (op : Op). makes_base op c.args.base) c.args.ops.now c.loop-at.at
    (first_at (λ (op : Op). makes_base op c.args.base) c.args.ops.now c.loop-at.at c.index-ops-at.result c.loop-at-test.true c.index-ops-at.is c.loop-at.invariant (sym c.creates.ensures ∙ c.if-creates.true))
