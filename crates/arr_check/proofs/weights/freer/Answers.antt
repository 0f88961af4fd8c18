use Rattle.std.proofs.Common.{◌∙◌, sym}
use Rattle.arr_view.specs.Views.{has}
use Rattle.arr_ops.specs.declared.op.Op.{Op}
use Rattle.arr_ops.specs.Ops.{freed}
use Rattle.arr_check.proofs.Positions.{first_at, numbered_at}
use Rattle.arr_check.proofs.weights.freer.Goals as goal

pub returns-then-frees : goal.returns-then-frees
returns-then-frees c =
    numbered_at (λ (op : Op). has (freed op) c.args.base) c.args.ops.now c.loop-at.at
    (first_at (λ (op : Op). has (freed op) c.args.base) c.args.ops.now c.loop-at.at c.index-ops-at.result c.loop-at-test.true c.index-ops-at.is c.loop-at.invariant (sym c.frees.ensures ∙ c.if-frees.true))
