use Rattle.arr_check.proofs.Apart.{no_overlap}
use Rattle.arr_check.proofs.alike.overlaps.Goals as goal

pub returns-then-lie_apart : goal.returns-then-lie_apart
returns-then-lie_apart c = no_overlap c.args.a.now c.args.b.now (c.lie_apart.ensures c.if-lie_apart.true)
