use Rattle.arr_cert.proofs.Writes.{wrote_as}
use Rattle.arr_cert.proofs.Lines.{head_first, head_second}
use Rattle.arr_cert.proofs.writing.put_head.Goals as goal

pub returns-then-version-eq1 : goal.returns-then-version-eq1
returns-then-version-eq1 g c = wrote_as _ _ _ _ _ _ _ _ _ _ c.put_line.ensures (head_first c.args.number c.args.count c.args.version _ _ c.from-number.ensures c.from-count.ensures c.if-version-eq1.true)

pub returns : goal.returns
returns g c = wrote_as _ _ _ _ _ _ _ _ _ _ c.put_line-2.ensures (head_second c.args.number c.args.count c.args.version _ _ _ c.from-number.ensures c.from-count.ensures c.from.ensures c.if-version-eq1.false)
