use Rattle.std.proofs.Common.{◌≡◌, ap, sym, ◌∙◌, length, Some, arith}
use Rattle.arr_cert.proofs.Writes.{wrote_as}
use Rattle.arr_cert.proofs.Lines.{first_none, first_some}
use Rattle.arr_cert.proofs.writing.put_first.Goals as goal

pub returns-then-len-eq0 : goal.returns-then-len-eq0
returns-then-len-eq0 g c =
    let none : length c.args.ops.now ≡ 0 = omega (arith, c.if-len-eq0.true, c.len.ensures) in
    wrote_as _ _ _ _ _ _ _ _ _ _ c.put.ensures (first_none c.args.ops.now none)

pub returns : goal.returns
returns g c = wrote_as _ _ _ _ _ _ _ _ _ _ c.put_number.ensures (first_some c.args.ops.now _ (c.at.ensures ∙ ap Some (sym c.from.ensures)))
