use Rattle.std.proofs.Common.{sym, subst}
use Rattle.arr_elab.specs.State.{Reading}
use Rattle.arr_elab.specs.declared.value.Prepared.{Prepared}
use Rattle.arr_elab.specs.Contract.{Reads}
use Rattle.arr_elab.proofs.Layers.{prepared_range}
use Rattle.arr_elab.proofs.forms.+expression.Goals as goal

pub prepared-returns-in-Range : goal.prepared-returns-in-Range
prepared-returns-in-Range t c =
    let s = c.args.reader.now in
    subst (λ (p : Reading Prepared). Reads (p s) c.range.result s) (sym (prepared_range c.args.e.now c.in-Range.count c.in-Range.count_at c.in-Range.to c.in-Range.is)) (c.range.ensures s)
