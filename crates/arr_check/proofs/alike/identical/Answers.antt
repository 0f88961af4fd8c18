use Rattle.std.proofs.Common.{◌∙◌}
use Rattle.arr_check.proofs.Parts.{parts_decide}
use Rattle.arr_check.proofs.alike.identical.Goals as goal

pub returns : goal.returns
returns c = c.eq.ensures ∙ parts_decide c.args.a.now c.args.b.now c.base.ensures.lawful c.base-2.ensures.lawful
