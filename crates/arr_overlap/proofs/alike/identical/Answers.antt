use Rattle.std.proofs.Common.{◌∙◌}
use Rattle.arr_overlap.proofs.Parts.{parts_decide, parts_said}
use Rattle.arr_overlap.proofs.alike.identical.Goals as goal

pub returns : goal.returns
returns c =
    let v = c.args.a.now in
    let w = c.args.b.now in
    record {
      value = c.eq.ensures ∙ parts_decide v w c.base.ensures.lawful c.base-2.ensures.lawful;
      parts = c.eq.ensures ∙ parts_said v w c.base.ensures.lawful c.base-2.ensures.lawful;
    }
