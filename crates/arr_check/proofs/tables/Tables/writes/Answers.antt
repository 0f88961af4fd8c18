use Rattle.std.proofs.Common.{◌∙◌}
use Rattle.arr_check.proofs.Numbered.{stands_at_number, writes_is}
use Rattle.arr_check.proofs.tables.Tables.writes.Goals as goal

pub returns : goal.returns
returns c =
    c.is_class.ensures
    ∙ writes_is c.args.self.now c.args.f c.args.c c.index.result.now
    (stands_at_number c.self.inside.ops.items c.args.self.now c.self.inside.parts.items c.args.f c.index.result.now c.self.view_is c.self.invariant.3 c.requires.op c.index.ensures) c.requires.class
