use Rattle.arr_check.proofs.Numbered.{stands_at_number, view_0, view_1, view_2}
use Rattle.arr_check.proofs.tables.Tables.class.Goals as goal

pub returns-in-0 : goal.returns-in-0
returns-in-0 c =
    view_0 c.args.self.now c.args.f c.args.operand c.index-parts.result.now
    (stands_at_number c.self.inside.ops.items c.args.self.now c.self.inside.parts.items c.args.f c.index-parts.result.now c.self.view_is c.self.invariant.3 c.requires c.index-parts.ensures) c.in-0.is

pub returns-in-1 : goal.returns-in-1
returns-in-1 c =
    view_1 c.args.self.now c.args.f c.args.operand c.index-parts.result.now
    (stands_at_number c.self.inside.ops.items c.args.self.now c.self.inside.parts.items c.args.f c.index-parts.result.now c.self.view_is c.self.invariant.3 c.requires c.index-parts.ensures) c.in-1.is

pub returns-in-2 : goal.returns-in-2
returns-in-2 c =
    view_2 c.args.self.now c.args.f c.args.operand c.index-parts.result.now
    (stands_at_number c.self.inside.ops.items c.args.self.now c.self.inside.parts.items c.args.f c.index-parts.result.now c.self.view_is c.self.invariant.3 c.requires c.index-parts.ensures) c.in-2.is
