use Rattle.arr_check.proofs.Numbered.{ends_is, named_at}
use Rattle.arr_check.proofs.tables.Tables.ends_base_of.Goals as goal

pub returns-in-Some : goal.returns-in-Some
returns-in-Some c =
    ends_is c.args.self.now c.args.f c.args.g c.in-Some.base c.index-in-Some.result.now c.index.result.now c.has_view_of.result
    (named_at c.self.inside.ops.items c.args.self.now c.args.f c.index-in-Some.result.now c.self.view_is c.requires.first c.index-in-Some.ensures)
    (named_at c.self.inside.ops.items c.args.self.now c.args.g c.index.result.now c.self.view_is c.requires.second c.index.ensures)
    c.in-Some.is c.has_view_of.ensures
