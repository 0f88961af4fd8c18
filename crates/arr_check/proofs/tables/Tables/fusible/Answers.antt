use Rattle.std.proofs.Common.{◌∙◌, ap₂}
use Rattle.arr_ops.specs.Ops.{fusible}
use Rattle.arr_check.proofs.Numbered.{named_at, stands}
use Rattle.arr_check.proofs.tables.Tables.fusible.Goals as goal

pub may_fuse-requires-clause-first : goal.may_fuse-requires-clause-first
may_fuse-requires-clause-first c =
    stands c.self.inside.ops.items c.args.self.now c.self.inside.classes c.self.inside.parts.items c.args.f c.index.result.now c.index-3.result.now
    c.self.view_is c.self.invariant.1 c.self.invariant.3 c.requires.first c.index.ensures c.index-3.ensures

pub may_fuse-requires-clause-second : goal.may_fuse-requires-clause-second
may_fuse-requires-clause-second c =
    stands c.self.inside.ops.items c.args.self.now c.self.inside.classes c.self.inside.parts.items c.args.g c.index-2.result.now c.index-4.result.now
    c.self.view_is c.self.invariant.1 c.self.invariant.3 c.requires.second c.index-2.ensures c.index-4.ensures

pub returns : goal.returns
returns c =
    c.may_fuse.ensures
    ∙ ap₂ fusible (named_at c.self.inside.ops.items c.args.self.now c.args.f c.index.result.now c.self.view_is c.requires.first c.index.ensures)
    (named_at c.self.inside.ops.items c.args.self.now c.args.g c.index-2.result.now c.self.view_is c.requires.second c.index-2.ensures)
