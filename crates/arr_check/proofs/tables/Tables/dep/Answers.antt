use Rattle.std.proofs.Common.{◌∙◌, ◌&&◌, ap, ap₂, sym}
use Rattle.std.proofs.lemmas.Bool.{lt-ltb}
use Rattle.arr_ops.specs.Ops.{dep}
use Rattle.arr_law.specs.ProblemOf.{op_at}
use Rattle.arr_check.proofs.Numbered.{named_at, stands}
use Rattle.arr_check.proofs.tables.Tables.dep.Goals as goal

pub depend-requires-clause-first : goal.depend-requires-clause-first
depend-requires-clause-first c =
    stands c.self.inside.ops.items c.args.self.now c.self.inside.classes c.self.inside.parts.items c.args.f c.index.result.now c.index-then-f-g-2.result.now
    c.self.view_is c.self.invariant.1 c.self.invariant.3 c.requires.first c.index.ensures c.index-then-f-g-2.ensures

pub depend-requires-clause-second : goal.depend-requires-clause-second
depend-requires-clause-second c =
    stands c.self.inside.ops.items c.args.self.now c.self.inside.classes c.self.inside.parts.items c.args.g c.index-then-f-g.result.now c.index-then-f-g-3.result.now
    c.self.view_is c.self.invariant.1 c.self.invariant.3 c.requires.second c.index-then-f-g.ensures c.index-then-f-g-3.ensures

pub returns-then-f-g : goal.returns-then-f-g
returns-then-f-g c =
    c.depend.ensures
    ∙ ap₂ dep (named_at c.self.inside.ops.items c.args.self.now c.args.f c.index.result.now c.self.view_is c.requires.first c.index.ensures)
    (named_at c.self.inside.ops.items c.args.self.now c.args.g c.index-then-f-g.result.now c.self.view_is c.requires.second c.index-then-f-g.ensures)
    ∙ ap (λ b. b && dep (op_at c.args.self.now c.args.f) (op_at c.args.self.now c.args.g)) (sym (lt-ltb c.args.f c.args.g c.if-f-g.true))
