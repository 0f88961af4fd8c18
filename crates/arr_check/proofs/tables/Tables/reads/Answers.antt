use Rattle.std.proofs.Common.{◌∙◌, ◌||◌, ap, ap₂}
use Rattle.arr_law.specs.ProblemOf.{problem_of}
use Rattle.arr_check.specs.Classed.{is_class}
use Rattle.arr_check.proofs.ClassTests.{first_decides, second_decides}
use Rattle.arr_check.proofs.Numbered.{reads_is, stands_at_number}
use Rattle.arr_check.proofs.tables.Tables.reads.Goals as goal

pub returns-then-is_class : goal.returns-then-is_class
returns-then-is_class c =
    first_decides c.is_class.result (is_class c.index-parts.result.now.second c.args.c) ((problem_of c.args.self.now).reads c.args.f c.args.c) c.if-is_class.true
    (ap (λ b. b || is_class c.index-parts.result.now.second c.args.c) c.is_class.ensures
    ∙ reads_is c.args.self.now c.args.f c.args.c c.index-parts.result.now
    (stands_at_number c.self.inside.ops.items c.args.self.now c.self.inside.parts.items c.args.f c.index-parts.result.now c.self.view_is c.self.invariant.3 c.requires.op c.index-parts.ensures) c.requires.class)

pub returns-else-is_class : goal.returns-else-is_class
returns-else-is_class c =
    second_decides c.is_class.result c.is_class-else-is_class.result ((problem_of c.args.self.now).reads c.args.f c.args.c) c.if-is_class.false
    (ap₂ (λ a b. a || b) c.is_class.ensures c.is_class-else-is_class.ensures
    ∙ reads_is c.args.self.now c.args.f c.args.c c.index-parts.result.now
    (stands_at_number c.self.inside.ops.items c.args.self.now c.self.inside.parts.items c.args.f c.index-parts.result.now c.self.view_is c.self.invariant.3 c.requires.op c.index-parts.ensures) c.requires.class)
