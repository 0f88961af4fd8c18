use Rattle.std.proofs.Common.{◌∙◌, ◌||◌, ap, ap₂, sym}
use Rattle.arr_law.specs.Facts.{root_facts}
use Rattle.arr_law.specs.ProblemOf.{problem_of}
use Rattle.arr_check.specs.Known.{known_of}
use Rattle.arr_check.proofs.ClassTests.{first_decides, second_decides}
use Rattle.arr_check.proofs.Marks.{known_is, seen, unknown}
use Rattle.arr_check.proofs.known.Known.has.Goals as goal

pub returns-then-not-are_ops : goal.returns-then-not-are_ops
returns-then-not-are_ops c =
    unknown (problem_of c.args.tables.now) c.args.self.now.trail.items c.args.self.now.marks.items c.args.fact c.are_ops.result c.requires c.are_ops.ensures c.if-not-are_ops.true

pub returns-then-index : goal.returns-then-index
returns-then-index c =
    let P = problem_of c.args.tables.now in
    let trail = c.args.self.now.trail.items in
    let told = seen P trail c.args.self.now.marks.items c.args.fact c.slot_of.result c.index.result.now c.requires (sym c.are_ops.ensures ∙ c.if-not-are_ops.false) c.slot_of.ensures.place c.slot_of.ensures.within c.index.ensures in
    first_decides c.index.result.now (root_facts P c.args.fact) (known_of P c.args.self.now c.args.fact) c.if-index.true
    (ap (λ b. b || root_facts P c.args.fact) told ∙ known_is P trail c.args.fact)

pub returns-else-index : goal.returns-else-index
returns-else-index c =
    let P = problem_of c.args.tables.now in
    let trail = c.args.self.now.trail.items in
    let told = seen P trail c.args.self.now.marks.items c.args.fact c.slot_of.result c.index.result.now c.requires (sym c.are_ops.ensures ∙ c.if-not-are_ops.false) c.slot_of.ensures.place c.slot_of.ensures.within c.index.ensures in
    second_decides c.index.result.now c.is_root.result (known_of P c.args.self.now c.args.fact) c.if-index.false
    (ap₂ (λ a b. a || b) told c.is_root.ensures ∙ known_is P trail c.args.fact)
