use Rattle.std.proofs.Common.{◌∙◌, sym}
use Rattle.arr_law.specs.Leaves.{is_group}
use Rattle.arr_law.specs.ProblemOf.{problem_of}
use Rattle.arr_check.specs.Known.{known_of}
use Rattle.arr_check.proofs.Loops.{all_fails, all_more}
use Rattle.arr_check.proofs.leaf.all_groups.Goals as goal

pub returns-then-not-is_group : goal.returns-then-not-is_group
returns-then-not-is_group c =
    sym (all_fails (is_group (problem_of c.args.tables.now) (known_of (problem_of c.args.tables.now) c.args.known.now)) c.args.charges.now c.loop-at.at c.at.result.now c.at.ensures (sym c.is_group.ensures ∙ c.if-not-is_group.true))

pub loop-at-preserved : goal.loop-at-preserved
loop-at-preserved c =
    all_more (is_group (problem_of c.args.tables.now) (known_of (problem_of c.args.tables.now) c.args.known.now)) c.args.charges.now c.loop-at.at c.at.result.now c.at.ensures c.loop-at.invariant (sym c.is_group.ensures ∙ c.if-not-is_group.false)
