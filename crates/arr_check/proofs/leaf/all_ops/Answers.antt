use Rattle.std.proofs.Common.{◌∙◌, sym}
use Rattle.arr_law.specs.Problem.{is_op}
use Rattle.arr_law.specs.ProblemOf.{problem_of}
use Rattle.arr_check.proofs.Loops.{all_fails, all_more}
use Rattle.arr_check.proofs.leaf.all_ops.Goals as goal

pub returns-then-not-is_op : goal.returns-then-not-is_op
returns-then-not-is_op c = sym (all_fails (is_op (problem_of c.args.tables.now)) c.args.ops.now c.loop-at.at c.at.result.now c.at.ensures (sym c.is_op.ensures ∙ c.if-not-is_op.true))

pub loop-at-preserved : goal.loop-at-preserved
loop-at-preserved c = all_more (is_op (problem_of c.args.tables.now)) c.args.ops.now c.loop-at.at c.at.result.now c.at.ensures c.loop-at.invariant (sym c.is_op.ensures ∙ c.if-not-is_op.false)
