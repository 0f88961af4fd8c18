use Rattle.std.proofs.Common.{◌∙◌, sym}
use Rattle.arr_law.specs.Leaves.{surely_charges}
use Rattle.arr_law.specs.Problem.{is_op}
use Rattle.arr_law.specs.ProblemOf.{problem_of}
use Rattle.arr_check.specs.Known.{known_of}
use Rattle.arr_check.proofs.Loops.{all_fails, all_more, all_there}
use Rattle.arr_check.proofs.leaf.all_charge.Goals as goal

pub surely_charges-requires-clause-op : goal.surely_charges-requires-clause-op
surely_charges-requires-clause-op c = all_there (is_op (problem_of c.args.tables.now)) c.args.ops.now c.loop-at.at c.at.result.now c.at.ensures c.requires.ops

pub returns-then-not-surely_charges : goal.returns-then-not-surely_charges
returns-then-not-surely_charges c =
    sym (all_fails (λ f. surely_charges (problem_of c.args.tables.now) (known_of (problem_of c.args.tables.now) c.args.known.now) f c.args.c) c.args.ops.now c.loop-at.at c.at.result.now c.at.ensures (sym c.surely_charges.ensures ∙ c.if-not-surely_charges.true))

pub loop-at-preserved : goal.loop-at-preserved
loop-at-preserved c =
    all_more (λ f. surely_charges (problem_of c.args.tables.now) (known_of (problem_of c.args.tables.now) c.args.known.now) f c.args.c) c.args.ops.now c.loop-at.at c.at.result.now c.at.ensures c.loop-at.invariant (sym c.surely_charges.ensures ∙ c.if-not-surely_charges.false)
