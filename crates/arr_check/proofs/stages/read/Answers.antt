use Rattle.arr_law.specs.ProblemOf.{problem_of}
use Rattle.arr_check.proofs.AtStages.{at_bound, at_cost, at_plan}
use Rattle.arr_check.proofs.stages.read.Goals as goal

pub returns-in-Plan-clause-turns : goal.returns-in-Plan-clause-turns
returns-in-Plan-clause-turns c =
    at_plan (problem_of c.args.tables.now) c.args.number c.args.tree.now c.args.entry.now c.plan.result c.args.stage c.in-Plan.version c.in-Plan.is (c.plan.ensures c.args.number c.args.tree.now)

pub returns-in-Cost-clause-turns : goal.returns-in-Cost-clause-turns
returns-in-Cost-clause-turns c =
    at_cost (problem_of c.args.tables.now) c.args.number c.args.tree.now c.args.entry.now c.cost.result c.args.stage c.in-Cost.version c.in-Cost.price c.in-Cost.is
    (λ places fresh e. c.cost.ensures (problem_of c.args.tables.now) c.args.number c.args.tree.now places fresh e)

pub returns-in-Bound-clause-turns : goal.returns-in-Bound-clause-turns
returns-in-Bound-clause-turns c =
    at_bound (problem_of c.args.tables.now) c.args.number c.args.tree.now c.args.entry.now c.bound.result c.args.stage c.in-Bound.version c.in-Bound.cost c.in-Bound.is
    (λ places fresh. c.bound.ensures (problem_of c.args.tables.now) c.args.number c.args.tree.now places fresh)
