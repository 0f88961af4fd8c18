use Rattle.std.proofs.Common.{cond, Some, None, sym, ap}
use Rattle.arr_law.specs.declared.fact.Fact.TheVariants.{Same}
use Rattle.arr_law.specs.ProblemOf.{problem_of}
use Rattle.arr_check.specs.Known.{known_of}
use Rattle.arr_check.proofs.Joins.{joined_when}
use Rattle.arr_check.proofs.steps.given_by_free_rule.Goals as goal

pub returns-then-may_join : goal.returns-then-may_join
returns-then-may_join c = joined_when (problem_of c.args.tables.now) (known_of (problem_of c.args.tables.now) c.args.known.now) c.args.version c.args.f c.args.g c.may_join.result (Some (Same c.args.f c.args.g)) c.may_join.ensures (ap (λ b. cond b (Some (Same c.args.f c.args.g)) None) (sym c.if-may_join.true))

pub returns-else-may_join : goal.returns-else-may_join
returns-else-may_join c = joined_when (problem_of c.args.tables.now) (known_of (problem_of c.args.tables.now) c.args.known.now) c.args.version c.args.f c.args.g c.may_join.result None c.may_join.ensures (ap (λ b. cond b (Some (Same c.args.f c.args.g)) None) (sym c.if-may_join.false))
