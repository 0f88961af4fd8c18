use Rattle.std.proofs.Common.{sym, subst}
use Rattle.std.specs.Prelude.{IfOk}
use Rattle.arr_law.specs.declared.fact.Fact.{Fact}
use Rattle.arr_law.specs.ProblemOf.{problem_of}
use Rattle.arr_state.specs.Jobs.{IsTouched}
use Rattle.arr_state.specs.Went.{Went}
use Rattle.arr_state.proofs.saturation.touch.Goals as goal

pub returns-in-Same-clause-went : goal.returns-in-Same-clause-went
returns-in-Same-clause-went c = subst (λ (x : Fact). IfOk c.try_jobs.result (λ going. Went (problem_of c.args.ops.now) c.args.known.now c.try_jobs.new.known c.args.tree.now c.try_jobs.new.tree c.args.left going (IsTouched (problem_of c.args.ops.now) x))) (sym c.in-Same.is) c.try_jobs.ensures.went

pub returns-in-Apart-clause-went : goal.returns-in-Apart-clause-went
returns-in-Apart-clause-went c = subst (λ (x : Fact). IfOk c.try_jobs-in-Apart.result (λ going. Went (problem_of c.args.ops.now) c.args.known.now c.try_jobs-in-Apart.new.known c.args.tree.now c.try_jobs-in-Apart.new.tree c.args.left going (IsTouched (problem_of c.args.ops.now) x))) (sym c.in-Apart.is) c.try_jobs-in-Apart.ensures.went

pub returns-in-Before-clause-went : goal.returns-in-Before-clause-went
returns-in-Before-clause-went c = subst (λ (x : Fact). IfOk c.try_jobs-in-Before.result (λ going. Went (problem_of c.args.ops.now) c.args.known.now c.try_jobs-in-Before.new.known c.args.tree.now c.try_jobs-in-Before.new.tree c.args.left going (IsTouched (problem_of c.args.ops.now) x))) (sym c.in-Before.is) c.try_jobs-in-Before.ensures.went
