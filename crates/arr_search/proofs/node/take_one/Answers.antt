use Rattle.std.proofs.Common.{◌≡◌, ℕ, ◌+◌, cond, ap, arith}
use Rattle.arr_law.specs.ProblemOf.{problem_of}
use Rattle.arr_search.proofs.Nodes.{took_one}
use Rattle.arr_search.proofs.node.take_one.Goals as goal

pub returns-then-not-taken-clause-took : goal.returns-then-not-taken-clause-took
returns-then-not-taken-clause-took c =
    let p = c.args.progress.now in
    let e : p.units ≡ p.units + cond c.in_ok-taken.taken 1 0 = omega (arith, ap {B = ℕ} (λ b. cond b 1 0) c.if-not-taken.true) in
    took_one (problem_of c.args.state.now.list) c.args.step.now.rule c.args.step.now.f c.args.step.now.g c.args.step.now.h c.args.state.now.trail c.take_step.new.self.trail p _ c.take_step.new.tree c.in_ok-taken.taken c.in_ok-taken.ensures.does
    (ap (λ (u : ℕ). record p { tree = c.take_step.new.tree; units = u }) e)

pub returns-clause-took : goal.returns-clause-took
returns-clause-took c =
    let p = c.args.progress.now in
    let e : p.units + 1 ≡ p.units + cond c.in_ok-taken.taken 1 0 = omega (arith, ap {B = ℕ} (λ b. cond b 1 0) c.if-not-taken.false) in
    took_one (problem_of c.args.state.now.list) c.args.step.now.rule c.args.step.now.f c.args.step.now.g c.args.step.now.h c.args.state.now.trail c.take_step.new.self.trail p _ c.take_step.new.tree c.in_ok-taken.taken c.in_ok-taken.ensures.does
    (ap (λ (u : ℕ). record p { tree = c.take_step.new.tree; units = u }) e)
