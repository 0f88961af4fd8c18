use Rattle.std.proofs.Common.{ℕ, arith}
use Rattle.arr_law.specs.Facts.{facts_of}
use Rattle.arr_law.specs.Problem.{Problem}
use Rattle.arr_law.specs.ProblemOf.{problem_of}
use Rattle.arr_bound.specs.Worth.{IsLargeLeaf}
use Rattle.arr_state.specs.States.{known}
use Rattle.arr_search.proofs.Nodes.{leaf_at_once, leaf_at_state, leaf_for, worked_at_once}
use Rattle.arr_search.proofs.node.work.Goals as goal

pub returns-then-worth-progress-clause-worked : goal.returns-then-worth-progress-clause-worked
returns-then-worth-progress-clause-worked c =
    let list = c.args.graph.now in
    let P : Problem = problem_of list in
    let b : ℕ = c.args.budget in
    let trail = c.args.state.now.trail in
    let p = c.args.progress.now in
    let leaf : IsLargeLeaf P (facts_of P trail) c.in_ok-worth.worth c.in_ok-worth.groups = leaf_at_state list c.args.views.now c.args.state.now c.in_ok-worth.worth c.in_ok-worth.groups c.requires.views c.requires.list c.in_ok-worth.ensures in
    worked_at_once list b trail p _ _ c.in_ok-close_leaf.ensures c.requires.within (λ pending s. leaf_at_once list b (facts_of P trail) pending p c.in_ok-worth.worth c.in_ok-worth.groups leaf c.if-worth-progress.true s)

pub work_by-requires-clause-low : goal.work_by-requires-clause-low
work_by-requires-clause-low c =
    let leaf = leaf_for c.args.graph.now c.args.views.now (known c.args.state.now) c.in_ok-worth.worth c.in_ok-worth.groups c.requires.views c.in_ok-worth.ensures in
    omega (arith, leaf.over_floor, c.if-worth-progress.false)
