use Rattle.std.proofs.Common.{◌<◌, sym, subst, arith}
use Rattle.arr_law.specs.ProblemOf.{problem_of}
use Rattle.arr_state.specs.States.{Standing, known}
use Rattle.arr_search.specs.Nodes.{IsDecided, IsPlanOf, IsSettledNode}
use Rattle.arr_search.proofs.Nodes.{none_picked, some_picked, settled_leaf, settled_branch, branch, leaf_for, leaf_high, leaf_closed, leaf_better}
use Rattle.arr_search.proofs.Sharing.{plan_costs}
use Rattle.arr_search.proofs.node.settle.Goals as goal

pub returns-then-worth-progress-clause-settled : goal.returns-then-worth-progress-clause-settled
returns-then-worth-progress-clause-settled c =
    let list = c.args.graph.now in
    let facts = known c.args.state.now in
    let leaf = leaf_for list c.args.views.now facts c.in_ok-worth.worth c.in_ok-worth.groups c.requires.views c.in_ok-worth.ensures in
    settled_leaf list c.args.budget facts c.args.progress.now _ _ c.in_ok-close_leaf.ensures c.requires.within
    (λ pending s. leaf_high list c.args.budget facts pending c.args.progress.now s c.in_ok-worth.worth c.in_ok-worth.groups leaf c.if-worth-progress.true)

pub returns-then-progress-budget-clause-settled : goal.returns-then-progress-budget-clause-settled
returns-then-progress-budget-clause-settled c =
    let list = c.args.graph.now in
    let facts = known c.args.state.now in
    let leaf = leaf_for list c.args.views.now facts c.in_ok-worth.worth c.in_ok-worth.groups c.requires.views c.in_ok-worth.ensures in
    settled_leaf list c.args.budget facts c.args.progress.now _ _ c.in_ok-close_leaf-in-Some.ensures c.requires.within
    (λ pending s. leaf_closed list c.args.budget facts pending c.args.progress.now s c.in_ok-worth.worth c.in_ok-worth.groups leaf c.requires.node.closed c.if-progress-budget.true)

pub returns-in_ok-close_leaf-in-None-clause-settled : goal.returns-in_ok-close_leaf-in-None-clause-settled
returns-in_ok-close_leaf-in-None-clause-settled c =
    let list = c.args.graph.now in
    let facts = known c.args.state.now in
    let leaf = leaf_for list c.args.views.now facts c.in_ok-worth.worth c.in_ok-worth.groups c.requires.views c.in_ok-worth.ensures in
    let plan = c.in_ok-progress-in-None.field-0 in
    let is : IsPlanOf list facts plan = subst (λ (s : Standing). IsPlanOf list (known s) plan) c.in_ok-pair.ensures.kept c.in_ok-progress-in-None.ensures in
    let decided = none_picked (problem_of list) facts c.in_ok-pair.pair c.in_ok-pair.ensures.picks c.in-None.is in
    settled_leaf list c.args.budget facts c.args.progress.now _ _ c.in_ok-close_leaf-in-None.ensures c.requires.within
    (λ pending s. leaf_better list c.args.budget facts pending c.args.progress.now s c.in_ok-worth.worth c.in_ok-worth.groups leaf c.requires.node.closed c.if-worth-progress.false plan is.legal
    (plan_costs list facts c.requires.node decided s.search.formed plan is c.in_ok-worth.worth c.in_ok-worth.groups leaf))

pub returns-in_ok-open_branch-in-Some-clause-settled : goal.returns-in_ok-open_branch-in-Some-clause-settled
returns-in_ok-open_branch-in-Some-clause-settled c =
    let list = c.args.graph.now in
    let facts = known c.args.state.now in
    let leaf = leaf_for list c.args.views.now facts c.in_ok-worth.worth c.in_ok-worth.groups c.requires.views c.in_ok-worth.ensures in
    let free = some_picked (problem_of list) facts c.in_ok-pair.pair c.in-Some.f c.in-Some.g c.in_ok-pair.ensures.picks c.in-Some.is in
    let room : c.args.progress.now.units < c.args.budget = omega (arith, c.if-progress-budget.false, c.requires.within) in
    settled_branch list c.args.budget facts c.args.progress.now _ c.in-Some.f c.in-Some.g c.in_ok-open_branch-in-Some.ensures room free
    (λ pending s. branch list c.args.budget facts pending c.args.progress.now s c.in-Some.f c.in-Some.g free c.requires.node.closed c.in_ok-worth.worth leaf.over_floor c.if-worth-progress.false room)

pub plan_of-requires-clause-node : goal.plan_of-requires-clause-node
plan_of-requires-clause-node c = subst (λ (s : Standing). IsSettledNode (problem_of c.args.graph.now) (known s)) (sym c.in_ok-pair.ensures.kept) c.requires.node

pub plan_of-requires-clause-decided : goal.plan_of-requires-clause-decided
plan_of-requires-clause-decided c =
    subst (λ (s : Standing). IsDecided (problem_of c.args.graph.now) (known s)) (sym c.in_ok-pair.ensures.kept) (none_picked (problem_of c.args.graph.now) (known c.args.state.now) c.in_ok-pair.pair c.in_ok-pair.ensures.picks c.in-None.is)
