use Rattle.std.proofs.Common.{◌≡◌, List, sym, subst, true}
use Rattle.std.proofs.lemmas.Result.{IfOk-weaker}
use Rattle.arr_ops.specs.declared.op.Op.{Op}
use Rattle.arr_law.specs.Facts.{facts_of}
use Rattle.arr_law.specs.Problem.{Problem}
use Rattle.arr_law.specs.ProblemOf.{problem_of}
use Rattle.arr_law.specs.Trees.{may_branch}
use Rattle.arr_bound.specs.Worth.{IsLargeLeaf}
use Rattle.arr_search.proofs.Nodes.{leaf_at_state, leaf_high, low_at, settled_leaf, took_at, took_none, worked_after, worked_branch, worked_then}
use Rattle.arr_search.proofs.node.work_by.Goals as goal

pub charges-requires-clause-even : goal.charges-requires-clause-even
charges-requires-clause-even c =
    let at = took_at c.args.graph.now c.args.budget c.args.state.now c.take_all.new.state c.args.progress.now c.take_all.new.progress c.requires.list c.requires.node c.in_ok-take_all.ensures.list c.in_ok-take_all.ensures.took in
    at.node.even

pub charges-requires-clause-plain : goal.charges-requires-clause-plain
charges-requires-clause-plain c =
    let at = took_at c.args.graph.now c.args.budget c.args.state.now c.take_all.new.state c.args.progress.now c.take_all.new.progress c.requires.list c.requires.node c.in_ok-take_all.ensures.list c.in_ok-take_all.ensures.took in
    at.node.plain

pub returns-then-worth-progress-clause-worked : goal.returns-then-worth-progress-clause-worked
returns-then-worth-progress-clause-worked c =
    let list = c.args.graph.now in
    let P : Problem = problem_of list in
    let b = c.args.budget in
    let p = c.args.progress.now in
    let q = c.take_all.new.progress in
    let trail = c.args.state.now.trail in
    let now = c.take_all.new.state.trail in
    let at = took_at list b c.args.state.now c.take_all.new.state p q c.requires.list c.requires.node c.in_ok-take_all.ensures.list c.in_ok-take_all.ensures.took in
    let leaf : IsLargeLeaf P (facts_of P now) c.in_ok-worth.worth c.in_ok-worth.groups = leaf_at_state list c.args.views.now c.take_all.new.state c.in_ok-worth.worth c.in_ok-worth.groups c.requires.views at.here c.in_ok-worth.ensures in
    worked_after list b trail now p q _ _ at.took (low_at list c.args.state.now p.cost c.requires.list c.requires.low)
    (settled_leaf list b (facts_of P now) q _ _ c.in_ok-close_leaf.ensures at.took.within
    (λ pending s. leaf_high list b (facts_of P now) pending q s c.in_ok-worth.worth c.in_ok-worth.groups leaf c.if-worth-progress.true))

pub returns-in-Some-clause-worked : goal.returns-in-Some-clause-worked
returns-in-Some-clause-worked c =
    let list = c.args.graph.now in
    let P : Problem = problem_of list in
    let b = c.args.budget in
    let p = c.args.progress.now in
    let q = c.take_all.new.progress in
    let trail = c.args.state.now.trail in
    let now = c.take_all.new.state.trail in
    let at = took_at list b c.args.state.now c.take_all.new.state p q c.requires.list c.requires.node c.in_ok-take_all.ensures.list c.in_ok-take_all.ensures.took in
    let leaf : IsLargeLeaf P (facts_of P now) c.in_ok-worth.worth c.in_ok-worth.groups = leaf_at_state list c.args.views.now c.take_all.new.state c.in_ok-worth.worth c.in_ok-worth.groups c.requires.views at.here c.in_ok-worth.ensures in
    let free : may_branch P (facts_of P now) c.in-Some.f c.in-Some.g ≡ true = subst (λ F. may_branch P F c.in-Some.f c.in-Some.g ≡ true) at.known_is c.in-Some.ensures in
    worked_branch list b trail now p q _ c.in-Some.f c.in-Some.g at.took (low_at list c.args.state.now p.cost c.requires.list c.requires.low) (c.requires.opens c.if-opens.true) free
    c.in_ok-worth.worth leaf.over_floor c.if-worth-progress.false c.if-progress-budget.true c.in_ok-open_branch.ensures

pub work_whole-requires-2-clause-node : goal.work_whole-requires-2-clause-node
work_whole-requires-2-clause-node c =
    let at = took_at c.args.graph.now c.args.budget c.args.state.now c.take_all.new.state c.args.progress.now c.take_all.new.progress c.requires.list c.requires.node c.in_ok-take_all.ensures.list c.in_ok-take_all.ensures.took in
    at.node

pub returns-clause-worked : goal.returns-clause-worked
returns-clause-worked c =
    let list = c.args.graph.now in
    let b = c.args.budget in
    let p = c.args.progress.now in
    let q = c.take_all.new.progress in
    let trail = c.args.state.now.trail in
    let now = c.take_all.new.state.trail in
    let at = took_at list b c.args.state.now c.take_all.new.state p q c.requires.list c.requires.node c.in_ok-take_all.ensures.list c.in_ok-take_all.ensures.took in
    IfOk-weaker c.work_whole-2.result _ _
    (λ next h. worked_then list b trail now c.work_whole-2.new.state.trail p q c.work_whole-2.new.progress next at.took (low_at list c.args.state.now p.cost c.requires.list c.requires.low) h)
    c.work_whole-2.ensures.worked

pub returns-then-is_empty-clause-worked : goal.returns-then-is_empty-clause-worked
returns-then-is_empty-clause-worked c =
    let list = c.args.graph.now in
    let b = c.args.budget in
    let p = c.args.progress.now in
    let trail = c.args.state.now.trail in
    IfOk-weaker c.work_whole.result _ _
    (λ next h.
    worked_then list b trail trail c.work_whole.new.state.trail p p c.work_whole.new.progress next (took_none (problem_of list) b trail p c.requires.within) (low_at list c.args.state.now p.cost c.requires.list c.requires.low) h)
    c.work_whole.ensures.worked
