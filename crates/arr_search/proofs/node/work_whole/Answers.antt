use Rattle.std.proofs.Common.{◌≡◌, ◌-◌, List, length, sym, subst}
use Rattle.std.proofs.lemmas.Result.{IfOk-weaker}
use Rattle.arr_law.specs.declared.fact.Fact.TheVariants.{Same}
use Rattle.arr_law.specs.Facts.{facts_of}
use Rattle.arr_law.specs.Problem.{Problem}
use Rattle.arr_law.specs.ProblemOf.{problem_of}
use Rattle.arr_bound.specs.Worth.{IsLargeLeaf}
use Rattle.arr_state.specs.declared.outcome.Outcome.TheVariants.{Closed, Contradiction, Spent}
use Rattle.arr_state.specs.States.{Ends, Standing, known}
use Rattle.arr_search.specs.Nodes.{IsNode, IsSettledNode}
use Rattle.arr_search.specs.Turns.{Settled, WorkedOn}
use Rattle.arr_search.proofs.Nodes.{advanced_all, advanced_at, dead, leaf_at_state, leaf_spent, ok_both, settled_leaf, worked_on_after}
use Rattle.arr_search.proofs.node.work_whole.Goals as goal

pub returns-in_ok-close_dead-in-Contradiction-clause-worked : goal.returns-in_ok-close_dead-in-Contradiction-clause-worked
returns-in_ok-close_dead-in-Contradiction-clause-worked c =
    let list = c.args.graph.now in
    let P : Problem = problem_of list in
    let b = c.args.budget in
    let p = c.args.progress.now in
    let q = c.advance.new.progress in
    let trail = c.args.state.now.trail in
    let now = c.advance.new.state.trail in
    let at = advanced_at list b c.args.state.now c.advance.new.state p q c.in_ok-f.field-0 c.requires.list c.requires.node c.requires.within c.in_ok-f.ensures.list c.in_ok-f.ensures.about c.in_ok-f.ensures.advanced in
    let end : Ends P (b - p.units) (facts_of P now) (length at.advanced.saturated.steps) (Contradiction c.in-Contradiction.f c.in-Contradiction.g) =
    subst (λ o. Ends P (b - p.units) (facts_of P now) (length at.advanced.saturated.steps) o) c.in-Contradiction.is at.advanced.saturated.ends in
    let ops = at.about (Same c.in-Contradiction.f c.in-Contradiction.g) end.same in
    worked_on_after list b trail now p q _ _ at.grown.took
    (settled_leaf list b (facts_of P now) q _ _ c.in_ok-close_dead-in-Contradiction.ensures at.grown.took.within
    (λ pending s. dead list b (facts_of P now) pending q s c.in-Contradiction.f c.in-Contradiction.g end ops.left ops.right))

pub charges-requires-clause-even : goal.charges-requires-clause-even
charges-requires-clause-even c =
    let at =
    advanced_at c.args.graph.now c.args.budget c.args.state.now c.advance.new.state c.args.progress.now c.advance.new.progress c.in_ok-f.field-0 c.requires.list c.requires.node c.requires.within
    c.in_ok-f.ensures.list c.in_ok-f.ensures.about c.in_ok-f.ensures.advanced in
    at.grown.node.even

pub charges-requires-clause-plain : goal.charges-requires-clause-plain
charges-requires-clause-plain c =
    let at =
    advanced_at c.args.graph.now c.args.budget c.args.state.now c.advance.new.state c.args.progress.now c.advance.new.progress c.in_ok-f.field-0 c.requires.list c.requires.node c.requires.within
    c.in_ok-f.ensures.list c.in_ok-f.ensures.about c.in_ok-f.ensures.advanced in
    at.grown.node.plain

pub returns-in_ok-close_leaf-in-Spent-clause-worked : goal.returns-in_ok-close_leaf-in-Spent-clause-worked
returns-in_ok-close_leaf-in-Spent-clause-worked c =
    let list = c.args.graph.now in
    let P : Problem = problem_of list in
    let b = c.args.budget in
    let p = c.args.progress.now in
    let q = c.advance.new.progress in
    let trail = c.args.state.now.trail in
    let now = c.advance.new.state.trail in
    let at = advanced_at list b c.args.state.now c.advance.new.state p q c.in_ok-f.field-0 c.requires.list c.requires.node c.requires.within c.in_ok-f.ensures.list c.in_ok-f.ensures.about c.in_ok-f.ensures.advanced in
    let end : Ends P (b - p.units) (facts_of P now) (length at.advanced.saturated.steps) Spent =
    subst (λ o. Ends P (b - p.units) (facts_of P now) (length at.advanced.saturated.steps) o) c.in-Spent.is at.advanced.saturated.ends in
    let more : IsLargeLeaf P (facts_of P now) c.in_ok-rest-in-Spent.rest c.in_ok-rest-in-Spent.more =
    leaf_at_state list c.args.views.now c.advance.new.state c.in_ok-rest-in-Spent.rest c.in_ok-rest-in-Spent.more c.requires.views at.grown.here c.in_ok-rest-in-Spent.ensures in
    worked_on_after list b trail now p q _ _ at.grown.took
    (settled_leaf list b (facts_of P now) q _ _ c.in_ok-close_leaf-in-Spent.ensures at.grown.took.within
    (λ pending s.
    leaf_spent list b (facts_of P now) pending q s c.in_ok-rest-in-Spent.rest c.in_ok-rest-in-Spent.more more (advanced_all list b trail now p q c.in_ok-f.field-0 at.advanced c.requires.within end.0) end.1))

pub settle-requires-clause-node : goal.settle-requires-clause-node
settle-requires-clause-node c =
    let list = c.args.graph.now in
    let P : Problem = problem_of list in
    let b = c.args.budget in
    let p = c.args.progress.now in
    let now = c.advance.new.state.trail in
    let at = advanced_at list b c.args.state.now c.advance.new.state p c.advance.new.progress c.in_ok-f.field-0 c.requires.list c.requires.node c.requires.within c.in_ok-f.ensures.list c.in_ok-f.ensures.about c.in_ok-f.ensures.advanced in
    let end : Ends P (b - p.units) (facts_of P now) (length at.advanced.saturated.steps) Closed =
    subst (λ o. Ends P (b - p.units) (facts_of P now) (length at.advanced.saturated.steps) o) c.in-Closed.is at.advanced.saturated.ends in
    let is : IsSettledNode P (facts_of P now) = record { node = subst (IsNode P) at.grown.known_is at.grown.node; closed = end.0; consistent = end.1; about = at.about } in
    subst (IsSettledNode P) (sym at.grown.known_is) is

pub returns-in-Closed-clause-worked : goal.returns-in-Closed-clause-worked
returns-in-Closed-clause-worked c =
    let list = c.args.graph.now in
    let b = c.args.budget in
    let p = c.args.progress.now in
    let q = c.advance.new.progress in
    let trail = c.args.state.now.trail in
    let now = c.advance.new.state.trail in
    let at = advanced_at list b c.args.state.now c.advance.new.state p q c.in_ok-f.field-0 c.requires.list c.requires.node c.requires.within c.in_ok-f.ensures.list c.in_ok-f.ensures.about c.in_ok-f.ensures.advanced in
    IfOk-weaker c.settle.result _ _
    (λ next h.
    subst (λ (s : Standing). WorkedOn list b trail s.trail p c.settle.new.progress next) (sym h.0)
    (worked_on_after list b trail now p q c.settle.new.progress next at.grown.took (subst (λ F. Settled list b F q c.settle.new.progress next) at.grown.known_is h.1)))
    (ok_both c.settle.result (λ next. c.settle.new.state ≡ c.advance.new.state) (λ next. Settled list b (known c.advance.new.state) q c.settle.new.progress next) c.settle.ensures.kept c.settle.ensures.settled)
