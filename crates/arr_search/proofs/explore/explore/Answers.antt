use Rattle.std.proofs.Common.{◌≡◌, ◌∙◌, List, [], ◌∷◌, ◌++◌, take, true, ap, refl, sym, subst}
use Rattle.arr_ops.specs.declared.op.Op.{Op}
use Rattle.arr_law.specs.declared.fact.Fact.TheVariants.{Same, Apart}
use Rattle.arr_law.specs.Facts.{Facts, facts_of}
use Rattle.arr_law.specs.Problem.{Problem, is_pair}
use Rattle.arr_law.specs.ProblemOf.{problem_of}
use Rattle.arr_search.specs.declared.progress.Next.TheVariants.{Split, Close}
use Rattle.arr_search.specs.Nodes.{IsNode}
use Rattle.arr_search.proofs.Nodes.{known_at}
use Rattle.arr_search.proofs.Waits.{start_at, next_node, none_left, open_here, open_there, pair_of, turn_split, turn_close, turn_last}
use Rattle.arr_search.proofs.explore.explore.Goals as goal

pub loop-draft-init : goal.loop-draft-init
loop-draft-init c =
    let t = start_at c.args.graph.now c.args.budget c.args.state.now.trail c.new-waits.result.items c.args.progress.now c.requires.start c.new-waits.ensures.items c.requires.search in
    record { list = c.requires.list; draft = c.in_ok-draft.ensures; search = t.0; waits = t.1 }

pub work-requires-clause-node : goal.work-requires-clause-node
work-requires-clause-node c =
    let list = c.args.graph.now in
    subst (IsNode (problem_of list)) (sym (known_at list c.loop-draft.state c.loop-draft.invariant.list)) (next_node list c.args.budget c.loop-draft.state.trail c.loop-draft.waits.items c.loop-draft.progress c.loop-draft.invariant.search)

pub decide-requires-clause-together : goal.decide-requires-clause-together
decide-requires-clause-together c =
    let list = c.args.graph.now in
    let P : Problem = problem_of list in
    let i = c.loop-draft.invariant in
    let now = c.work.new.state.trail in
    let here : c.work.new.state.list ≡ list = c.in_ok-f.ensures.list ∙ i.list in
    let d = pair_of P (facts_of P now) c.in-Split.f c.in-Split.g (open_here list c.args.budget c.loop-draft.state.trail now c.loop-draft.waits.items c.loop-draft.progress c.work.new.progress i.waits i.search c.in_ok-f.field-0 (Split c.in-Split.f c.in-Split.g) c.in_ok-f.ensures.worked c.in-Split.is c.in-Split.f c.in-Split.g refl) in
    ap (λ (F : Facts). F (Same c.in-Split.f c.in-Split.g)) (known_at list c.work.new.state here) ∙ d.1

pub decide-requires-clause-apart : goal.decide-requires-clause-apart
decide-requires-clause-apart c =
    let list = c.args.graph.now in
    let P : Problem = problem_of list in
    let i = c.loop-draft.invariant in
    let now = c.work.new.state.trail in
    let here : c.work.new.state.list ≡ list = c.in_ok-f.ensures.list ∙ i.list in
    let d = pair_of P (facts_of P now) c.in-Split.f c.in-Split.g (open_here list c.args.budget c.loop-draft.state.trail now c.loop-draft.waits.items c.loop-draft.progress c.work.new.progress i.waits i.search c.in_ok-f.field-0 (Split c.in-Split.f c.in-Split.g) c.in_ok-f.ensures.worked c.in-Split.is c.in-Split.f c.in-Split.g refl) in
    ap (λ (F : Facts). F (Apart c.in-Split.f c.in-Split.g)) (known_at list c.work.new.state here) ∙ d.2

pub loop-draft-smaller-in-Continue-branch-6 : goal.loop-draft-smaller-in-Continue-branch-6
loop-draft-smaller-in-Continue-branch-6 c =
    let list = c.args.graph.now in
    let P : Problem = problem_of list in
    let i = c.loop-draft.invariant in
    let now = c.work.new.state.trail in
    let here : c.work.new.state.list ≡ list = c.in_ok-f.ensures.list ∙ i.list in
    let t = turn_split list c.args.budget c.loop-draft.state.trail now c.loop-draft.waits.items c.loop-draft.progress c.work.new.progress i.waits i.search c.in_ok-f.field-0 (Split c.in-Split.f c.in-Split.g) c.in_ok-f.ensures.worked c.in-Split.is c.in-Split.f c.in-Split.g c.mark.result c.decide.new.self.trail c.push.new.self.items refl c.mark.ensures c.in_ok-push-in-Split.ensures.items c.in_ok-decide-in-Split.ensures.ok in
    t.smaller

pub loop-draft-preserved-in-Continue-branch-6 : goal.loop-draft-preserved-in-Continue-branch-6
loop-draft-preserved-in-Continue-branch-6 c =
    let list = c.args.graph.now in
    let P : Problem = problem_of list in
    let i = c.loop-draft.invariant in
    let now = c.work.new.state.trail in
    let here : c.work.new.state.list ≡ list = c.in_ok-f.ensures.list ∙ i.list in
    let t = turn_split list c.args.budget c.loop-draft.state.trail now c.loop-draft.waits.items c.loop-draft.progress c.work.new.progress i.waits i.search c.in_ok-f.field-0 (Split c.in-Split.f c.in-Split.g) c.in_ok-f.ensures.worked c.in-Split.is c.in-Split.f c.in-Split.g c.mark.result c.decide.new.self.trail c.push.new.self.items refl c.mark.ensures c.in_ok-push-in-Split.ensures.items c.in_ok-decide-in-Split.ensures.ok in
    record { list = c.in_ok-decide-in-Split.ensures.list ∙ here; draft = c.split.ensures.list ∙ c.in_ok-f.ensures.draft ∙ i.draft; search = t.search; waits = t.waits_are }

pub decide-requires-in-Some-clause-pair : goal.decide-requires-in-Some-clause-pair
decide-requires-in-Some-clause-pair c =
    let list = c.args.graph.now in
    let P : Problem = problem_of list in
    let i = c.loop-draft.invariant in
    let now = c.work.new.state.trail in
    let here : c.work.new.state.list ≡ list = c.in_ok-f.ensures.list ∙ i.list in
    let d = pair_of P (facts_of P (take c.in-Some.next.mark now)) c.in-Some.next.f c.in-Some.next.g (open_there list c.args.budget c.loop-draft.state.trail now c.loop-draft.waits.items c.loop-draft.progress c.work.new.progress i.waits i.search c.in_ok-f.field-0 Close c.in_ok-f.ensures.worked c.in-Close.is c.in-Some.next c.pop.new.self.items refl c.in-Some.ensures.items) in
    subst (λ (l : List Op). is_pair (problem_of l) c.in-Some.next.f c.in-Some.next.g ≡ true) (sym (c.undo_to.ensures.list ∙ here)) d.0

pub decide-requires-in-Some-clause-together : goal.decide-requires-in-Some-clause-together
decide-requires-in-Some-clause-together c =
    let list = c.args.graph.now in
    let P : Problem = problem_of list in
    let i = c.loop-draft.invariant in
    let now = c.work.new.state.trail in
    let here : c.work.new.state.list ≡ list = c.in_ok-f.ensures.list ∙ i.list in
    let d = pair_of P (facts_of P (take c.in-Some.next.mark now)) c.in-Some.next.f c.in-Some.next.g (open_there list c.args.budget c.loop-draft.state.trail now c.loop-draft.waits.items c.loop-draft.progress c.work.new.progress i.waits i.search c.in_ok-f.field-0 Close c.in_ok-f.ensures.worked c.in-Close.is c.in-Some.next c.pop.new.self.items refl c.in-Some.ensures.items) in
    ap (λ (F : Facts). F (Same c.in-Some.next.f c.in-Some.next.g)) (known_at list c.undo_to.new.self (c.undo_to.ensures.list ∙ here)) ∙ (ap (λ ts. facts_of P ts (Same c.in-Some.next.f c.in-Some.next.g)) c.undo_to.ensures.trail ∙ d.1)

pub decide-requires-in-Some-clause-apart : goal.decide-requires-in-Some-clause-apart
decide-requires-in-Some-clause-apart c =
    let list = c.args.graph.now in
    let P : Problem = problem_of list in
    let i = c.loop-draft.invariant in
    let now = c.work.new.state.trail in
    let here : c.work.new.state.list ≡ list = c.in_ok-f.ensures.list ∙ i.list in
    let d = pair_of P (facts_of P (take c.in-Some.next.mark now)) c.in-Some.next.f c.in-Some.next.g (open_there list c.args.budget c.loop-draft.state.trail now c.loop-draft.waits.items c.loop-draft.progress c.work.new.progress i.waits i.search c.in_ok-f.field-0 Close c.in_ok-f.ensures.worked c.in-Close.is c.in-Some.next c.pop.new.self.items refl c.in-Some.ensures.items) in
    ap (λ (F : Facts). F (Apart c.in-Some.next.f c.in-Some.next.g)) (known_at list c.undo_to.new.self (c.undo_to.ensures.list ∙ here)) ∙ (ap (λ ts. facts_of P ts (Apart c.in-Some.next.f c.in-Some.next.g)) c.undo_to.ensures.trail ∙ d.2)

pub loop-draft-smaller : goal.loop-draft-smaller
loop-draft-smaller c =
    let list = c.args.graph.now in
    let P : Problem = problem_of list in
    let i = c.loop-draft.invariant in
    let now = c.work.new.state.trail in
    let here : c.work.new.state.list ≡ list = c.in_ok-f.ensures.list ∙ i.list in
    let t = turn_close list c.args.budget c.loop-draft.state.trail now c.loop-draft.waits.items c.loop-draft.progress c.work.new.progress i.waits i.search c.in_ok-f.field-0 Close c.in_ok-f.ensures.worked c.in-Close.is c.in-Some.next c.pop.new.self.items refl c.in-Some.ensures.items c.decide-in-Some.new.self.trail (c.in_ok-decide-in-Some.ensures.ok ∙ ap (λ ts. ts ++ Apart c.in-Some.next.f c.in-Some.next.g ∷ []) c.undo_to.ensures.trail) in
    t.smaller

pub loop-draft-preserved : goal.loop-draft-preserved
loop-draft-preserved c =
    let list = c.args.graph.now in
    let P : Problem = problem_of list in
    let i = c.loop-draft.invariant in
    let now = c.work.new.state.trail in
    let here : c.work.new.state.list ≡ list = c.in_ok-f.ensures.list ∙ i.list in
    let t = turn_close list c.args.budget c.loop-draft.state.trail now c.loop-draft.waits.items c.loop-draft.progress c.work.new.progress i.waits i.search c.in_ok-f.field-0 Close c.in_ok-f.ensures.worked c.in-Close.is c.in-Some.next c.pop.new.self.items refl c.in-Some.ensures.items c.decide-in-Some.new.self.trail (c.in_ok-decide-in-Some.ensures.ok ∙ ap (λ ts. ts ++ Apart c.in-Some.next.f c.in-Some.next.g ∷ []) c.undo_to.ensures.trail) in
    record { list = c.in_ok-decide-in-Some.ensures.list ∙ (c.undo_to.ensures.list ∙ here); draft = c.turn.ensures.list ∙ c.in_ok-f.ensures.draft ∙ i.draft; search = t.search; waits = t.waits_are }

pub returns-in-None : goal.returns-in-None
returns-in-None c =
    let list = c.args.graph.now in
    let P : Problem = problem_of list in
    let i = c.loop-draft.invariant in
    let now = c.work.new.state.trail in
    let here : c.work.new.state.list ≡ list = c.in_ok-f.ensures.list ∙ i.list in
    turn_last list c.args.budget c.loop-draft.state.trail now c.loop-draft.waits.items c.loop-draft.progress c.work.new.progress i.waits i.search c.in_ok-f.field-0 Close c.in_ok-f.ensures.worked c.in-Close.is refl (none_left c.loop-draft.waits.items (sym c.loop-draft.waits.ok.0 ∙ c.in-None.ensures.cases.0))
