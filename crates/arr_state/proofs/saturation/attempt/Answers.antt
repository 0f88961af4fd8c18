use Rattle.std.proofs.Common.{sym, ap, ◌∙◌, ◌++◌, ◌∷◌, []}
use Rattle.arr_law.specs.declared.record.Record.TheVariants.{Step}
use Rattle.arr_law.specs.Facts.{facts_of}
use Rattle.arr_law.specs.ProblemOf.{problem_of}
use Rattle.arr_state.specs.Jobs.{Tried}
use Rattle.arr_state.proofs.Gives.{given_new}
use Rattle.arr_state.proofs.Wents.{went_none, tried_none, went_nowhere, went_on, went_clash}
use Rattle.arr_state.proofs.saturation.attempt.Goals as goal

pub returns-in-None-clause-went : goal.returns-in-None-clause-went
returns-in-None-clause-went c =
    let L = problem_of c.args.ops.now in
    went_none L c.args.known.now c.args.tree.now c.args.left (Tried L c.args.rule c.args.f c.args.g c.args.h) (tried_none L (facts_of L c.args.known.now.facts.items) c.args.rule c.args.f c.args.g c.args.h (sym c.in-None.ensures))

pub returns-then-left-eq0-clause-went : goal.returns-then-left-eq0-clause-went
returns-then-left-eq0-clause-went c =
    let L = problem_of c.args.ops.now in
    went_nowhere L c.args.known.now c.args.tree.now c.args.left c.args.rule c.args.f c.args.g c.args.h c.in-Some.fact (sym c.in-Some.ensures) (Tried L c.args.rule c.args.f c.args.g c.args.h) c.if-left-eq0.true

pub add-requires-clause-about : goal.add-requires-clause-about
add-requires-clause-about c =
    let L = problem_of c.args.ops.now in
    (given_new L (facts_of L c.args.known.now.facts.items) c.args.rule c.args.f c.args.g c.args.h c.in-Some.fact (sym c.in-Some.ensures)).1

pub add-requires-clause-new : goal.add-requires-clause-new
add-requires-clause-new c =
    let L = problem_of c.args.ops.now in
    (given_new L (facts_of L c.args.known.now.facts.items) c.args.rule c.args.f c.args.g c.args.h c.in-Some.fact (sym c.in-Some.ensures)).0

pub returns-in-Some-clash_at-clause-went : goal.returns-in-Some-clash_at-clause-went
returns-in-Some-clash_at-clause-went c =
    let L = problem_of c.args.ops.now in
    went_clash L c.args.known.now c.args.tree.now c.args.left c.args.rule c.args.f c.args.g c.args.h c.in-Some.fact (sym c.in-Some.ensures) c.add.new.known c.push.new.self c.in_ok-add-in-Some.ensures.is (c.in_ok-push-in-Some.ensures.ok ∙ ap (λ h. c.args.tree.now ++ Step c.args.rule c.args.f c.args.g h ∷ []) c.third_of.ensures) c.if-left-eq0.false
    c.in-Some-clash_at.x c.in-Some-clash_at.y (Tried L c.args.rule c.args.f c.args.g c.args.h) c.in-Some-clash_at.ensures

pub returns-in-None-clash_at-clause-went : goal.returns-in-None-clash_at-clause-went
returns-in-None-clash_at-clause-went c =
    let L = problem_of c.args.ops.now in
    went_on L c.args.known.now c.args.tree.now c.args.left c.args.rule c.args.f c.args.g c.args.h c.in-Some.fact (sym c.in-Some.ensures) c.add.new.known c.push.new.self c.in_ok-add-in-Some.ensures.is (c.in_ok-push-in-Some.ensures.ok ∙ ap (λ h. c.args.tree.now ++ Step c.args.rule c.args.f c.args.g h ∷ []) c.third_of.ensures) c.if-left-eq0.false
