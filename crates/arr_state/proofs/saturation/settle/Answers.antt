use Rattle.std.proofs.Common.{◌<◌, ◌-◌, length, take, sym, ◌∙◌, subst, arith}
use Rattle.arr_law.specs.ProblemOf.{problem_of}
use Rattle.arr_state.specs.declared.outcome.Going.TheVariants.{On}
use Rattle.arr_law.specs.Facts.{root_facts, facts_of}
use Rattle.arr_law.specs.Floor.{IsClosed}
use Rattle.arr_state.specs.Jobs.{Covered}
use Rattle.arr_state.proofs.Wents.{ok_more, went_as, went_then}
use Rattle.arr_state.proofs.Prefixes.{start_closed, get_or_any}
use Rattle.arr_state.proofs.saturation.settle.Goals as goal

pub work_off-requires-in-On-clause-covered : goal.work_off-requires-in-On-clause-covered
work_off-requires-in-On-clause-covered c =
    (went_as (problem_of c.args.ops.now) c.args.known.now c.start.new.known c.args.tree.now c.start.new.tree c.args.left c.in_ok-rest.field-0 (On c.in-On.rest) (λ a b. Covered (problem_of c.args.ops.now) (root_facts (problem_of c.args.ops.now)) b) c.in-On.is c.in_ok-rest.ensures.went).done

pub returns-in-On-clause-went : goal.returns-in-On-clause-went
returns-in-On-clause-went c =
    ok_more c.work_off-in-On.result _ _
    (λ going q. went_then (problem_of c.args.ops.now) c.args.known.now c.start.new.known c.work_off-in-On.new.known c.args.tree.now c.start.new.tree c.work_off-in-On.new.tree c.args.left c.in-On.rest going (λ a b. Covered (problem_of c.args.ops.now) (root_facts (problem_of c.args.ops.now)) b) (λ a b. IsClosed (problem_of c.args.ops.now) b) (λ a b. IsClosed (problem_of c.args.ops.now) b)
    (λ l m p r. r)
    (went_as (problem_of c.args.ops.now) c.args.known.now c.start.new.known c.args.tree.now c.start.new.tree c.args.left c.in_ok-rest.field-0 (On c.in-On.rest) (λ a b. Covered (problem_of c.args.ops.now) (root_facts (problem_of c.args.ops.now)) b) c.in-On.is c.in_ok-rest.ensures.went) q)
    c.work_off-in-On.ensures.went

pub work_off-requires-clause-covered : goal.work_off-requires-clause-covered
work_off-requires-clause-covered c =
    let L = problem_of c.args.ops.now in
    let l : c.len-count.result - 1 < length c.args.known.now.closed.items = omega (arith, c.if-count-gt0.true, c.len-count.ensures, c.args.known.now.closed.ok.0) in
    subst (λ m. Covered L (facts_of L (take m c.args.known.now.facts.items)) (facts_of L c.args.known.now.facts.items)) (sym (c.index-head.ensures ∙ get_or_any c.args.known.now.closed.items (c.len-count.result - 1) c.index-head.result.now 0 l))
    (start_closed L c.args.known.now.facts.items c.args.known.now.closed.items (c.len-count.result - 1) c.requires.kept.shut l)
