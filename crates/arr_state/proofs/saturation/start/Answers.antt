use Rattle.std.proofs.Common.{◌+◌, length}
use Rattle.arr_law.specs.ProblemOf.{problem_of}
use Rattle.arr_state.specs.declared.outcome.Going.TheVariants.{On}
use Rattle.arr_law.specs.Facts.{root_facts, facts_of}
use Rattle.arr_state.specs.Jobs.{AllFreesBelow, AreTouched, Covered}
use Rattle.arr_state.proofs.Covers.{cover_root}
use Rattle.arr_state.proofs.Wents.{after_grows, ok_more, went_as, went_then}
use Rattle.arr_state.proofs.saturation.start.Goals as goal

pub returns-in-On-clause-went : goal.returns-in-On-clause-went
returns-in-On-clause-went c =
    ok_more c.try_all_frees.result _ _
    (λ going q. went_then (problem_of c.args.ops.now) c.args.known.now c.touch_roots.new.known c.try_all_frees.new.known c.args.tree.now c.touch_roots.new.tree c.try_all_frees.new.tree c.args.left c.in-On.rest going (AreTouched (problem_of c.args.ops.now) c.args.roots.now) (AllFreesBelow (problem_of c.args.ops.now) (length c.args.ops.now + 1)) (λ a b. Covered (problem_of c.args.ops.now) (root_facts (problem_of c.args.ops.now)) b)
    (λ l m t u. cover_root (problem_of c.args.ops.now) c.args.roots.now (facts_of (problem_of c.args.ops.now) c.args.known.now.facts.items) (facts_of (problem_of c.args.ops.now) c.touch_roots.new.known.facts.items) (facts_of (problem_of c.args.ops.now) c.try_all_frees.new.known.facts.items) c.requires.roots (after_grows (root_facts (problem_of c.args.ops.now)) c.args.known.now.facts.items) l m t u)
    (went_as (problem_of c.args.ops.now) c.args.known.now c.touch_roots.new.known c.args.tree.now c.touch_roots.new.tree c.args.left c.in_ok-rest.field-0 (On c.in-On.rest) (AreTouched (problem_of c.args.ops.now) c.args.roots.now) c.in-On.is c.in_ok-rest.ensures.went) q)
    c.try_all_frees.ensures.went
