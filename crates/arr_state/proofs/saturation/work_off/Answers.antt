use Rattle.std.proofs.Common.{◌≡◌, ◌≤◌, ◌<◌, ◌+◌, ◌-◌, length, subst, arith}
use Rattle.arr_law.specs.ProblemOf.{problem_of}
use Rattle.arr_state.specs.declared.outcome.Going.TheVariants.{On}
use Rattle.arr_law.specs.Facts.{facts_of}
use Rattle.arr_law.specs.Floor.{IsClosed}
use Rattle.arr_state.specs.Jobs.{IsTouched}
use Rattle.arr_state.proofs.Wents.{went_none, went_as, went_clashes, went_out, went_on_with, went_done}
use Rattle.arr_state.proofs.Prefixes.{longer, lefts, work_step, worked_all}
use Rattle.arr_state.proofs.saturation.work_off.Goals as goal

pub loop-head-init : goal.loop-head-init
loop-head-init c = record { kept = c.requires.kept; went = went_none (problem_of c.args.ops.now) c.args.known.now c.args.tree.now c.args.left (λ a b. Unit {0}) tt; within = c.requires.within; covered = c.requires.covered }

pub returns-in-Clash-clause-went : goal.returns-in-Clash-clause-went
returns-in-Clash-clause-went c = went_clashes (problem_of c.args.ops.now) c.args.known.now c.loop-head.known c.touch.new.known c.args.tree.now c.loop-head.tree c.touch.new.tree c.args.left c.loop-head.left c.in_ok-rest.field-0 (λ a b. Unit {0}) (IsTouched (problem_of c.args.ops.now) c.index-fact.result.now) (λ a b. IsClosed (problem_of c.args.ops.now) b) c.loop-head.invariant.went c.in_ok-rest.ensures.went c.in-Clash.x c.in-Clash.y c.in-Clash.is

pub returns-in-NoneLeft-clause-went : goal.returns-in-NoneLeft-clause-went
returns-in-NoneLeft-clause-went c = went_out (problem_of c.args.ops.now) c.args.known.now c.loop-head.known c.touch.new.known c.args.tree.now c.loop-head.tree c.touch.new.tree c.args.left c.loop-head.left c.in_ok-rest.field-0 (λ a b. Unit {0}) (IsTouched (problem_of c.args.ops.now) c.index-fact.result.now) (λ a b. IsClosed (problem_of c.args.ops.now) b) c.loop-head.invariant.went c.in_ok-rest.ensures.went c.in-NoneLeft.is

pub loop-head-smaller : goal.loop-head-smaller
loop-head-smaller c =
    let w = went_as (problem_of c.args.ops.now) c.loop-head.known c.touch.new.known c.loop-head.tree c.touch.new.tree c.loop-head.left c.in_ok-rest.field-0 (On c.in-On.rest) (IsTouched (problem_of c.args.ops.now) c.index-fact.result.now) c.in-On.is c.in_ok-rest.ensures.went in
    let a : length c.touch.new.known.facts.items ≡ length c.loop-head.known.facts.items + (c.loop-head.left - c.in-On.rest) = longer (problem_of c.args.ops.now) c.loop-head.known c.touch.new.known c.loop-head.tree c.touch.new.tree c.loop-head.left c.in-On.rest c.loop-head.head c.index-fact.result.now (IsTouched (problem_of c.args.ops.now) c.index-fact.result.now) w in
    let b : c.in-On.rest ≤ c.loop-head.left = lefts (problem_of c.args.ops.now) c.loop-head.known c.touch.new.known c.loop-head.tree c.touch.new.tree c.loop-head.left c.in-On.rest c.loop-head.head c.index-fact.result.now (IsTouched (problem_of c.args.ops.now) c.index-fact.result.now) w in
    let l : c.loop-head.head < length c.loop-head.known.facts.items = omega (arith, c.loop-head-test.true, c.len.ensures, c.loop-head.known.facts.ok.0) in
    omega (arith, a, b, l)

pub loop-head-preserved : goal.loop-head-preserved
loop-head-preserved c =
    let w = went_as (problem_of c.args.ops.now) c.loop-head.known c.touch.new.known c.loop-head.tree c.touch.new.tree c.loop-head.left c.in_ok-rest.field-0 (On c.in-On.rest) (IsTouched (problem_of c.args.ops.now) c.index-fact.result.now) c.in-On.is c.in_ok-rest.ensures.went in
    let a : length c.touch.new.known.facts.items ≡ length c.loop-head.known.facts.items + (c.loop-head.left - c.in-On.rest) = longer (problem_of c.args.ops.now) c.loop-head.known c.touch.new.known c.loop-head.tree c.touch.new.tree c.loop-head.left c.in-On.rest c.loop-head.head c.index-fact.result.now (IsTouched (problem_of c.args.ops.now) c.index-fact.result.now) w in
    let l : c.loop-head.head < length c.loop-head.known.facts.items = omega (arith, c.loop-head-test.true, c.len.ensures, c.loop-head.known.facts.ok.0) in
    record {
      kept = c.touch.ensures.kept;
      went = went_on_with (problem_of c.args.ops.now) c.args.known.now c.loop-head.known c.touch.new.known c.args.tree.now c.loop-head.tree c.touch.new.tree c.args.left c.loop-head.left c.in_ok-rest.field-0 (λ a b. Unit {0}) (IsTouched (problem_of c.args.ops.now) c.index-fact.result.now) (λ a b. Unit {0}) c.loop-head.invariant.went c.in_ok-rest.ensures.went c.in-On.rest c.in-On.is (λ _ _ _ _. tt);
      within = omega (arith, a, l);
      covered = work_step (problem_of c.args.ops.now) c.loop-head.known c.touch.new.known c.loop-head.tree c.touch.new.tree c.loop-head.left c.in-On.rest c.loop-head.head c.index-fact.result.now (IsTouched (problem_of c.args.ops.now) c.index-fact.result.now) w l c.loop-head.invariant.covered (λ t. subst (λ x. IsTouched (problem_of c.args.ops.now) x (facts_of (problem_of c.args.ops.now) c.loop-head.known.facts.items) (facts_of (problem_of c.args.ops.now) c.touch.new.known.facts.items)) c.index-fact.ensures t);
    }

pub returns-clause-went : goal.returns-clause-went
returns-clause-went c =
    let l : length c.loop-head.known.facts.items ≤ c.loop-head.head = omega (arith, c.loop-head-test.false, c.len.ensures, c.loop-head.known.facts.ok.0) in
    went_done (problem_of c.args.ops.now) c.args.known.now c.loop-head.known c.args.tree.now c.loop-head.tree c.args.left c.loop-head.left (λ a b. Unit {0}) (λ a b. IsClosed (problem_of c.args.ops.now) b)
    (worked_all (problem_of c.args.ops.now) c.loop-head.known.facts.items c.loop-head.head c.loop-head.invariant.within l c.loop-head.invariant.covered) c.loop-head.invariant.went
