use Rattle.std.proofs.Common.{◌≤◌, ◌+◌, length, arith}
use Rattle.arr_law.specs.ProblemOf.{problem_of}
use Rattle.arr_state.specs.declared.outcome.Going.TheVariants.{On}
use Rattle.arr_state.specs.Jobs.{Tried, FreesBelow}
use Rattle.arr_state.proofs.Wents.{went_none, went_clashes, went_out, went_on_with, went_more}
use Rattle.arr_state.proofs.Monotone.{below_step, tried_mono}
use Rattle.arr_state.proofs.saturation.try_frees.Goals as goal

pub loop-g-init : goal.loop-g-init
loop-g-init c = record { kept = c.requires.kept; went = went_none (problem_of c.args.ops.now) c.args.known.now c.args.tree.now c.args.left (FreesBelow (problem_of c.args.ops.now) 0 c.args.f) (λ n l. absurd (omega (arith, l))) }

pub returns-in-Clash-clause-went : goal.returns-in-Clash-clause-went
returns-in-Clash-clause-went c = went_clashes (problem_of c.args.ops.now) c.args.known.now c.loop-g.known c.attempt.new.known c.args.tree.now c.loop-g.tree c.attempt.new.tree c.args.left c.loop-g.left c.in_ok-rest.field-0 (FreesBelow (problem_of c.args.ops.now) c.loop-g.g c.args.f) (Tried (problem_of c.args.ops.now) 9 c.args.f c.loop-g.g 0) (FreesBelow (problem_of c.args.ops.now) (length c.args.ops.now + 1) c.args.f) c.loop-g.invariant.went c.in_ok-rest.ensures.went c.in-Clash.x c.in-Clash.y c.in-Clash.is

pub returns-in-NoneLeft-clause-went : goal.returns-in-NoneLeft-clause-went
returns-in-NoneLeft-clause-went c = went_out (problem_of c.args.ops.now) c.args.known.now c.loop-g.known c.attempt.new.known c.args.tree.now c.loop-g.tree c.attempt.new.tree c.args.left c.loop-g.left c.in_ok-rest.field-0 (FreesBelow (problem_of c.args.ops.now) c.loop-g.g c.args.f) (Tried (problem_of c.args.ops.now) 9 c.args.f c.loop-g.g 0) (FreesBelow (problem_of c.args.ops.now) (length c.args.ops.now + 1) c.args.f) c.loop-g.invariant.went c.in_ok-rest.ensures.went c.in-NoneLeft.is

pub loop-g-preserved : goal.loop-g-preserved
loop-g-preserved c =
    record {
      kept = c.attempt.ensures.kept;
      went = went_on_with (problem_of c.args.ops.now) c.args.known.now c.loop-g.known c.attempt.new.known c.args.tree.now c.loop-g.tree c.attempt.new.tree c.args.left c.loop-g.left c.in_ok-rest.field-0 (FreesBelow (problem_of c.args.ops.now) c.loop-g.g c.args.f) (Tried (problem_of c.args.ops.now) 9 c.args.f c.loop-g.g 0) (FreesBelow (problem_of c.args.ops.now) (c.loop-g.g + 1) c.args.f) c.loop-g.invariant.went c.in_ok-rest.ensures.went c.in-On.rest c.in-On.is
          (λ l m o n. below_step (λ g. Tried (problem_of c.args.ops.now) 9 c.args.f g 0) (λ g. tried_mono (problem_of c.args.ops.now) 9 c.args.f g 0) c.loop-g.g _ _ _ l m o n);
    }

pub returns-clause-went : goal.returns-clause-went
returns-clause-went c =
    let l : length c.args.ops.now + 1 ≤ c.loop-g.g = omega (arith, c.loop-g-test.false, c.count_of-g-end.ensures) in
    went_more (problem_of c.args.ops.now) c.args.known.now c.loop-g.known c.args.tree.now c.loop-g.tree c.args.left (On c.loop-g.left) (FreesBelow (problem_of c.args.ops.now) c.loop-g.g c.args.f) (FreesBelow (problem_of c.args.ops.now) (length c.args.ops.now + 1) c.args.f) (λ t g lg. t g (omega (arith, lg, l))) c.loop-g.invariant.went
