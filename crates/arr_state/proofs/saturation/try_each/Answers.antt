use Rattle.std.proofs.Common.{◌≤◌, ◌+◌, length, arith}
use Rattle.arr_law.specs.ProblemOf.{problem_of}
use Rattle.arr_state.specs.declared.outcome.Going.TheVariants.{On}
use Rattle.arr_state.specs.Jobs.{TriedAt, SiftBelow, JobTried}
use Rattle.arr_state.proofs.Wents.{went_none, went_clashes, went_out, went_on_with, went_more}
use Rattle.arr_state.proofs.Monotone.{below_step, at_mono}
use Rattle.arr_state.proofs.saturation.try_each.Goals as goal

pub loop-c-init : goal.loop-c-init
loop-c-init c = record { kept = c.requires.kept; went = went_none (problem_of c.args.ops.now) c.args.known.now c.args.tree.now c.args.left (SiftBelow (problem_of c.args.ops.now) 0 c.args.job) (λ n l. absurd (omega (arith, l))) }

pub returns-in-Clash-clause-went : goal.returns-in-Clash-clause-went
returns-in-Clash-clause-went c = went_clashes (problem_of c.args.ops.now) c.args.known.now c.loop-c.known c.try_at.new.known c.args.tree.now c.loop-c.tree c.try_at.new.tree c.args.left c.loop-c.left c.in_ok-rest.field-0 (SiftBelow (problem_of c.args.ops.now) c.loop-c.c c.args.job) (TriedAt (problem_of c.args.ops.now) c.args.job c.loop-c.c) (JobTried (problem_of c.args.ops.now) c.args.job) c.loop-c.invariant.went c.in_ok-rest.ensures.went c.in-Clash.x c.in-Clash.y c.in-Clash.is

pub returns-in-NoneLeft-clause-went : goal.returns-in-NoneLeft-clause-went
returns-in-NoneLeft-clause-went c = went_out (problem_of c.args.ops.now) c.args.known.now c.loop-c.known c.try_at.new.known c.args.tree.now c.loop-c.tree c.try_at.new.tree c.args.left c.loop-c.left c.in_ok-rest.field-0 (SiftBelow (problem_of c.args.ops.now) c.loop-c.c c.args.job) (TriedAt (problem_of c.args.ops.now) c.args.job c.loop-c.c) (JobTried (problem_of c.args.ops.now) c.args.job) c.loop-c.invariant.went c.in_ok-rest.ensures.went c.in-NoneLeft.is

pub loop-c-preserved : goal.loop-c-preserved
loop-c-preserved c =
    record {
      kept = c.try_at.ensures.kept;
      went = went_on_with (problem_of c.args.ops.now) c.args.known.now c.loop-c.known c.try_at.new.known c.args.tree.now c.loop-c.tree c.try_at.new.tree c.args.left c.loop-c.left c.in_ok-rest.field-0 (SiftBelow (problem_of c.args.ops.now) c.loop-c.c c.args.job) (TriedAt (problem_of c.args.ops.now) c.args.job c.loop-c.c) (SiftBelow (problem_of c.args.ops.now) (c.loop-c.c + 1) c.args.job) c.loop-c.invariant.went c.in_ok-rest.ensures.went c.in-On.rest c.in-On.is
          (λ l m o n. below_step (λ k. TriedAt (problem_of c.args.ops.now) c.args.job k) (λ k. at_mono (problem_of c.args.ops.now) c.args.job k) c.loop-c.c _ _ _ l m o n);
    }

pub returns-clause-went : goal.returns-clause-went
returns-clause-went c =
    let l : length c.args.ops.now + 1 ≤ c.loop-c.c = omega (arith, c.loop-c-test.false, c.count_of-c-end.ensures) in
    went_more (problem_of c.args.ops.now) c.args.known.now c.loop-c.known c.args.tree.now c.loop-c.tree c.args.left (On c.loop-c.left) (SiftBelow (problem_of c.args.ops.now) c.loop-c.c c.args.job) (JobTried (problem_of c.args.ops.now) c.args.job) (λ t k lk. t k (omega (arith, lk, l))) c.loop-c.invariant.went
