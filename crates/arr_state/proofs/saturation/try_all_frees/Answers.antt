use Rattle.std.proofs.Common.{◌≤◌, ◌+◌, length, arith}
use Rattle.arr_law.specs.ProblemOf.{problem_of}
use Rattle.arr_state.specs.declared.outcome.Going.TheVariants.{On}
use Rattle.arr_state.specs.Jobs.{FreesBelow, AllFreesBelow}
use Rattle.arr_state.proofs.Wents.{went_none, went_clashes, went_out, went_on_with, went_more}
use Rattle.arr_state.proofs.Monotone.{below_step, frees_mono}
use Rattle.arr_state.proofs.saturation.try_all_frees.Goals as goal

pub loop-f-init : goal.loop-f-init
loop-f-init c = record { kept = c.requires.kept; went = went_none (problem_of c.args.ops.now) c.args.known.now c.args.tree.now c.args.left (AllFreesBelow (problem_of c.args.ops.now) 0) (λ n l. absurd (omega (arith, l))) }

pub returns-in-Clash-clause-went : goal.returns-in-Clash-clause-went
returns-in-Clash-clause-went c = went_clashes (problem_of c.args.ops.now) c.args.known.now c.loop-f.known c.try_frees.new.known c.args.tree.now c.loop-f.tree c.try_frees.new.tree c.args.left c.loop-f.left c.in_ok-rest.field-0 (AllFreesBelow (problem_of c.args.ops.now) c.loop-f.f) (FreesBelow (problem_of c.args.ops.now) (length c.args.ops.now + 1) c.loop-f.f) (AllFreesBelow (problem_of c.args.ops.now) (length c.args.ops.now + 1)) c.loop-f.invariant.went c.in_ok-rest.ensures.went c.in-Clash.x c.in-Clash.y c.in-Clash.is

pub returns-in-NoneLeft-clause-went : goal.returns-in-NoneLeft-clause-went
returns-in-NoneLeft-clause-went c = went_out (problem_of c.args.ops.now) c.args.known.now c.loop-f.known c.try_frees.new.known c.args.tree.now c.loop-f.tree c.try_frees.new.tree c.args.left c.loop-f.left c.in_ok-rest.field-0 (AllFreesBelow (problem_of c.args.ops.now) c.loop-f.f) (FreesBelow (problem_of c.args.ops.now) (length c.args.ops.now + 1) c.loop-f.f) (AllFreesBelow (problem_of c.args.ops.now) (length c.args.ops.now + 1)) c.loop-f.invariant.went c.in_ok-rest.ensures.went c.in-NoneLeft.is

pub loop-f-preserved : goal.loop-f-preserved
loop-f-preserved c =
    record {
      kept = c.try_frees.ensures.kept;
      went = went_on_with (problem_of c.args.ops.now) c.args.known.now c.loop-f.known c.try_frees.new.known c.args.tree.now c.loop-f.tree c.try_frees.new.tree c.args.left c.loop-f.left c.in_ok-rest.field-0 (AllFreesBelow (problem_of c.args.ops.now) c.loop-f.f) (FreesBelow (problem_of c.args.ops.now) (length c.args.ops.now + 1) c.loop-f.f) (AllFreesBelow (problem_of c.args.ops.now) (c.loop-f.f + 1)) c.loop-f.invariant.went c.in_ok-rest.ensures.went c.in-On.rest c.in-On.is
          (λ l m o n. below_step (λ f. FreesBelow (problem_of c.args.ops.now) (length c.args.ops.now + 1) f) (λ f. frees_mono (problem_of c.args.ops.now) (length c.args.ops.now + 1) f) c.loop-f.f _ _ _ l m o n);
    }

pub returns-clause-went : goal.returns-clause-went
returns-clause-went c =
    let l : length c.args.ops.now + 1 ≤ c.loop-f.f = omega (arith, c.loop-f-test.false, c.count_of-f-end.ensures) in
    went_more (problem_of c.args.ops.now) c.args.known.now c.loop-f.known c.args.tree.now c.loop-f.tree c.args.left (On c.loop-f.left) (AllFreesBelow (problem_of c.args.ops.now) c.loop-f.f) (AllFreesBelow (problem_of c.args.ops.now) (length c.args.ops.now + 1)) (λ t f lf. t f (omega (arith, lf, l))) c.loop-f.invariant.went
