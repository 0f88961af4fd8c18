use Rattle.std.proofs.Common.{◌+◌, length, arith}
use Rattle.arr_law.specs.ProblemOf.{problem_of}
use Rattle.arr_state.specs.Jobs.{JobTried, job_at, JobsBelow}
use Rattle.arr_state.proofs.Wents.{went_none, went_clashes, went_out, went_on_with}
use Rattle.arr_state.proofs.Monotone.{below_step, job_mono}
use Rattle.arr_state.proofs.saturation.try_jobs.Goals as goal

pub loop-job-init : goal.loop-job-init
loop-job-init c = record { kept = c.requires.kept; went = went_none (problem_of c.args.ops.now) c.args.known.now c.args.tree.now c.args.left (JobsBelow (problem_of c.args.ops.now) 0 c.args.jobs.now) (λ n l. absurd (omega (arith, l))) }

pub returns-in-Clash-clause-went : goal.returns-in-Clash-clause-went
returns-in-Clash-clause-went c = went_clashes (problem_of c.args.ops.now) c.args.known.now c.loop-job.known c.try_job.new.known c.args.tree.now c.loop-job.tree c.try_job.new.tree c.args.left c.loop-job.left c.in_ok-rest.field-0 (JobsBelow (problem_of c.args.ops.now) c.loop-job.job-index c.args.jobs.now) (JobTried (problem_of c.args.ops.now) (job_at c.args.jobs.now c.loop-job.job-index)) (JobsBelow (problem_of c.args.ops.now) (length c.args.jobs.now) c.args.jobs.now) c.loop-job.invariant.went c.in_ok-rest.ensures.went c.in-Clash.x c.in-Clash.y c.in-Clash.is

pub returns-in-NoneLeft-clause-went : goal.returns-in-NoneLeft-clause-went
returns-in-NoneLeft-clause-went c = went_out (problem_of c.args.ops.now) c.args.known.now c.loop-job.known c.try_job.new.known c.args.tree.now c.loop-job.tree c.try_job.new.tree c.args.left c.loop-job.left c.in_ok-rest.field-0 (JobsBelow (problem_of c.args.ops.now) c.loop-job.job-index c.args.jobs.now) (JobTried (problem_of c.args.ops.now) (job_at c.args.jobs.now c.loop-job.job-index)) (JobsBelow (problem_of c.args.ops.now) (length c.args.jobs.now) c.args.jobs.now) c.loop-job.invariant.went c.in_ok-rest.ensures.went c.in-NoneLeft.is

pub loop-job-preserved : goal.loop-job-preserved
loop-job-preserved c =
    record {
      kept = c.try_job.ensures.kept;
      went = went_on_with (problem_of c.args.ops.now) c.args.known.now c.loop-job.known c.try_job.new.known c.args.tree.now c.loop-job.tree c.try_job.new.tree c.args.left c.loop-job.left c.in_ok-rest.field-0 (JobsBelow (problem_of c.args.ops.now) c.loop-job.job-index c.args.jobs.now) (JobTried (problem_of c.args.ops.now) (job_at c.args.jobs.now c.loop-job.job-index)) (JobsBelow (problem_of c.args.ops.now) (c.loop-job.job-index + 1) c.args.jobs.now) c.loop-job.invariant.went c.in_ok-rest.ensures.went c.in-On.rest c.in-On.is
          (λ l m o n. below_step (λ k. JobTried (problem_of c.args.ops.now) (job_at c.args.jobs.now k)) (λ k. job_mono (problem_of c.args.ops.now) (job_at c.args.jobs.now k)) c.loop-job.job-index _ _ _ l m o n);
    }
