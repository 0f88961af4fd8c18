use Rattle.arr_law.specs.ProblemOf.{problem_of}
use Rattle.arr_state.specs.declared.outcome.Going.TheVariants.{On}
use Rattle.arr_state.specs.Kept.{IsKept}
use Rattle.arr_state.specs.Went.{Went}
use Rattle.arr_state.specs.Jobs.{JobsBelow}
use Rattle.arr_state.proofs.saturation.try_jobs.Given as goal

abbrev pub invariant-loop-job : goal.invariant-loop-job
invariant-loop-job l =
    record {
      kept : IsKept (problem_of l.ops) l.known;
      went : Went (problem_of l.ops) l.initial.known l.known l.initial.tree l.tree l.initial.left (On l.left) (JobsBelow (problem_of l.ops) l.job-index l.jobs);
    }
