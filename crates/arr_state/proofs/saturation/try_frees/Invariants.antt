use Rattle.arr_law.specs.ProblemOf.{problem_of}
use Rattle.arr_state.specs.declared.outcome.Going.TheVariants.{On}
use Rattle.arr_state.specs.Kept.{IsKept}
use Rattle.arr_state.specs.Went.{Went}
use Rattle.arr_state.specs.Jobs.{FreesBelow}
use Rattle.arr_state.proofs.saturation.try_frees.Given as goal

abbrev pub invariant-loop-g : goal.invariant-loop-g
invariant-loop-g l =
    record {
      kept : IsKept (problem_of l.ops) l.known;
      went : Went (problem_of l.ops) l.initial.known l.known l.initial.tree l.tree l.initial.left (On l.left) (FreesBelow (problem_of l.ops) l.g l.fn.f);
    }
