use Rattle.arr_law.specs.ProblemOf.{problem_of}
use Rattle.arr_state.specs.declared.outcome.Going.TheVariants.{On}
use Rattle.arr_state.specs.Kept.{IsKept}
use Rattle.arr_state.specs.Went.{Went}
use Rattle.arr_state.specs.Jobs.{TouchedBelow}
use Rattle.arr_state.proofs.saturation.touch_roots.Given as goal

abbrev pub invariant-loop-fact : goal.invariant-loop-fact
invariant-loop-fact l =
    record {
      kept : IsKept (problem_of l.ops) l.known;
      went : Went (problem_of l.ops) l.initial.known l.known l.initial.tree l.tree l.initial.left (On l.left) (TouchedBelow (problem_of l.ops) l.fact-index l.roots);
    }
