use Rattle.std.proofs.Common.{◌<◌, ◌^◌}
use Rattle.arr_law.specs.ProblemOf.{problem_of}
use Rattle.arr_state.specs.declared.outcome.Going.TheVariants.{On}
use Rattle.arr_state.specs.Kept.{IsKept}
use Rattle.arr_state.specs.Went.{Went}
use Rattle.arr_state.specs.Jobs.{RestTried}
use Rattle.arr_state.proofs.saturation.try_word.Given as goal

abbrev pub invariant-loop-bits : goal.invariant-loop-bits
invariant-loop-bits l =
    record {
      small : l.bits < 2 ^ 64;
      kept : IsKept (problem_of l.ops) l.known;
      went : Went (problem_of l.ops) l.initial.known l.known l.initial.tree l.tree l.initial.left (On l.left) (RestTried (problem_of l.ops) l.job l.base l.word l.bits);
    }

abbrev pub decreases-loop-bits : goal.decreases-loop-bits
decreases-loop-bits l = l.bits
