use Rattle.std.proofs.Common.{◌≤◌, ◌+◌, ◌-◌, length, take}
use Rattle.arr_law.specs.Facts.{facts_of}
use Rattle.arr_law.specs.ProblemOf.{problem_of}
use Rattle.arr_state.specs.declared.outcome.Going.TheVariants.{On}
use Rattle.arr_state.specs.Kept.{IsKept}
use Rattle.arr_state.specs.Went.{Went}
use Rattle.arr_state.specs.Jobs.{Covered}
use Rattle.arr_state.proofs.saturation.work_off.Given as goal

abbrev pub invariant-loop-head : goal.invariant-loop-head
invariant-loop-head l =
    record {
      kept : IsKept (problem_of l.ops) l.known;
      went : Went (problem_of l.ops) l.initial.known l.known l.initial.tree l.tree l.initial.left (On l.left) (λ a b. Unit {0});
      within : l.head ≤ length l.known.facts.items;
      covered : Covered (problem_of l.ops) (facts_of (problem_of l.ops) (take l.head l.known.facts.items)) (facts_of (problem_of l.ops) l.known.facts.items);
    }

abbrev pub decreases-loop-head : goal.decreases-loop-head
decreases-loop-head l = l.left + (length l.known.facts.items - l.head)
