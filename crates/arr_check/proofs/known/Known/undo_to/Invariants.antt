use Rattle.std.proofs.Common.{◌≡◌, ◌≤◌, length, take}
use Rattle.arr_law.specs.ProblemOf.{problem_of}
use Rattle.arr_check.specs.Known.{IsFine}
use Rattle.arr_check.proofs.known.Known.undo_to.Given as goal

abbrev pub invariant-loop-self : goal.invariant-loop-self
invariant-loop-self l = record {
  fine : IsFine (problem_of l.tables) l.self;
  kept : l.self.trail.items ≡ take (length l.self.trail.items) l.fn.self.trail.items;
  within : l.mark ≤ length l.self.trail.items;
}

abbrev pub decreases-loop-self : goal.decreases-loop-self
decreases-loop-self l = length l.self.trail.items
