use Rattle.std.proofs.Common.{◌≡◌, length}
use Rattle.arr_syntax.specs.Machine.{give}
use Rattle.arr_syntax.proofs.step.give.Given as goal

abbrev pub invariant-frames : goal.invariant-frames
invariant-frames l = give l.fn.stack l.fn.level_now l.fn.tree l.fn.item ≡ give l.stack l.least l.tree l.item

abbrev pub decreases-frames : goal.decreases-frames
decreases-frames l = length l.stack
