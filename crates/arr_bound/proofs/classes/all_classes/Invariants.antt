use Rattle.arr_bound.specs.Classes.{AreClasses}
use Rattle.arr_bound.proofs.classes.all_classes.Given as goal

abbrev pub invariant-loop-at : goal.invariant-loop-at
invariant-loop-at l = AreClasses l.ops l.at l.classes.items
