use Rattle.arr_overlap.specs.Classes.{AreOutlines}
use Rattle.arr_overlap.proofs.classes.all_outlines.Given as goal

abbrev pub invariant-loop-view : goal.invariant-loop-view
invariant-loop-view l = AreOutlines l.view-index l.outlines.items l.views
