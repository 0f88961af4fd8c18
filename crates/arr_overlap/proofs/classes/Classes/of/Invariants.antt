use Rattle.arr_overlap.proofs.ClassesSeen.{Seen}
use Rattle.arr_overlap.proofs.classes.Classes.of.Given as goal

abbrev pub invariant-loop-view : goal.invariant-loop-view
invariant-loop-view l = Seen l.views l.view-index l.first_views.keys
