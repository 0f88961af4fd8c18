use Rattle.arr_overlap.specs.Classes.{AreMarks, view_at}
use Rattle.arr_overlap.proofs.ClassesMeet.{Row}
use Rattle.arr_overlap.proofs.classes.row_of.Given as goal

abbrev pub invariant-loop-other : goal.invariant-loop-other
invariant-loop-other l = record {
  row : Row (view_at l.views l.at) l.views l.other l.row;
  marked : AreMarks l.marks.items l.views;
}
