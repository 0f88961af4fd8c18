use Rattle.std.proofs.Common.{◌≡◌, length, map, take}
use Rattle.arr_view.specs.Views.{overlap}
use Rattle.arr_overlap.specs.Classes.{AreMarks}
use Rattle.arr_overlap.proofs.classes.rows_of.Given as goal

abbrev pub invariant-loop-view : goal.invariant-loop-view
invariant-loop-view l = record {
  long : length l.rows.items ≡ l._view-index;
  rows : l.rows.items ≡ map (λ v. map (overlap v) l.views) (take l._view-index l.views);
  marked : AreMarks l.marks.items l.views;
}
