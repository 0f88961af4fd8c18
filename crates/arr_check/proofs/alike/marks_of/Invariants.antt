use Rattle.std.proofs.Common.{◌≡◌, ◌++◌, ◌+◌, length}
use Rattle.arr_view.specs.Views.{elements}
use Rattle.arr_check.specs.Classed.{Marks}
use Rattle.arr_check.proofs.alike.marks_of.Given as goal

abbrev pub invariant-loop-element : goal.invariant-loop-element
invariant-loop-element l = record {
  whole : elements l.view ≡ l.yielded ++ l.element-iterator;
  marks : Marks l.marks.items l.yielded;
  long : length l.marks.items ≡ l.greatest + 1;
}
