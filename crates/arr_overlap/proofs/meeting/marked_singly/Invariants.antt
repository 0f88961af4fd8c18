use Rattle.std.proofs.Common.{◌≡◌, ◌++◌}
use Rattle.arr_view.specs.Views.{elements}
use Rattle.arr_overlap.specs.Marks.{Marks}
use Rattle.arr_overlap.proofs.meeting.marked_singly.Given as goal

abbrev pub invariant-loop-element : goal.invariant-loop-element
invariant-loop-element l = record {
  whole : elements l.view ≡ l.yielded ++ l.element-iterator;
  marks : Marks l.bits l.yielded;
}
