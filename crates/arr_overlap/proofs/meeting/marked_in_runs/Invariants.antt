use Rattle.std.proofs.Common.{◌≡◌, ◌++◌, set}
use Rattle.arr_view.specs.Views.{elements}
use Rattle.arr_overlap.specs.Filters.{front_of}
use Rattle.arr_overlap.specs.Marks.{Marks}
use Rattle.arr_overlap.proofs.Runs.{runs}
use Rattle.arr_overlap.proofs.meeting.marked_in_runs.Given as goal

abbrev pub invariant-loop-first : goal.invariant-loop-first
invariant-loop-first l = record {
  whole : elements (front_of l.view (set l.view.lengths l.axis 1)) ≡ l.yielded ++ l.first-iterator;
  marks : Marks l.bits (runs l.run l.yielded);
}
