use Rattle.std.proofs.Common.{◌≡◌, ◌++◌, false}
use Rattle.arr_view.specs.Views.{elements, share}
use Rattle.arr_check.proofs.alike.overlaps.Given as goal

abbrev pub invariant-loop-element : goal.invariant-loop-element
invariant-loop-element l = record {
  whole : elements l.a ≡ l.yielded ++ l.element-iterator;
  none : share l.yielded (elements l.b) ≡ false;
}
