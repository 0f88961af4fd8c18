use Rattle.std.proofs.Common.{◌≡◌, ◌+◌, drop}
use Rattle.arr_view.specs.Views.{elements, has}
use Rattle.arr_ops.proofs.formed.comes_again.Given as goal

abbrev pub invariant-loop-later : goal.invariant-loop-later
invariant-loop-later l = has (drop l.later (elements l.view)) l.element ≡ has (drop (l.position + 1) (elements l.view)) l.element
