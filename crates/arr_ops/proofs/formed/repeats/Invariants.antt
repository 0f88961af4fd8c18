use Rattle.std.proofs.Common.{◌≡◌, drop}
use Rattle.arr_view.specs.Views.{elements, repeated}
use Rattle.arr_ops.proofs.formed.repeats.Given as goal

abbrev pub invariant-loop-position : goal.invariant-loop-position
invariant-loop-position l = repeated (drop l.position (elements l.view)) ≡ repeated (elements l.view)
