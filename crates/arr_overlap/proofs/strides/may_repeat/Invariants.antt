use Rattle.std.proofs.Common.{◌-◌, ◌+◌, drop}
use Rattle.arr_overlap.proofs.Steps.{Behind}
use Rattle.arr_overlap.proofs.strides.may_repeat.Given as goal

abbrev pub invariant-loop-axis : goal.invariant-loop-axis
invariant-loop-axis l = Behind (drop l.axis l.view.lengths) (drop l.axis l.view.strides) (8 - (l.axis + l.axis)) l.legs.items
