use Rattle.std.proofs.Common.{◌≡◌, take}
use Rattle.arr_bound.proofs.classes.copied.Given as goal

abbrev pub invariant-loop-op : goal.invariant-loop-op
invariant-loop-op l = l.copy.items ≡ take l.op-index l.ops
