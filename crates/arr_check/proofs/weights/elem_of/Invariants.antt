use Rattle.std.proofs.Common.{◌≡◌, drop}
use Rattle.arr_ops.specs.Costs.{elem_of}
use Rattle.arr_check.proofs.weights.elem_of.Given as goal

abbrev pub invariant-loop-op : goal.invariant-loop-op
invariant-loop-op l = elem_of (drop l.op-index l.list) l.base ≡ elem_of l.list l.base
