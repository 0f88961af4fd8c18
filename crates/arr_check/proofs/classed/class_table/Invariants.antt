use Rattle.std.proofs.Common.{◌≡◌, map, take}
use Rattle.arr_check.specs.Classed.{classes_of}
use Rattle.arr_check.proofs.classed.class_table.Given as goal

abbrev pub invariant-loop-op : goal.invariant-loop-op
invariant-loop-op l = l.table.items ≡ map (classes_of l.classes) (take l.op-index l.ops)
