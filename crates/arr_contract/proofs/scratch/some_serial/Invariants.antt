use Rattle.std.proofs.Common.{◌≡◌, false, take}
use Rattle.std.specs.List.{list_any}
use Rattle.arr_ops.specs.Ops.{serial}
use Rattle.arr_contract.proofs.scratch.some_serial.Given as goal

abbrev pub invariant-loop-op : goal.invariant-loop-op
invariant-loop-op l = list_any serial (take l.op-index l.block) ≡ false
