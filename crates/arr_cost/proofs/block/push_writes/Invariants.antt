use Rattle.std.proofs.Common.{◌≡◌, ◌++◌, take, not}
use Rattle.std.specs.List.{filter, flat_map}
use Rattle.arr_ops.specs.declared.op.Op.{Op}
use Rattle.arr_view.specs.Strided.{Strided}
use Rattle.arr_ops.specs.Ops.{freed_by, outputs}
use Rattle.arr_cost.proofs.block.push_writes.Given as goal

abbrev pub invariant-loop-op : goal.invariant-loop-op
invariant-loop-op l = l.found.items ≡ l.fn.found.items ++ flat_map (λ (op : Op). filter (λ (v : Strided). not (freed_by l.block v.base)) (outputs op)) (take l.op-index l.block)
