use Rattle.std.proofs.Common.{◌≡◌, map, take}
use Rattle.std.specs.List.{filter, flat_map}
use Rattle.arr_view.specs.Strided.{Strided}
use Rattle.arr_ops.specs.declared.op.Op.{Op}
use Rattle.arr_ops.specs.Ops.{freed_by, outputs}
use Rattle.arr_contract.proofs.contracted.contracted.Given as goal

abbrev pub invariant-loop-op : goal.invariant-loop-op
invariant-loop-op l = l.found.items ≡ flat_map (λ (op : Op). filter (freed_by l.block) (map (λ (o : Strided). o.base) (filter (λ _. op.makes) (outputs op)))) (take l.op-index l.block)
