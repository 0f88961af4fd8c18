use Rattle.std.proofs.Common.{◌≡◌, not, take}
use Rattle.std.specs.List.{filter}
use Rattle.arr_num.specs.Kinds.{is_reduction}
use Rattle.arr_ops.specs.declared.op.Op.{Op}
use Rattle.arr_contract.proofs.storing.walked.Given as goal

abbrev pub invariant-loop-op : goal.invariant-loop-op
invariant-loop-op l = l.found.items ≡ filter (λ (op : Op). not (is_reduction op.code)) (take l.op-index l.block)
