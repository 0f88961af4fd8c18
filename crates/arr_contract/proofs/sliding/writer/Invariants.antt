use Rattle.std.proofs.Common.{◌≡◌, drop}
use Rattle.arr_contract.specs.Prepared.{writer}
use Rattle.arr_contract.proofs.sliding.writer.Given as goal

abbrev pub invariant-loop-op : goal.invariant-loop-op
invariant-loop-op l = writer (drop l.op-index l.ops) ≡ writer l.ops
