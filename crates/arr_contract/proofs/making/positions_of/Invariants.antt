use Rattle.std.proofs.Common.{◌≡◌, drop}
use Rattle.arr_strips.specs.Blocks.{block_positions}
use Rattle.arr_contract.proofs.making.positions_of.Given as goal

abbrev pub invariant-loop-op : goal.invariant-loop-op
invariant-loop-op l = block_positions (drop l.op-index l.ops) ≡ block_positions l.ops
