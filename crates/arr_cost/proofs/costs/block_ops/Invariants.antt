use Rattle.std.proofs.Common.{◌≡◌, take}
use Rattle.arr_ops.specs.Plans.{numbered, ops_of}
use Rattle.arr_cost.proofs.costs.block_ops.Given as goal

abbrev pub invariant-loop-place : goal.invariant-loop-place
invariant-loop-place l = l.found.items ≡ ops_of (take l.place (numbered l.ops)) l.block
