use Rattle.std.proofs.Common.{◌≡◌, ◌+◌, ◌*◌, ◌≤◌, drop, map}
use Rattle.arr_ops.specs.Costs.{block_cost, total}
use Rattle.arr_cost.proofs.costs.Costs.cost.Given as goal

abbrev pub invariant-loop-block : goal.invariant-loop-block
invariant-loop-block l = record {
  value : l.sum + total (block_cost l.self) (drop l.block-index (map (λ b. b.items) l.block-items)) ≡ total (block_cost l.self) (map (λ b. b.items) l.block-items);
  small : l.sum ≤ l.block-index * 6467616768;
}
