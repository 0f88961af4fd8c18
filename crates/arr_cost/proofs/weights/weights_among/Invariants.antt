use Rattle.std.proofs.Common.{◌≡◌, ◌≤◌, map, take}
use Rattle.std.specs.List.{All}
use Rattle.arr_ops.specs.Costs.{weight}
use Rattle.arr_cost.proofs.weights.weights_among.Given as goal

abbrev pub invariant-loop-view : goal.invariant-loop-view
invariant-loop-view l = record {
  value : l.weights.items ≡ map (weight l.ops) (take l.view-index l.all);
  small : All (λ w. w ≤ 8388608) l.weights.items;
}
