use Rattle.std.proofs.Common.{◌≡◌, ◌*◌, ◌≤◌}
use Rattle.arr_cost.proofs.Idle.{saved_upto}
use Rattle.arr_cost.proofs.footprints.saved_weight.Given as goal

abbrev pub invariant-loop-index : goal.invariant-loop-index
invariant-loop-index l = record {
  value : l.sum ≡ saved_upto l.weights l.a l.b (64 * l.index);
  small : l.sum ≤ l.index * 1073741824;
  inside : l.index ≤ l.upto;
}
