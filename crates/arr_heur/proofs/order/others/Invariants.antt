use Rattle.std.proofs.Common.{◌≡◌, ◌<◌, take, length}
use Rattle.std.specs.List.{All}
use Rattle.arr_heur.specs.Partitions.{lists_of, others}
use Rattle.arr_heur.proofs.order.others.Given as goal

abbrev pub invariant-loop-other : goal.invariant-loop-other
invariant-loop-other l = record {
  value : l.kept.items ≡ others (lists_of l.blocks) (take l.other-index l.left) l.place;
  below : All (λ k. k < length l.blocks) l.kept.items;
}
