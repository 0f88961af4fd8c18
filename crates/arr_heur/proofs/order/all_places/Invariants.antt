use Rattle.std.proofs.Common.{◌≡◌, ◌<◌}
use Rattle.std.specs.List.{All, range_with_len}
use Rattle.arr_heur.proofs.order.all_places.Given as goal

abbrev pub invariant-loop-place : goal.invariant-loop-place
invariant-loop-place l = record {
  value : l.places.items ≡ range_with_len 0 l.place;
  below : All (λ k. k < l.count) l.places.items;
}
