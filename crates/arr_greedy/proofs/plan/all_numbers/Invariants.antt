use Rattle.std.proofs.Common.{◌≡◌, ◌<◌, ◌+◌}
use Rattle.std.specs.List.{All, range_with_len}
use Rattle.arr_greedy.proofs.plan.all_numbers.Given as goal

abbrev pub invariant-loop-place : goal.invariant-loop-place
invariant-loop-place l = record {
  value : l.numbers.items ≡ range_with_len 1 l.place;
  below : All (λ k. k < l.count + 1) l.numbers.items;
}
