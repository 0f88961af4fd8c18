use Rattle.std.proofs.Common.{◌≡◌, ◌||◌}
use Rattle.std.specs.List.{filter, range_with_len}
use Rattle.arr_view.specs.Views.{has}
use Rattle.arr_greedy.proofs.merging.union_of.Given as goal

abbrev pub invariant-loop-place : goal.invariant-loop-place
invariant-loop-place l = l.both.items ≡ filter (λ i. has l.left i || has l.right i) (range_with_len 1 l.place)
