use Rattle.std.proofs.Common.{◌≡◌}
use Rattle.std.specs.Prelude.{◌==◌}
use Rattle.std.specs.List.{filter, range_with_len}
use Rattle.arr_law.specs.Plans.{place_in}
use Rattle.arr_search.proofs.parts.with_label.Given as goal

abbrev pub invariant-loop-place : goal.invariant-loop-place
invariant-loop-place l = l.block.items ≡ filter (λ f. place_in l.labels f == l.label) (range_with_len 1 l.place)
