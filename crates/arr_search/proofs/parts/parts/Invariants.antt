use Rattle.std.proofs.Common.{◌≡◌, map}
use Rattle.std.specs.List.{filter, range_with_len}
use Rattle.arr_ops.specs.Plans.{not_empty}
use Rattle.arr_search.specs.Parts.{with_label}
use Rattle.arr_search.proofs.parts.parts.Given as goal

abbrev pub invariant-loop-label : goal.invariant-loop-label
invariant-loop-label l = map (λ b. b.items) l.blocks.items ≡ filter not_empty (map (with_label l.labels) (range_with_len 0 l.label))
