use Rattle.std.proofs.Common.{◌≡◌, suc, map}
use Rattle.std.specs.List.{range_with_len}
use Rattle.arr_ops.specs.Plans.{place}
use Rattle.arr_search.proofs.places.places_of.Given as goal

abbrev pub invariant-loop-f : goal.invariant-loop-f
invariant-loop-f l = l.places ≡ map (λ f. suc (place l.plan f)) (range_with_len 1 l.f)
