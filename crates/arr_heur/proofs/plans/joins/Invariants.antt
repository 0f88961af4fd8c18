use Rattle.std.proofs.Common.{◌≡◌, true}
use Rattle.std.specs.List.{list_all}
use Rattle.arr_ops.specs.Plans.{numbered}
use Rattle.arr_heur.specs.Segments.{segment}
use Rattle.arr_heur.proofs.Stretches.{fits_at}
use Rattle.arr_heur.proofs.plans.joins.Given as goal

abbrev pub invariant-loop-f : goal.invariant-loop-f
invariant-loop-f l = list_all (fits_at l.graph l.place) (segment (numbered l.graph) l.start l.f) ≡ true
