use Rattle.std.proofs.Common.{◌≡◌, false, take}
use Rattle.std.specs.List.{list_any}
use Rattle.arr_deps.specs.Graph.{leads_to}
use Rattle.arr_heur.proofs.order.leads_any.Given as goal

abbrev pub invariant-loop-f : goal.invariant-loop-f
invariant-loop-f l = list_any (λ f. list_any (leads_to l.graph f) l.other) (take l.f-index l.block) ≡ false
