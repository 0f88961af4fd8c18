use Rattle.std.proofs.Common.{◌≡◌, false, take}
use Rattle.std.specs.List.{list_any}
use Rattle.arr_deps.specs.Graph.{leads_to}
use Rattle.arr_heur.proofs.order.leads_some.Given as goal

abbrev pub invariant-loop-g : goal.invariant-loop-g
invariant-loop-g l = list_any (leads_to l.graph l.f) (take l.g-index l.block) ≡ false
