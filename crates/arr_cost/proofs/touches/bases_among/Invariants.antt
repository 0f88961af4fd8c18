use Rattle.std.proofs.Common.{◌≡◌, map, take}
use Rattle.arr_view.specs.Strided.{Strided}
use Rattle.arr_cost.specs.Touches.{base_of}
use Rattle.arr_cost.proofs.touches.bases_among.Given as goal

abbrev pub invariant-loop-view : goal.invariant-loop-view
invariant-loop-view l = l.bases.items ≡ map (λ (v : Strided). base_of l.all v.base) (take l.view-index l.all)
