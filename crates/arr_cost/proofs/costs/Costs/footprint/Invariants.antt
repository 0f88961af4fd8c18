use Rattle.std.proofs.Common.{take}
use Rattle.arr_cost.specs.Footprints.{IsFootprint}
use Rattle.arr_cost.proofs.costs.Costs.footprint.Given as goal

abbrev pub invariant-loop-place : goal.invariant-loop-place
invariant-loop-place l = IsFootprint l.self (take l.place l.block) l.print
