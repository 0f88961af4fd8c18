use Rattle.std.proofs.Common.{◌≡◌, take}
use Rattle.arr_check.specs.Classed.{firsts}
use Rattle.arr_check.proofs.classes.distinct.Given as goal

abbrev pub invariant-loop-view : goal.invariant-loop-view
invariant-loop-view l = l.found.items ≡ firsts (take l.view-index l.views)
