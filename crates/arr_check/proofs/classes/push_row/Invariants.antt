use Rattle.std.proofs.Common.{◌≡◌, ◌++◌, map, take}
use Rattle.arr_view.specs.Views.{overlap}
use Rattle.arr_check.proofs.classes.push_row.Given as goal

abbrev pub invariant-loop-view : goal.invariant-loop-view
invariant-loop-view l = l.meets.items ≡ l.fn.meets.items ++ map (λ v. overlap v l.with) (take l.view-index l.views)
