use Rattle.std.proofs.Common.{◌≡◌, false, take}
use Rattle.std.specs.List.{list_any}
use Rattle.arr_view.specs.Views.{identical}
use Rattle.arr_check.proofs.classes.Classes.class.Given as goal

abbrev pub invariant-loop-at : goal.invariant-loop-at
invariant-loop-at l = list_any (identical l.view) (take l.at l.self) ≡ false
