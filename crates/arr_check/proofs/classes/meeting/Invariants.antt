use Rattle.std.proofs.Common.{◌≡◌, map, take}
use Rattle.std.specs.List.{flat_map}
use Rattle.arr_view.specs.Views.{overlap}
use Rattle.arr_check.proofs.classes.meeting.Given as goal

abbrev pub invariant-loop-view : goal.invariant-loop-view
invariant-loop-view l = l.meets.items ≡ flat_map (λ w. map (λ v. overlap v w) l.views) (take l.view-index l.views)
