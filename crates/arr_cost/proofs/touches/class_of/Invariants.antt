use Rattle.std.proofs.Common.{◌≡◌, ◌+◌, drop}
use Rattle.std.specs.List.{position_or_len}
use Rattle.arr_view.specs.Views.{identical}
use Rattle.arr_cost.proofs.touches.class_of.Given as goal

abbrev pub invariant-loop-place : goal.invariant-loop-place
invariant-loop-place l = l.place + position_or_len (identical l.view) (drop l.place l.all) ≡ position_or_len (identical l.view) l.all
