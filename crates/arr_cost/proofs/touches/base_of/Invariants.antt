use Rattle.std.proofs.Common.{◌≡◌, ◌+◌, drop}
use Rattle.std.specs.List.{position_or_len}
use Rattle.std.specs.Prelude.{◌==◌}
use Rattle.arr_view.specs.Strided.{Strided}
use Rattle.arr_cost.proofs.touches.base_of.Given as goal

abbrev pub invariant-loop-place : goal.invariant-loop-place
invariant-loop-place l = l.place + position_or_len (λ (u : Strided). u.base == l.base) (drop l.place l.all) ≡ position_or_len (λ (u : Strided). u.base == l.base) l.all
