use Rattle.std.proofs.Common.{◌≡◌, ℕ, [], ◌<◌, false, get_or}
use Rattle.arr_view.specs.Views.{has}
use Rattle.arr_search.proofs.places.place_of.Given as goal

abbrev pub invariant-loop-place : goal.invariant-loop-place
invariant-loop-place l = (k : ℕ) → k < l.place → has (get_or l.plan k []) l.f ≡ false
