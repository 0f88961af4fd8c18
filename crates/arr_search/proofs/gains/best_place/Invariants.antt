use Rattle.std.proofs.Common.{◌<◌, length}
use Rattle.std.specs.Prelude.{MatchOption}
use Rattle.arr_search.proofs.gains.best_place.Given as goal

abbrev pub invariant-loop-place : goal.invariant-loop-place
invariant-loop-place l = MatchOption l.best (Unit {0}) (λ k. k < length l.pairs)
