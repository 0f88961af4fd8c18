use Rattle.std.proofs.Common.{◌≡◌, false}
use Rattle.std.specs.Prelude.{◌&&◌, ◌==◌}
use Rattle.std.specs.List.{list_any, range_with_len}
use Rattle.arr_law.specs.ProblemOf.{problem_of}
use Rattle.arr_check.specs.Places.{spot}
use Rattle.arr_check.proofs.plan.writes_there.Given as goal

abbrev pub invariant-loop-k : goal.invariant-loop-k
invariant-loop-k l = list_any (λ f. (spot l.places f == l.block) && (problem_of l.tables).writes f l.c) (range_with_len 1 l.k) ≡ false
