use Rattle.std.proofs.Common.{◌≡◌, true}
use Rattle.std.specs.Prelude.{◌||◌, not, ◌==◌}
use Rattle.std.specs.List.{list_all, range_with_len}
use Rattle.arr_law.specs.ProblemOf.{problem_of}
use Rattle.arr_law.specs.Plans.{place_in}
use Rattle.arr_law.specs.Problem.{is_pair}
use Rattle.arr_search.proofs.parts.may_share_all.Given as goal

abbrev pub invariant-loop-k : goal.invariant-loop-k
invariant-loop-k l = list_all (λ g. not (is_pair (problem_of l.graph) l.f g) || (not (place_in l.labels l.f == place_in l.labels g) || (problem_of l.graph).fusible l.f g)) (range_with_len 1 l.k) ≡ true
