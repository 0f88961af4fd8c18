use Rattle.std.proofs.Common.{◌≡◌, true}
use Rattle.std.specs.Prelude.{◌||◌, not, nat_le}
use Rattle.std.specs.List.{list_all, range_with_len}
use Rattle.arr_law.specs.ProblemOf.{problem_of}
use Rattle.arr_law.specs.Plans.{place_in}
use Rattle.arr_law.specs.Problem.{is_pair}
use Rattle.arr_check.proofs.plan.stands_rightly.Given as goal

abbrev pub invariant-loop-k : goal.invariant-loop-k
invariant-loop-k l = list_all (λ g. not (is_pair (problem_of l.tables) l.f g) || (not ((problem_of l.tables).dep l.f g) || nat_le (place_in l.places l.f) (place_in l.places g))) (range_with_len 1 l.k) ≡ true
