use Rattle.std.proofs.Common.{◌≡◌, true}
use Rattle.std.specs.Prelude.{◌&&◌, ◌||◌, not, ◌==◌}
use Rattle.std.specs.List.{list_all, range_with_len}
use Rattle.arr_law.specs.ProblemOf.{problem_of}
use Rattle.arr_check.specs.Known.{known_of}
use Rattle.arr_law.specs.Problem.{ends_base_of}
use Rattle.arr_law.specs.declared.fact.Fact.TheVariants.{Before}
use Rattle.arr_check.proofs.steps.are_before.Given as goal

abbrev pub invariant-loop-k : goal.invariant-loop-k
invariant-loop-k l = list_all (λ u. not (ends_base_of (problem_of l.tables) u l.g && (not (u == l.f) && not (u == l.g))) || known_of (problem_of l.tables) l.known (Before u l.f)) (range_with_len 1 l.k) ≡ true
