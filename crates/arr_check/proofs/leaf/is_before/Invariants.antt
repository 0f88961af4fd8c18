use Rattle.std.proofs.Common.{◌≡◌, drop}
use Rattle.std.specs.Prelude.{◌&&◌, nat_lt}
use Rattle.std.specs.List.{list_all}
use Rattle.arr_law.specs.ProblemOf.{problem_of}
use Rattle.arr_check.specs.Known.{known_of}
use Rattle.arr_law.specs.declared.fact.Fact.TheVariants.{Apart}
use Rattle.arr_check.proofs.leaf.is_before.Given as goal

abbrev pub invariant-loop-at : goal.invariant-loop-at
invariant-loop-at l = list_all (λ g. nat_lt l.f g && known_of (problem_of l.tables) l.known (Apart l.f g)) (drop l.at l.ops) ≡ list_all (λ g. nat_lt l.f g && known_of (problem_of l.tables) l.known (Apart l.f g)) (drop l.from l.ops)
