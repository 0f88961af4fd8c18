use Rattle.std.proofs.Common.{◌≡◌, drop}
use Rattle.std.specs.Prelude.{◌&&◌, nat_lt}
use Rattle.arr_law.specs.ProblemOf.{problem_of}
use Rattle.arr_check.specs.Known.{known_of}
use Rattle.arr_law.specs.declared.fact.Fact.TheVariants.{Apart}
use Rattle.arr_ops.specs.Formed.{all_pairs}
use Rattle.arr_check.proofs.leaf.stand_apart.Given as goal

abbrev pub invariant-loop-at : goal.invariant-loop-at
invariant-loop-at l = all_pairs (λ f g. nat_lt f g && known_of (problem_of l.tables) l.known (Apart f g)) (drop l.at l.ops) ≡ all_pairs (λ f g. nat_lt f g && known_of (problem_of l.tables) l.known (Apart f g)) l.ops
