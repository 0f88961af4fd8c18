use Rattle.std.proofs.Common.{◌≡◌, drop}
use Rattle.std.specs.Prelude.{not, ◌==◌}
use Rattle.arr_law.specs.ProblemOf.{problem_of}
use Rattle.arr_law.specs.Leaves.{class_of}
use Rattle.arr_ops.specs.Formed.{all_pairs}
use Rattle.arr_law.specs.declared.charge.Charge.{Charge}
use Rattle.arr_check.proofs.leaf.are_different.Given as goal

abbrev pub invariant-loop-at : goal.invariant-loop-at
invariant-loop-at l = all_pairs (λ (a b : Charge). not (class_of (problem_of l.tables) a == class_of (problem_of l.tables) b)) (drop l.at l.charges) ≡ all_pairs (λ (a b : Charge). not (class_of (problem_of l.tables) a == class_of (problem_of l.tables) b)) l.charges
