use Rattle.std.proofs.Common.{◌≡◌, drop}
use Rattle.std.specs.Prelude.{not, ◌==◌}
use Rattle.std.specs.List.{list_all}
use Rattle.arr_law.specs.ProblemOf.{problem_of}
use Rattle.arr_law.specs.Leaves.{class_of}
use Rattle.arr_law.specs.declared.charge.Charge.{Charge}
use Rattle.arr_check.proofs.leaf.is_alone.Given as goal

abbrev pub invariant-loop-at : goal.invariant-loop-at
invariant-loop-at l = list_all (λ (b : Charge). not (l.class == class_of (problem_of l.tables) b)) (drop l.at l.charges) ≡ list_all (λ (b : Charge). not (l.class == class_of (problem_of l.tables) b)) (drop l.from l.charges)
