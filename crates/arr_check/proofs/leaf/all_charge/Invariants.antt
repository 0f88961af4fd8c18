use Rattle.std.proofs.Common.{◌≡◌, true, take}
use Rattle.std.specs.List.{list_all}
use Rattle.arr_law.specs.ProblemOf.{problem_of}
use Rattle.arr_check.specs.Known.{known_of}
use Rattle.arr_law.specs.Leaves.{surely_charges}
use Rattle.arr_check.proofs.leaf.all_charge.Given as goal

abbrev pub invariant-loop-at : goal.invariant-loop-at
invariant-loop-at l = list_all (λ f. surely_charges (problem_of l.tables) (known_of (problem_of l.tables) l.known) f l.c) (take l.at l.ops) ≡ true
