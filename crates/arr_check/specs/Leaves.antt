-- The groups of a leaf.
use Rattle.std.specs.Prelude.{Bool, ◌==◌, List, not}
use Rattle.arr_ops.specs.Formed.{all_pairs}
use Rattle.arr_law.specs.declared.charge.Charge.{Charge}
use Rattle.arr_law.specs.Leaves.{class_of}
use Rattle.arr_law.specs.Problem.{Problem}

-- no two are of one class
abbrev pub classes_differ : Problem → List Charge → Bool
classes_differ problem charges = all_pairs (λ (a b : Charge). not (class_of problem a == class_of problem b)) charges
