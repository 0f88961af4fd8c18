-- Partitions by labels, and the plans that they make.
use Rattle.std.specs.Prelude.{ℕ, List, Bool, cond, length, map, Option, None, ◌==◌, ◌||◌, [], ◌∷◌, not}
use Rattle.std.specs.List.{filter, position_or_len, range_with_len}
use Rattle.arr_ops.specs.declared.op.Op.{Op}
use Rattle.arr_ops.specs.Plans.{not_empty}
use Rattle.arr_ops.specs.Order.{ordered}
use Rattle.arr_law.specs.declared.fact.Fact.TheVariants.{Same}
use Rattle.arr_law.specs.Problem.{Problem, is_pair, operations}
use Rattle.arr_law.specs.Facts.{Facts}
use Rattle.arr_law.specs.Plans.{is_together, place_in}
use Rattle.arr_law.specs.ProblemOf.{problem_of}

-- the operations with a label, where the list has a label for each
abbrev pub with_label : List ℕ → ℕ → List ℕ
with_label labels k = filter (λ f. place_in labels f == k) (range_with_len 1 (length labels))

-- for each label that is used its operations
abbrev pub parts : List ℕ → List (List ℕ)
parts labels = filter not_empty (map (with_label labels) (range_with_len 0 (length labels)))

-- a block, unless it is empty
abbrev pub if_some : List ℕ → List (List ℕ)
if_some block = cond (not_empty block) (block ∷ []) []

-- two operations differ in their labels, or may share a block
abbrev pub may_share : Problem → List ℕ → ℕ → ℕ → Bool
may_share problem labels f g = not (is_pair problem f g) || (not (place_in labels f == place_in labels g) || problem.fusible f g)

-- the plan whose blocks are these, where one is legal
abbrev pub plan_by : List Op → List ℕ → Option (List (List ℕ))
plan_by list labels = cond (is_together (problem_of list) labels) (ordered list (parts labels)) None

-- how many operations stand before the first that is known to share the block of f
abbrev pub label_of : Problem → Facts → ℕ → ℕ
label_of problem facts f = position_or_len (λ h. (h == f) || facts (Same h f)) (operations problem)

abbrev pub labels_of : Problem → Facts → List ℕ
labels_of problem facts = map (label_of problem facts) (operations problem)
