-- What tells reach in a partition, and what merging does to it.
use Rattle.std.specs.Prelude.{Bool, ◌≡◌, List, ℕ, IsTrue, ◌&&◌, not, ◌<◌}
use Rattle.std.specs.List.{list_any}
use Rattle.arr_ops.specs.declared.op.Op.{Op}
use Rattle.arr_ops.specs.Ops.{fusible}
use Rattle.arr_ops.specs.Formed.{all_pairs}
use Rattle.arr_ops.specs.Plans.{numbered, ops_of}
use Rattle.arr_ops.specs.Order.{In, is_orderable, is_partition, leads, least_of}
use Rattle.arr_heur.specs.Planners.{merge, union}
use Rattle.arr_greedy.specs.Ways.{IsReach, lies_between, reach_after}

-- R tells which block of a partition reaches which
abbrev pub TellsReach : List Op → List (List ℕ) → (List ℕ → List ℕ → Bool) → Type 0
TellsReach list blocks R = IsReach least_of (leads (numbered list)) (λ c. In c blocks) R

-- two blocks may be merged where all their operations may share a block, and no third block lies on a way between them
abbrev pub MergesByReach : Type 0
MergesByReach =
    (list : List Op) (blocks : List (List ℕ)) (R : List ℕ → List ℕ → Bool) (a b : List ℕ) → IsTrue (is_partition list blocks && is_orderable list blocks) → TellsReach list blocks R
    → In a blocks → In b blocks → least_of a < least_of b
    → is_orderable list (merge (numbered list) a b blocks)
    ≡ (all_pairs fusible (ops_of (numbered list) (union (numbered list) a b)) && not (list_any (lies_between least_of R a b) blocks))

-- and what reaches what then
abbrev pub ReachAfterMerge : Type 0
ReachAfterMerge =
    (list : List Op) (blocks : List (List ℕ)) (R : List ℕ → List ℕ → Bool) (a b : List ℕ) → IsTrue (is_partition list blocks && is_orderable list blocks) → TellsReach list blocks R
    → In a blocks → In b blocks → least_of a < least_of b → IsTrue (is_orderable list (merge (numbered list) a b blocks))
    → TellsReach list (merge (numbered list) a b blocks) (reach_after least_of R a b)
