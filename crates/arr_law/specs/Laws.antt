-- What is promised of every formed list.
use Rattle.std.specs.Prelude.{ℕ, ◌≡◌, ◌≤◌, List, length, IsTrue}
use Rattle.arr_ops.specs.declared.op.Op.{Op}
use Rattle.arr_ops.specs.Formed.{is_formed}
use Rattle.arr_ops.specs.Plans.{is_legal, place}
use Rattle.arr_ops.specs.Costs.{cost}
use Rattle.arr_law.specs.Facts.{Facts}
use Rattle.arr_law.specs.Plans.{IsLegalAt, cost_at, blocks_of}
use Rattle.arr_law.specs.Verdict.{Reading, Yes, AtHead, answer}
use Rattle.arr_law.specs.Settled.{Settles}
use Rattle.arr_law.specs.Floor.{floor, Follows}
use Rattle.arr_law.specs.ProblemOf.{problem_of}

-- no legal plan costs less
abbrev pub IsLowerBound : List Op → ℕ → Type 0
IsLowerBound list bound = (plan : List (List ℕ)) → IsTrue (is_legal list plan) → bound ≤ cost list plan

-- the places are those of a legal plan at this cost, and no legal plan costs less than the bound
pub record IsCertified (list : List Op) (places : List ℕ) (price bound : ℕ) : Type 0 where
  pub legal : IsTrue (is_legal list (blocks_of (problem_of list) places))
  pub costs : cost list (blocks_of (problem_of list) places) ≡ price
  pub least : IsLowerBound list bound

-- a certificate that is answered yes certifies
abbrev pub YesCertifies : Type 0
YesCertifies =
    (list : List Op) (number : ℕ) (reading rest : Reading) (places : List ℕ) (price bound : ℕ) → IsTrue (is_formed list)
    → answer (problem_of list) number AtHead reading ≡ Yes places price bound rest → IsCertified list places price bound

-- a legal plan is legal, and costs the same, as a place for each operation
pub record Agrees (list : List Op) (plan : List (List ℕ)) : Type 0 where
  pub legal : IsLegalAt (problem_of list) (place plan) (length plan)
  pub costs : cost_at (problem_of list) (place plan) (length plan) ≡ cost list plan

abbrev pub PlansAgree : Type 0
PlansAgree = (list : List Op) (plan : List (List ℕ)) → IsTrue (is_formed list) → IsTrue (is_legal list plan) → Agrees list plan

-- moving each FREE to the last user of its base keeps a plan legal and never raises its cost
abbrev pub PlansSettle : Type 0
PlansSettle = (list : List Op) (at : ℕ → ℕ) (blocks : ℕ) → IsTrue (is_formed list) → IsLegalAt (problem_of list) at blocks → Settles (problem_of list) at blocks

-- no legal plan costs less than the floor under facts that the list gives
abbrev pub FloorsAreLow : Type 0
FloorsAreLow = (list : List Op) (facts : Facts) → IsTrue (is_formed list) → Follows (problem_of list) facts → IsLowerBound list (floor (problem_of list) facts)
