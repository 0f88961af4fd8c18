-- What a search keeps true of its records and its plan, and what is known at a node.
use Rattle.std.specs.Prelude.{◌≡◌, ℕ, ◌<◌, ◌≤◌, ◌⊎◌, true, false, Bool, ◌&&◌, ◌==◌, List, ◌∷◌, length, IsTrue, MatchOption, Option}
use Rattle.std.specs.List.{list_all}
use Rattle.arr_ops.specs.declared.op.Op.{Op}
use Rattle.arr_ops.specs.Formed.{is_formed}
use Rattle.arr_ops.specs.Plans.{is_legal, place}
use Rattle.arr_ops.specs.Costs.{cost}
use Rattle.arr_law.specs.declared.fact.Fact.{Fact}
use Rattle.arr_law.specs.declared.fact.Fact.TheVariants.{Same, Apart}
use Rattle.arr_law.specs.declared.record.Record.{Record}
use Rattle.arr_law.specs.Problem.{Problem, is_pair}
use Rattle.arr_law.specs.Facts.{Facts, with_fact, root_facts}
use Rattle.arr_law.specs.Floor.{Within, IsClosed, IsSymmetric}
use Rattle.arr_law.specs.ProblemOf.{problem_of}
use Rattle.arr_law.specs.Trees.{may_branch}
use Rattle.arr_law.specs.Verdict.{is_tree_record}
use Rattle.arr_cert.specs.Texts.{is_spelled, is_short}
use Rattle.arr_heur.specs.Planners.{greedy_plan}
use Rattle.arr_state.specs.Known.{AreOps}
use Rattle.arr_state.specs.States.{IsConsistent}
use Rattle.arr_search.specs.declared.progress.Next.{Next}
use Rattle.arr_search.specs.declared.progress.Next.TheVariants.{Split, Close}
use Rattle.arr_search.specs.declared.progress.Progress.{Progress}
use Rattle.arr_search.specs.Steps.{IsPlain}
use Rattle.arr_search.specs.Running.{Running}

-- ---- what is known at a node

pub record IsNode (problem : Problem) (facts : Facts) : Type 0 where
  pub roots : Within (root_facts problem) facts
  pub even : IsSymmetric facts
  pub plain : IsPlain facts

-- no rule gives a new fact, and no plan is ruled out
pub record IsSettledNode (problem : Problem) (facts : Facts) : Type 0 where
  pub node : IsNode problem facts
  pub closed : IsClosed problem facts
  pub consistent : IsConsistent facts
  pub about : (x : Fact) → IsTrue (facts x) → AreOps problem x

-- it is known of each two operations whether they share a block
abbrev pub IsDecided : Problem → Facts → Type 0
IsDecided problem facts = (f g : ℕ) → may_branch problem facts f g ≡ false

-- no operation of the list is one with which a node may branch on f
abbrev pub HasNoPartner : List Op → Facts → ℕ → Type 0
HasNoPartner list facts f = (g : ℕ) → g ≤ length list → may_branch (problem_of list) facts f g ≡ false

-- a pair on which a node may branch; none only where it is decided
abbrev pub MayPick : Problem → Facts → Option (ℕ × ℕ) → Type 0
MayPick problem facts pair = MatchOption pair (IsDecided problem facts) (λ p. may_branch problem facts p.0 p.1 ≡ true)

-- a legal plan in which two operations share a block exactly where that is known
pub record IsPlanOf (list : List Op) (facts : Facts) (plan : List (List ℕ)) : Type 0 where
  pub legal : IsTrue (is_legal list plan)
  pub shared : (f g : ℕ) → IsTrue (is_pair (problem_of list) f g) → (place plan f == place plan g) ≡ facts (Same f g)

-- ---- what a search has so far

-- greedy's plan, or a legal plan that costs less, with its cost
pub record IsPlanned (list : List Op) (plan : List (List ℕ)) (price : ℕ) : Type 0 where
  pub legal : IsTrue (is_legal list plan)
  pub cost_is : price ≡ cost list plan
  pub improves : (plan ≡ greedy_plan list) ⊎ (price < cost list (greedy_plan list))

-- a record of a tree that can be written
abbrev pub is_written : Record → Bool
is_written r = (is_spelled r && is_short r) && is_tree_record r

-- the nodes that are to come know these facts
pub record IsSearch (list : List Op) (budget : ℕ) (pending : List Facts) (p : Progress) : Type 0 where
  pub formed : IsTrue (is_formed list)
  pub few : length list ≤ 256
  pub running : Running (problem_of list) (cost list (greedy_plan list)) budget pending p.tree p.units p.least p.cost
  pub planned : IsPlanned list p.plan p.cost
  pub written : list_all is_written p.tree ≡ true

-- whatever it was a search of, it still is one
abbrev pub StaysSearch : List Op → Progress → Progress → Type 0
StaysSearch list p p' = (budget : ℕ) (pending : List Facts) → IsSearch list budget pending p → IsSearch list budget pending p'

-- the nodes behind a node: two after a branch, none after a leaf
abbrev pub next_pending : Facts → Next → List Facts → List Facts
next_pending facts (Split f g) pending = with_fact (Same f g) facts ∷ with_fact (Apart f g) facts ∷ pending
next_pending facts Close pending = pending
