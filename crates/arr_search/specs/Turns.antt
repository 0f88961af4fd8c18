-- What the parts of a search promise of a node.
use Rattle.std.specs.Prelude.{◌≡◌, ℕ, ◌+◌, ◌-◌, ◌<◌, ◌≤◌, true, List, [], ◌∷◌, ◌++◌, length, reverse, take}
use Rattle.arr_ops.specs.declared.op.Op.{Op}
use Rattle.arr_law.specs.declared.fact.Fact.{Fact}
use Rattle.arr_law.specs.declared.fact.Fact.TheVariants.{Apart}
use Rattle.arr_law.specs.declared.record.Record.{Record}
use Rattle.arr_law.specs.Problem.{Problem}
use Rattle.arr_law.specs.Facts.{Facts, facts_of}
use Rattle.arr_law.specs.Floor.{floor}
use Rattle.arr_law.specs.ProblemOf.{problem_of}
use Rattle.arr_law.specs.Trees.{may_branch}
use Rattle.arr_state.specs.declared.outcome.Outcome.{Outcome}
use Rattle.arr_state.specs.Known.{after}
use Rattle.arr_state.specs.States.{Saturated}
use Rattle.arr_state.specs.Steps.{Steps}
use Rattle.arr_search.specs.declared.progress.Next.{Next}
use Rattle.arr_search.specs.declared.progress.Next.TheVariants.{Split, Close}
use Rattle.arr_search.specs.declared.progress.Progress.{Progress}
use Rattle.arr_search.specs.declared.explore.Waiting.{Waiting}
use Rattle.arr_search.specs.Running.{nodes}
use Rattle.arr_search.specs.Nodes.{IsSearch, next_pending}

-- steps were appended and counted, and nothing else changed
pub record Advanced (problem : Problem) (budget : ℕ) (trail trail' : List Fact) (p p' : Progress) (outcome : Outcome) : Type 0 where
  pub saturated : Saturated problem (budget - p.units) trail trail' p.tree p'.tree outcome
  pub rest : p' ≡ record p { tree = p.tree ++ saturated.steps; units = p.units + length saturated.steps }

-- steps were appended and counted, within the budget, and nothing else changed
pub record Took (problem : Problem) (budget : ℕ) (trail trail' : List Fact) (p p' : Progress) : Type 0 where
  pub steps : List Record
  pub gives : List Fact
  pub trail_is : trail' ≡ trail ++ gives
  pub are_steps : Steps problem (facts_of problem trail) steps gives
  pub rest : p' ≡ record p { tree = p.tree ++ steps; units = p.units + length steps }
  pub within : p'.units ≤ budget

-- steps were taken at a node, where its floor was below the cost, and these facts are known now
pub record Stands (list : List Op) (budget : ℕ) (facts : Facts) (pending : List Facts) (p : Progress) : Type 0 where
  pub before : Progress
  pub first : Facts
  pub steps : List Record
  pub gives : List Fact
  pub search : IsSearch list budget (first ∷ pending) before
  pub are_steps : Steps (problem_of list) first steps gives
  pub facts_are : facts ≡ after first gives
  pub is : p ≡ record before { tree = before.tree ++ steps; units = before.units + length steps }
  pub low : floor (problem_of list) first < before.cost
  pub room : p.units ≤ budget

-- a node branches on a pair that is open there
abbrev pub MaySplit : Problem → Facts → Next → Type 0
MaySplit problem facts (Split f g) = may_branch problem facts f g ≡ true
MaySplit problem facts Close = Unit {0}

-- the node at which a search stands is worked off
pub record Settled (list : List Op) (budget : ℕ) (facts : Facts) (p p' : Progress) (next : Next) : Type 0 where
  pub within : p'.units ≤ budget
  pub opens : MaySplit (problem_of list) facts next
  pub keeps : (pending : List Facts) → Stands list budget facts pending p → IsSearch list budget (next_pending facts next pending) p'
  pub fewer : (pending : List Facts) → nodes (problem_of list) (next_pending facts next pending) < nodes (problem_of list) (facts ∷ pending)

-- the node at which a search stands is worked off, after further steps
pub record WorkedOn (list : List Op) (budget : ℕ) (trail trail' : List Fact) (p p' : Progress) (next : Next) : Type 0 where
  pub gives : List Fact
  pub trail_is : trail' ≡ trail ++ gives
  pub within : p'.units ≤ budget
  pub opens : MaySplit (problem_of list) (facts_of (problem_of list) trail') next
  pub keeps : (pending : List Facts) → Stands list budget (facts_of (problem_of list) trail) pending p
      → IsSearch list budget (next_pending (facts_of (problem_of list) trail') next pending) p'
  pub fewer : (pending : List Facts)
      → nodes (problem_of list) (next_pending (facts_of (problem_of list) trail') next pending) < nodes (problem_of list) (facts_of (problem_of list) trail ∷ pending)

-- the first node that is to come is worked off
pub record Worked (list : List Op) (budget : ℕ) (trail trail' : List Fact) (p p' : Progress) (next : Next) : Type 0 where
  pub gives : List Fact
  pub trail_is : trail' ≡ trail ++ gives
  pub within : p'.units ≤ budget
  pub opens : MaySplit (problem_of list) (facts_of (problem_of list) trail') next
  pub keeps : (pending : List Facts) → IsSearch list budget (facts_of (problem_of list) trail ∷ pending) p
      → IsSearch list budget (next_pending (facts_of (problem_of list) trail') next pending) p'
  pub fewer : (pending : List Facts)
      → nodes (problem_of list) (next_pending (facts_of (problem_of list) trail') next pending) < nodes (problem_of list) (facts_of (problem_of list) trail ∷ pending)

-- ---- the nodes that wait, from the newest on

abbrev pub waiting : Problem → List Fact → List Waiting → List Facts
waiting problem trail [] = []
waiting problem trail (w ∷ waits) = facts_of problem (take w.mark trail ++ Apart w.f w.g ∷ []) ∷ waiting problem trail waits

-- each stands below the one before it, at a pair that is open there
abbrev pub AreWaiting : Problem → List Fact → ℕ → List Waiting → Type 0
AreWaiting problem trail n [] = Unit {0}
AreWaiting problem trail n (w ∷ waits) =
    (w.mark ≤ n) × (may_branch problem (facts_of problem (take w.mark trail)) w.f w.g ≡ true) × AreWaiting problem trail w.mark waits

-- all nodes that are to come
abbrev pub pending_at : Problem → List Fact → List Waiting → List Facts
pending_at problem trail waits = facts_of problem trail ∷ waiting problem trail (reverse waits)
