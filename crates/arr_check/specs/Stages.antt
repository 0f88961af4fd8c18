-- What the checker keeps between two records, and what it makes of one.
use Rattle.std.specs.Prelude.{◌≡◌, ℕ, Bool, true, false, List, [], Some, None, Result, Ok, Err}
use Rattle.arr_law.specs.declared.record.Record.{Record}
use Rattle.arr_law.specs.declared.reject.Reject.{Reject}
use Rattle.arr_law.specs.Problem.{Problem}
use Rattle.arr_law.specs.Plans.{price}
use Rattle.arr_law.specs.Verdict.{State, AtHead, AtPlan, AtCost, AtBound, AtTree, Finished, after, record_fault}
use Rattle.arr_check.specs.declared.stages.Stage.{Stage}
use Rattle.arr_check.specs.declared.stages.Stage.TheVariants as stage
use Rattle.arr_check.specs.declared.tree.Tree.{Tree}
use Rattle.arr_check.specs.Steps.{IsFresh, pending}

-- what is kept stands for this state
abbrev pub IsAt : Problem → Stage → Tree → State → Type 0
IsAt problem stage.Head tree AtHead = IsFresh problem tree
IsAt problem (stage.Plan v) tree (AtPlan w) = (v ≡ w) × IsFresh problem tree
IsAt problem (stage.Cost v p) tree (AtCost w places) = (v ≡ w) × (p ≡ price problem places) × IsFresh problem tree
IsAt problem (stage.Bound v c) tree (AtBound w places d) = (v ≡ w) × (c ≡ d) × IsFresh problem tree
IsAt problem (stage.Tree v c b) tree (AtTree w places d e facts) = (v ≡ w) × (c ≡ d) × (b ≡ e) × (pending problem tree ≡ facts)
IsAt problem (stage.Done c b) tree (Finished places d e) = (c ≡ d) × (b ≡ e)
IsAt problem _ tree _ = ⊥

-- a record is wrong in this state, or what is kept stands for the next
abbrev pub Turns : Problem → ℕ → State → Tree → Record → Result Stage Reject → Type 0
Turns problem number s tree r (Ok next) = (record_fault problem number s r ≡ None) × IsAt problem next tree (after problem s r)
Turns problem number s tree r (Err kind) = record_fault problem number s r ≡ Some kind

-- records are still to come
abbrev pub is_ready : Stage → Bool
is_ready (stage.Done c b) = false
is_ready _ = true

-- so before any record of the tree
abbrev pub TurnsFresh : Problem → ℕ → State → Record → Result Stage Reject → Type 0
TurnsFresh problem number s r next = (tree : Tree) → IsFresh problem tree → Turns problem number s tree r next

-- so behind the plan, of which the price is kept
abbrev pub TurnsCost : ℕ → ℕ → Record → Result Stage Reject → Type 0
TurnsCost version spent r next =
    (problem : Problem) (number : ℕ) (tree : Tree) (places : List ℕ) → IsFresh problem tree → spent ≡ price problem places → Turns problem number (AtCost version places) tree r next

-- so behind the cost
abbrev pub TurnsBound : ℕ → ℕ → Record → Result Stage Reject → Type 0
TurnsBound version cost r next = (problem : Problem) (number : ℕ) (tree : Tree) (places : List ℕ) → IsFresh problem tree → Turns problem number (AtBound version places cost) tree r next

-- so behind a whole tree
abbrev pub TurnsWhole : ℕ → ℕ → Record → Result Stage Reject → Type 0
TurnsWhole cost bound r next = (problem : Problem) (number version : ℕ) (tree : Tree) (places : List ℕ) → Turns problem number (AtTree version places cost bound []) tree r next

-- so in a tree, which goes on
abbrev pub TurnsTree : Problem → ℕ → ℕ → ℕ → Tree → Tree → Record → Result Stage Reject → Type 0
TurnsTree problem version cost bound old new r next = (number : ℕ) (places : List ℕ) → Turns problem number (AtTree version places cost bound (pending problem old)) new r next

-- so in each state that what is kept stands for
abbrev pub TurnsAt : Problem → ℕ → Stage → Tree → Tree → Record → Result Stage Reject → Type 0
TurnsAt problem number stage old new r next = (s : State) → IsAt problem stage old s → Turns problem number s new r next
