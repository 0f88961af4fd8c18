-- A stage stands for one kind of state.
use Rattle.std.proofs.Common.{◌≡◌, ℕ, List, Result, subst}
use Rattle.arr_law.specs.declared.record.Record.{Record}
use Rattle.arr_law.specs.declared.reject.Reject.{Reject}
use Rattle.arr_law.specs.Plans.{price}
use Rattle.arr_law.specs.Problem.{Problem}
use Rattle.arr_law.specs.Verdict.{State, AtHead, AtPlan, AtCost, AtBound, AtTree, Finished}
use Rattle.arr_check.specs.declared.stages.Stage.{Stage}
use Rattle.arr_check.specs.declared.stages.Stage.TheVariants as stage
use Rattle.arr_check.specs.declared.tree.Tree.{Tree}
use Rattle.arr_check.specs.Steps.{IsFresh}
use Rattle.arr_check.specs.Stages.{IsAt, Turns}

module _ (P : Problem) (number : ℕ) (tree : Tree) (r : Record) (result : Result Stage Reject) where
  plan_at : (v : ℕ) (s : State) → (IsFresh P tree → Turns P number (AtPlan v) tree r result) → IsAt P (stage.Plan v) tree s → Turns P number s tree r result
  plan_at v AtHead h at = absurd at
  plan_at v (AtPlan w) h at = subst (λ k. Turns P number (AtPlan k) tree r result) at.0 (h at.1)
  plan_at v (AtCost w places) h at = absurd at
  plan_at v (AtBound w places c) h at = absurd at
  plan_at v (AtTree w places c b facts) h at = absurd at
  plan_at v (Finished places c b) h at = absurd at

  pub at_plan : (k : Stage) (v : ℕ) → k ≡ stage.Plan v → (IsFresh P tree → Turns P number (AtPlan v) tree r result) → (s : State) → IsAt P k tree s → Turns P number s tree r result
  at_plan k v e h s at = plan_at v s h (subst (λ (j : Stage). IsAt P j tree s) e at)

  cost_at : (v p : ℕ) (s : State) → ((places : List ℕ) → IsFresh P tree → p ≡ price P places → Turns P number (AtCost v places) tree r result) → IsAt P (stage.Cost v p) tree s → Turns P number s tree r result
  cost_at v p AtHead h at = absurd at
  cost_at v p (AtPlan w) h at = absurd at
  cost_at v p (AtCost w places) h at = subst (λ k. Turns P number (AtCost k places) tree r result) at.0 (h places at.2 at.1)
  cost_at v p (AtBound w places c) h at = absurd at
  cost_at v p (AtTree w places c b facts) h at = absurd at
  cost_at v p (Finished places c b) h at = absurd at

  pub at_cost : (k : Stage) (v p : ℕ) → k ≡ stage.Cost v p → ((places : List ℕ) → IsFresh P tree → p ≡ price P places → Turns P number (AtCost v places) tree r result) → (s : State) → IsAt P k tree s → Turns P number s tree r result
  at_cost k v p e h s at = cost_at v p s h (subst (λ (j : Stage). IsAt P j tree s) e at)

  bound_at : (v c : ℕ) (s : State) → ((places : List ℕ) → IsFresh P tree → Turns P number (AtBound v places c) tree r result) → IsAt P (stage.Bound v c) tree s → Turns P number s tree r result
  bound_at v c AtHead h at = absurd at
  bound_at v c (AtPlan w) h at = absurd at
  bound_at v c (AtCost w places) h at = absurd at
  bound_at v c (AtBound w places d) h at = subst (λ k. Turns P number (AtBound w places k) tree r result) at.1 (subst (λ k. Turns P number (AtBound k places c) tree r result) at.0 (h places at.2))
  bound_at v c (AtTree w places d b facts) h at = absurd at
  bound_at v c (Finished places d b) h at = absurd at

  pub at_bound : (k : Stage) (v c : ℕ) → k ≡ stage.Bound v c → ((places : List ℕ) → IsFresh P tree → Turns P number (AtBound v places c) tree r result) → (s : State) → IsAt P k tree s → Turns P number s tree r result
  at_bound k v c e h s at = bound_at v c s h (subst (λ (j : Stage). IsAt P j tree s) e at)
