-- Which plan is chosen for a list, and what the search for a best plan shows of it.
use Rattle.std.specs.Prelude.{ℕ, ◌≡◌, ◌⊎◌, true, List, Some, None, IsTrue}
use Rattle.arr_ops.specs.declared.op.Op.{Op}
use Rattle.arr_ops.specs.Costs.{cost}
use Rattle.arr_ops.specs.Plans.{is_legal}
use Rattle.arr_heur.specs.Planners.{greedy_plan, linear_plan}
use Rattle.arr_rewrite.specs.NormalForm.{normal_form}
use Rattle.arr_law.specs.declared.certificate.Certificate.{Certificate}
use Rattle.arr_law.specs.Laws.{IsLowerBound}
use Rattle.arr_law.specs.ProblemOf.{problem_of}
use Rattle.arr_law.specs.Verdict.{accepts}
use Rattle.arr_search.specs.Best.{IsBest}
use Rattle.arr_run.specs.declared.choice.Choice.{Choice}
use Rattle.arr_run.specs.declared.choice.Fuse.{Fuse}
use Rattle.arr_run.specs.declared.choice.Fuse.TheVariants.{Linear, Greedy, Best}
use Rattle.arr_run.specs.declared.planning.Planned.{Planned}

-- a plan of which nothing is shown
abbrev pub alone : List (List ℕ) → Planned
alone plan = record { plan = plan; bound = None; units = 0; certificate = None }

-- What the search for a best plan shows of the plan that it chooses for the list of this number.
pub record Searched (list : List Op) (number budget : ℕ) (p : Planned) : Type 0 where
  pub bound : ℕ
  pub certificate : Certificate
  pub bound_is : p.bound ≡ Some bound
  pub certificate_is : p.certificate ≡ Some certificate
  -- no legal plan costs less than the bound
  pub least : IsLowerBound list bound
  -- the checker accepts the certificate
  pub accepted : IsTrue (accepts (problem_of list) certificate)
  -- the plan costs the bound, or the budget was spent
  pub optimal_or_spent : (bound ≡ cost list p.plan) ⊎ (p.units ≡ budget)
  -- these and all else that a search promises: whose certificate it is, what it took, and which budget is enough
  pub best : IsBest list number budget (record { plan = p.plan; cost = cost list p.plan; bound = bound; units = p.units; certificate = certificate })

-- The planner chooses this plan for the list of this number.
abbrev pub IsChosen : Fuse → List Op → ℕ → ℕ → Planned → Type 0
IsChosen Linear list number budget p = p ≡ alone (linear_plan list)
IsChosen Greedy list number budget p = p ≡ alone (greedy_plan list)
IsChosen Best list number budget p = Searched list number budget p

-- The plan of the flush of this number: a legal plan of the rewritten list, which the planner chooses.
pub record IsPlanned (choice : Choice) (number : ℕ) (list : List Op) (p : Planned) : Type 0 where
  pub legal : is_legal (normal_form list) p.plan ≡ true
  pub chosen : IsChosen choice.fuse (normal_form list) number choice.budget p
