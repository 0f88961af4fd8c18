-- What a search for the best plan promises.
use Rattle.std.specs.Prelude.{◌≡◌, ℕ, suc, ◌<◌, ◌≤◌, ◌⊎◌, true, List, length, map, IsTrue}
use Rattle.std.specs.List.{range_with_len}
use Rattle.arr_ops.specs.declared.op.Op.{Op}
use Rattle.arr_ops.specs.Plans.{is_legal, place}
use Rattle.arr_ops.specs.Costs.{cost}
use Rattle.arr_law.specs.declared.certificate.Certificate.{Certificate}
use Rattle.arr_law.specs.Laws.{IsLowerBound}
use Rattle.arr_law.specs.ProblemOf.{problem_of}
use Rattle.arr_law.specs.Verdict.{accepts}
use Rattle.arr_cert.specs.Texts.{is_spellable}
use Rattle.arr_heur.specs.Planners.{greedy_plan}
use Rattle.arr_search.specs.declared.found.Found.{Found}
use Rattle.arr_search.specs.Found.{IsFound}

-- the place of the block of each operation, counted from 1
abbrev pub places_of : List Op → List (List ℕ) → List ℕ
places_of list plan = map (λ f. suc (place plan f)) (range_with_len 1 (length list))

-- the certificate of this plan at this cost with this bound, for the list of this number
pub record IsCertificate (list : List Op) (number : ℕ) (plan : List (List ℕ)) (cost bound : ℕ) (c : Certificate) : Type 0 where
  pub version_is : c.version ≡ 2
  pub number_is : c.number ≡ number
  pub count_is : c.count ≡ length list
  pub places_are : c.places ≡ places_of list plan
  pub cost_is : c.cost ≡ cost
  pub bound_is : c.bound ≡ bound
  -- a checker finds nothing wrong, and its text can be written
  pub accepted : IsTrue (accepts (problem_of list) c)
  pub spellable : is_spellable c ≡ true

-- what a search of a list finds with a budget
pub record IsBest (list : List Op) (number budget : ℕ) (found : Found) : Type 0 where
  -- a legal plan and what it costs
  pub legal : IsTrue (is_legal list found.plan)
  pub cost_is : found.cost ≡ cost list found.plan
  -- greedy's plan, or one that costs less
  pub improves : (found.plan ≡ greedy_plan list) ⊎ (found.cost < cost list (greedy_plan list))
  -- no legal plan costs less than the bound
  pub below : found.bound ≤ found.cost
  pub least : IsLowerBound list found.bound
  -- how the tree shows the bound, and what it took
  pub shows : IsFound (problem_of list) (cost list (greedy_plan list)) budget found.cost found.bound found.units found.certificate.tree
  pub certificate : IsCertificate list number found.plan found.cost found.bound found.certificate
