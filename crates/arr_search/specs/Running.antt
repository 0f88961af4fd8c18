-- What a search keeps true: the records so far, the facts of the subtrees that are still to come, and three numbers.
use Rattle.std.specs.Prelude.{◌≡◌, ℕ, zero, suc, ◌+◌, ◌*◌, ◌<◌, ◌≤◌, List, [], ◌∷◌, ◌++◌, ◌⊎◌}
use Rattle.std.specs.List.{sum_by, AllByRecursion}
use Rattle.arr_law.specs.declared.record.Record.{Record}
use Rattle.arr_law.specs.Problem.{Problem}
use Rattle.arr_law.specs.Facts.{Facts, root_facts}
use Rattle.arr_law.specs.Trees.{walk}
use Rattle.arr_law.specs.Floor.{Within, IsSymmetric, Follows, floor, kept_apart}
use Rattle.arr_search.specs.Counts.{open_pairs}
use Rattle.arr_search.specs.Found.{units_of, least_of, are_low, node_most}
use Rattle.arr_search.specs.Steps.{Pays, IsPlain}

-- how many nodes a tree may have whose root has q open pairs
abbrev pub size : ℕ → ℕ
size zero = 1
size (suc q) = size q + size q + 1

-- how many nodes are still to come at most
abbrev pub nodes : Problem → List Facts → ℕ
nodes problem pending = sum_by (λ facts. size (open_pairs problem facts)) pending

abbrev pub load : Problem → Facts → ℕ
load problem facts = size (open_pairs problem facts) * node_most problem

-- how many units they take at most
abbrev pub loads : Problem → List Facts → ℕ
loads problem pending = sum_by (load problem) pending

-- enough units to close the facts of the list
abbrev pub IsAmple : Problem → ℕ → Type 0
IsAmple problem budget = 3 * (problem.count * problem.count) ≤ budget

-- all that the list gives is known
abbrev pub IsReady : Problem → Facts → Type 0
IsReady problem facts = (some : Facts) → Follows problem some → Within some facts

pub record Running (problem : Problem) (greedy budget : ℕ) (pending : List Facts) (tree : List Record) (units least cost : ℕ) : Type 0 where
  pub trees : (bound : ℕ) → bound ≤ least → (more : List Record)
      → walk problem 2 bound (root_facts problem ∷ []) (tree ++ more) ≡ walk problem 2 bound pending more
  pub lows : (more : List Record) → are_low problem greedy (root_facts problem ∷ []) (tree ++ more) ≡ are_low problem greedy pending more
  pub least_is : least ≡ least_of problem greedy tree
  pub cheaper : cost ≤ greedy
  pub pays : Pays problem cost
  pub units_are : units ≡ units_of tree
  pub within : units ≤ budget
  pub spent : least < cost → units ≡ budget
  pub roots : AllByRecursion (Within (root_facts problem)) pending
  pub symmetric : AllByRecursion IsSymmetric pending
  pub plain : AllByRecursion IsPlain pending
  pub ready : IsAmple problem budget → AllByRecursion (IsReady problem) pending ⊎ ((units ≡ 0) × (pending ≡ root_facts problem ∷ []))
  pub over_floor : floor problem (kept_apart problem) ≤ least
  pub over_closure : (facts : Facts) → Follows problem facts → IsAmple problem budget → floor problem facts ≤ least
  pub idle : floor problem (kept_apart problem) ≡ greedy → units ≡ 0
  pub enough : units + loads problem pending ≤ load problem (root_facts problem)
