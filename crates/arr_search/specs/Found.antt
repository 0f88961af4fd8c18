-- What a search answers: a tree, its bound, and the units that it took.
use Rattle.std.specs.Prelude.{◌≡◌, ℕ, ◌+◌, ◌*◌, ◌^◌, ◌<◌, ◌≤◌, Bool, true, false, ◌&&◌, nat_lt, List, [], ◌∷◌, ◌++◌, min, IsTrue}
use Rattle.std.specs.List.{fold, count_by}
use Rattle.arr_law.specs.declared.record.Record.{Record}
use Rattle.arr_law.specs.declared.record.Record.TheVariants.{Step, Branch, Worth}
use Rattle.arr_law.specs.Problem.{Problem}
use Rattle.arr_law.specs.Facts.{Facts, root_facts}
use Rattle.arr_law.specs.Leaves.{worth}
use Rattle.arr_law.specs.Trees.{subtrees, walk, Whole}
use Rattle.arr_law.specs.Floor.{floor, kept_apart, IsClosure}
use Rattle.arr_search.specs.Counts.{fusible_pairs}

-- a step or a branch costs a unit
abbrev pub is_unit : Record → Bool
is_unit (Step rule f g h) = true
is_unit (Branch f g) = true
is_unit _ = false

abbrev pub units_of : List Record → ℕ
units_of records = count_by is_unit records

abbrev pub lower : Problem → ℕ → Record → ℕ
lower problem low (Worth charges) = min low (worth problem charges)
lower problem low _ = low

-- the least of a number and of the worths of the leaves
abbrev pub least_of : Problem → ℕ → List Record → ℕ
least_of problem low records = fold (lower problem) low records

abbrev pub is_low : Problem → ℕ → Facts → Record → Bool
is_low problem high facts (Branch f g) = nat_lt (floor problem facts) high
is_low problem high facts _ = true

-- each branch stands where the floor under the facts there is below a number
abbrev pub are_low : Problem → ℕ → List Facts → List Record → Bool
are_low problem high [] records = true
are_low problem high (facts ∷ pending) [] = true
are_low problem high (facts ∷ pending) (r ∷ records) =
    is_low problem high facts r && are_low problem high (subtrees problem 2 facts r ++ pending) records

-- the units that a node can cost, and one more
abbrev pub node_most : Problem → ℕ
node_most problem = 3 * (problem.count * problem.count) + 2

-- the tree shows the bound, from a plan of greedy's cost on, with at most so many units
pub record IsFound (problem : Problem) (greedy budget cost bound units : ℕ) (tree : List Record) : Type 0 where
  -- a reader of the tree finds nothing wrong and nothing missing
  pub accepted : walk problem 2 bound (root_facts problem ∷ []) tree ≡ Whole []
  pub bound_is : bound ≡ least_of problem cost tree
  pub cheaper : cost ≤ greedy
  pub units_are : units ≡ units_of tree
  pub within : units ≤ budget
  -- where the bound stays below the cost, all units were spent
  pub spent : bound < cost → units ≡ budget
  pub over_floor : floor problem (kept_apart problem) ≤ bound
  pub over_closure : (facts : Facts) → IsClosure problem facts → 3 * (problem.count * problem.count) ≤ budget → floor problem facts ≤ bound
  pub low : IsTrue (are_low problem greedy (root_facts problem ∷ []) tree)
  pub idle : floor problem (kept_apart problem) ≡ greedy → units ≡ 0
  -- with so many units the bound is the cost
  pub enough : 2 ^ (fusible_pairs problem + 1) * node_most problem ≤ budget → bound ≡ cost
