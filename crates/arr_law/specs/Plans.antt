-- Plans as a place for each operation, where a place may have none.
use Rattle.std.specs.Prelude.{◌≡◌, ℕ, ◌+◌, ◌-◌, ◌<◌, ◌≤◌, Bool, true, cond, not, ◌&&◌, ◌||◌, ◌==◌, nat_le, Option, Some, None, List, IsTrue, get_or, length, map, max}
use Rattle.std.specs.List.{list_all, list_any, filter, fold, range_with_len}
use Rattle.arr_law.specs.Problem.{Problem, is_op, is_pair, operations, sum_below}

pub record IsLegalAt (problem : Problem) (at : ℕ → ℕ) (blocks : ℕ) : Type 0 where
  pub within : (f : ℕ) → IsTrue (is_op problem f) → at f < blocks
  pub together : (f g : ℕ) → IsTrue (is_pair problem f g) → at f ≡ at g → IsTrue (problem.fusible f g)
  pub forward : (f g : ℕ) → IsTrue (is_pair problem f g) → IsTrue (problem.dep f g) → at f ≤ at g

-- no such operation stands at k
abbrev pub outside_at : (ℕ → ℕ) → ℕ → Option ℕ → Bool
outside_at at k None = true
outside_at at k (Some f) = not (at f == k)

-- the block at k reads a view of the class from outside, or leaves it behind
abbrev pub charged_at : Problem → (ℕ → ℕ) → ℕ → ℕ → Bool
charged_at problem at k c =
    (list_any (λ f. (at f == k) && problem.reads f c) (operations problem) && outside_at at k (problem.creator (problem.base c)))
    || (list_any (λ f. (at f == k) && problem.writes f c) (operations problem) && outside_at at k (problem.freer (problem.base c)))

-- in bytes
abbrev pub cost_at : Problem → (ℕ → ℕ) → ℕ → ℕ
cost_at problem at blocks = sum_below (λ k. sum_below (λ c. cond (charged_at problem at k c) (problem.weight c) 0) problem.classes) blocks

-- ---- plans as a list of places, counted from 1

abbrev pub place_in : List ℕ → ℕ → ℕ
place_in places f = get_or places (f - 1) 0

abbrev pub greatest : List ℕ → ℕ
greatest places = fold max 0 places

-- a place for each operation; the places are 1 to some number, and each is used
abbrev pub are_places : Problem → List ℕ → Bool
are_places problem places =
    (length places == problem.count)
    && list_all (λ p. nat_le 1 p && ((p == 1) || list_any (λ q. q + 1 == p) places)) places

-- the test passes at each two different operations
abbrev pub each_pair : Problem → (ℕ → ℕ → Bool) → Bool
each_pair problem test = list_all (λ f. list_all (λ g. not (is_pair problem f g) || test f g) (operations problem)) (operations problem)

abbrev pub is_together : Problem → List ℕ → Bool
is_together problem places = each_pair problem (λ f g. not (place_in places f == place_in places g) || problem.fusible f g)

abbrev pub is_forward : Problem → List ℕ → Bool
is_forward problem places = each_pair problem (λ f g. not (problem.dep f g) || nat_le (place_in places f) (place_in places g))

-- what a plan by places costs
abbrev pub price : Problem → List ℕ → ℕ
price problem places = cost_at problem (λ f. place_in places f - 1) (greatest places)

-- its blocks in order, each with its operations in order
abbrev pub blocks_of : Problem → List ℕ → List (List ℕ)
blocks_of problem places = map (λ k. filter (λ f. place_in places f == k) (operations problem)) (range_with_len 1 (greatest places))
