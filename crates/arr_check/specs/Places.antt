-- Operations of a plan by places, and what its blocks pay.
use Rattle.std.specs.Prelude.{ℕ, ◌-◌, ◌==◌, nat_le, Bool, ◌&&◌, ◌||◌, not, cond, List}
use Rattle.std.specs.List.{list_any}
use Rattle.arr_law.specs.Plans.{charged_at, place_in}
use Rattle.arr_law.specs.Problem.{Problem, is_pair, operations, sum_below}

-- the number of the block of an operation, counted from 0
abbrev pub spot : List ℕ → ℕ → ℕ
spot places f = place_in places f - 1

abbrev pub class_cost : Problem → List ℕ → ℕ → ℕ → ℕ
class_cost problem places block c = cond (charged_at problem (spot places) block c) (problem.weight c) 0

-- what a block pays
abbrev pub block_price : Problem → List ℕ → ℕ → ℕ
block_price problem places block = sum_below (class_cost problem places block) problem.classes

-- some operation of the block reads, or writes, the class
abbrev pub block_reads : Problem → List ℕ → ℕ → ℕ → Bool
block_reads problem places block c = list_any (λ f. (spot places f == block) && problem.reads f c) (operations problem)

abbrev pub block_writes : Problem → List ℕ → ℕ → ℕ → Bool
block_writes problem places block c = list_any (λ f. (spot places f == block) && problem.writes f c) (operations problem)

-- two different operations may share a block, if they do
abbrev pub may_stand_with : Problem → List ℕ → ℕ → ℕ → Bool
may_stand_with problem places f g = not (is_pair problem f g) || (not (place_in places f == place_in places g) || problem.fusible f g)

-- the second does not stand before the first, if it depends on it
abbrev pub may_precede : Problem → List ℕ → ℕ → ℕ → Bool
may_precede problem places f g = not (is_pair problem f g) || (not (problem.dep f g) || nat_le (place_in places f) (place_in places g))
