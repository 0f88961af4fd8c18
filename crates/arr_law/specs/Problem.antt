-- What a list of operations is to a planner.
use Rattle.std.specs.Prelude.{ℕ, zero, suc, ◌+◌, Bool, nat_le, ◌&&◌, not, ◌==◌, List, Option}
use Rattle.std.specs.List.{list_any, range_with_len}
use Rattle.std.specs.Option.{option_to_list}

-- Operations are numbered from 1 to `count`; classes of identical views from 0 to below `classes`.
pub record Problem : Type 0 where
  pub count : ℕ
  -- two operations may share a block
  pub fusible : ℕ → ℕ → Bool
  -- the first stands before the second in the list, and the two depend
  pub dep : ℕ → ℕ → Bool
  pub classes : ℕ
  -- an operation reads, or writes, a view of a class
  pub reads : ℕ → ℕ → Bool
  pub writes : ℕ → ℕ → Bool
  -- of a class: what a view of it takes, in bytes, and its base
  pub weight : ℕ → ℕ
  pub base : ℕ → ℕ
  -- of a base: the operation that creates it, and the one that ends it
  pub creator : ℕ → Option ℕ
  pub freer : ℕ → Option ℕ
  -- of an operation: the base that it ends
  pub frees : ℕ → Option ℕ
  -- an operation has a view of a base
  pub names : ℕ → ℕ → Bool
  -- the class of a view of an operation: 0 is the output, 1 and 2 are the operands
  pub view : ℕ → ℕ → Option ℕ

abbrev pub is_op : Problem → ℕ → Bool
is_op problem f = nat_le 1 f && nat_le f problem.count

-- two different operations of the list
abbrev pub is_pair : Problem → ℕ → ℕ → Bool
is_pair problem f g = is_op problem f && (is_op problem g && not (f == g))

abbrev pub operations : Problem → List ℕ
operations problem = range_with_len 1 problem.count

-- g ends a base of which f has a view
abbrev pub ends_base_of : Problem → ℕ → ℕ → Bool
ends_base_of problem f g = list_any (problem.names f) (option_to_list (problem.frees g))

-- the sum of h at 0 to n - 1
abbrev pub sum_below : (ℕ → ℕ) → ℕ → ℕ
sum_below h zero = 0
sum_below h (suc n) = sum_below h n + h n
