-- Numbers at places.
use Rattle.std.specs.Prelude.{◌≡◌, ℕ, ℤ, pos, nat_lt, true, List, length, map, get_or}
use Rattle.std.specs.List.{list_all}
use Rattle.arr_ops.specs.Gathers.{position_named}

-- the numbers of a list at places
abbrev pub numbers_of : List ℤ → List ℕ → List ℤ
numbers_of ns places = map (λ p. get_or ns p (pos 0)) places

-- each place lies below n
abbrev pub AllBelow : ℕ → List ℕ → Type 0
AllBelow n places = list_all (λ p. nat_lt p n) places ≡ true

-- the one of a list that a number of an index names
abbrev pub number_named : List ℤ → ℤ → ℤ
number_named source i = get_or source (position_named (length source) i) (pos 0)
