-- Sets of the numbers from 1 to n, and of pairs of them.
use Rattle.std.specs.Prelude.{ℕ, ◌+◌, ◌-◌, ◌*◌, List, Bool, false, get_or}

-- the number stands in the set: a flag for each number, that of 1 first
abbrev pub has_number : List Bool → ℕ → Bool
has_number set i = get_or set (i - 1) false

-- pairs of numbers from 1 to count: a row for each first number, one row after another
pub record Pairs : Type 0 where
  pub count : ℕ
  pub flags : List Bool

abbrev pub place : ℕ → ℕ → ℕ → ℕ
place count f g = (f - 1) * count + (g - 1)

-- the pair stands in the set
abbrev pub has_pair : Pairs → ℕ → ℕ → Bool
has_pair pairs f g = get_or pairs.flags (place pairs.count f g) false
