-- A set of numbers below n, as a list that says of each number whether the set has it.
use Rattle.std.specs.Prelude.{ℕ, ◌+◌, ◌/◌, ◌%◌, ◌==◌, nat_le, nat_lt, List, ◌∷◌, ◌++◌, Bool, true, false, ◌&&◌, ◌||◌, map, get_or, take, drop, replicate}
use Rattle.std.specs.List.{range_with_len}
use Rattle.std.specs.Int.{bit_at}

-- a number stands in both sets
abbrev pub meets : List Bool → List Bool → Bool
meets (x ∷ xs) (y ∷ ys) = (x && y) || meets xs ys
meets _ _ = false

-- whether digit i of the words, 64 of them a word, is 1
abbrev pub is_set : List ℕ → ℕ → Bool
is_set words i = bit_at (get_or words (i / 64) 0) (i % 64) == 1

-- the set that the words stand for
abbrev pub members : List ℕ → ℕ → List Bool
members words n = map (is_set words) (range_with_len 0 n)

-- a number from `from` on, below `end`
abbrev pub in_run : ℕ → ℕ → ℕ → Bool
in_run from end i = nat_le from i && nat_lt i end

-- the set with `count` numbers more, `from` and those after it
abbrev pub with_run : List Bool → ℕ → ℕ → List Bool
with_run row from count = (take from row ++ replicate count true) ++ drop (from + count) row
