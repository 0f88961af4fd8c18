-- Tables of flags as bits, some words of 64 a row.
use Rattle.std.specs.Prelude.{ℕ, ◌≡◌, ◌<◌, ◌+◌, ◌*◌, ◌/◌, ◌%◌, List, Bool, ◌&&◌, get_or}
use Rattle.arr_cost.specs.Footprints.{has_bit}
use Rattle.arr_greedy.specs.Fast.{any_below}

-- how many words a row takes that has the columns below a width, and how many columns these have room for
abbrev pub words : ℕ → ℕ
words w = w / 64 + 1

abbrev pub columns : ℕ → ℕ
columns w = 64 * words w

-- the flag of a row and a column
abbrev pub bit : List ℕ → ℕ → ℕ → ℕ → Bool
bit rows w x y = has_bit (get_or rows (x * words w + y / 64) 0) (y % 64)

-- a table of width w has at each row and column what a function gives
abbrev pub AreBits : List ℕ → ℕ → (ℕ → ℕ → Bool) → Type 0
AreBits rows w test = (x y : ℕ) → x < w → y < columns w → bit rows w x y ≡ test x y

-- a third that stands is on a way from one to another, told what each reaches and what reaches each; row 0 of the latter has those that stand
abbrev pub stands_between : (ℕ → ℕ → Bool) → (ℕ → ℕ → Bool) → ℕ → ℕ → ℕ → Bool
stands_between reaches reached a b z = (reaches a z && reached b z) && reached 0 z

-- some stands on a way from one to another
abbrev pub some_stands : List ℕ → List ℕ → ℕ → ℕ → ℕ → Bool
some_stands reaches reached w a b = any_below (stands_between (bit reaches w) (bit reached w) a b) (columns w)

-- a word has a bit for each of those of its 64 that stand on such a way
abbrev pub AreBetween : List ℕ → List ℕ → ℕ → ℕ → ℕ → ℕ → ℕ → Type 0
AreBetween reaches reached w a b index word = (z : ℕ) → z / 64 ≡ index → has_bit word (z % 64) ≡ stands_between (bit reaches w) (bit reached w) a b z
