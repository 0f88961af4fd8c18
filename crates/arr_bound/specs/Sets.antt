-- Sets of operations as rows of words, and the rows of a relation one behind another.
use Rattle.std.specs.Prelude.{◌≡◌, ℕ, ◌+◌, ◌*◌, ◌/◌, ◌%◌, ◌<◌, ◌≤◌, ◌==◌, Bool, true, false, List, length, get_or}
use Rattle.std.specs.Int.{bit_at}
use Rattle.arr_sets.specs.Bits.{is_set}

-- g stands in row f, where a row has so many words
abbrev pub in_row : ℕ → List ℕ → ℕ → ℕ → Bool
in_row width rows f g = bit_at (get_or rows (f * width + g / 64) 0) (g % 64) == 1

-- the least number of the set that stands in the word `from` or later
pub record IsFirst (set : List ℕ) (from f : ℕ) : Type 0 where
  pub within : f < 64 * length set
  pub here : is_set set f ≡ true
  pub none : (g : ℕ) → from ≤ g / 64 → g < f → is_set set g ≡ false

-- it has none there
pub record NoneFrom (set : List ℕ) (from : ℕ) : Type 0 where
  pub none : (g : ℕ) → from ≤ g / 64 → is_set set g ≡ false

-- rows for so many operations, numbered from 1: a relation that goes both ways, of different operations
pub record IsTable (count : ℕ) (rows : List ℕ) : Type 0 where
  pub long : length rows ≡ (count + 1) * (count / 64 + 1)
  pub even : (f g : ℕ) → f ≤ count → g ≤ count → in_row (count / 64 + 1) rows f g ≡ in_row (count / 64 + 1) rows g f
  pub uneven : (f : ℕ) → f ≤ count → in_row (count / 64 + 1) rows f f ≡ false
