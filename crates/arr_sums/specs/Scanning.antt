-- Results of a scan, carried from one row to the next.
use Rattle.std.specs.Prelude.{ℕ, ℤ, ◌≡◌, ◌+◌, ◌%◌, ◌<◌, ◌≤◌}
use Rattle.arr_strips.specs.Columns.{scan_at}

-- for each of the last positions below p, one for each place in a row, its result
abbrev pub Carried : (ℤ → ℤ → ℤ) → ℤ → ℕ → ℕ → (ℕ → ℤ) → ℕ → (ℕ → ℤ) → Type 0
Carried f z n inner xs p carries = (q : ℕ) → q < p → p ≤ q + inner → carries (q % inner) ≡ scan_at f z n inner xs q

-- What was carried to p is carried to p + c, and the results at these positions stand from a place on, where the numbers stand.
abbrev pub ScansOn : (ℤ → ℤ → ℤ) → ℤ → ℕ → ℕ → (ℕ → ℤ) → (ℕ → ℤ) → (ℕ → ℤ) → (ℕ → ℤ) → ℕ → ℕ → ℕ → Type 0
ScansOn f z n inner old new out source p from c =
    (xs : ℕ → ℤ) → Carried f z n inner xs p old → ((j : ℕ) → j < c → source (from + j) ≡ xs (p + j))
    → ((j : ℕ) → j < c → out (from + j) ≡ scan_at f z n inner xs (p + j)) × Carried f z n inner xs (p + c) new
