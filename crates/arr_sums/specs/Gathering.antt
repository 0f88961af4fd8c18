-- Accumulators before and after some positions.
use Rattle.std.specs.Prelude.{ℕ, ℤ, ◌≡◌, ◌+◌, ◌<◌}
use Rattle.arr_strips.specs.Sums.{gathered}

-- Accumulators that hold the fold of all positions below p hold, afterwards, that of all below p + c. The numbers of these c
-- positions stand from a place of the source on; `size` is how many accumulators there are.
abbrev pub Gathers : (ℤ → ℤ → ℤ) → ℕ → ℕ → ℕ → (ℕ → ℤ) → (ℕ → ℤ) → (ℕ → ℤ) → ℕ → ℕ → ℕ → Type 0
Gathers f n inner size old new source p from c =
    (start : ℤ) (xs : ℕ → ℤ) → ((l : ℕ) → l < size → old l ≡ gathered f start n inner xs p l) → ((j : ℕ) → j < c → source (from + j) ≡ xs (p + j))
    → (l : ℕ) → l < size → new l ≡ gathered f start n inner xs (p + c) l
