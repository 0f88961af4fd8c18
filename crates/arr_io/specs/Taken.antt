-- What calls that read or write many bytes do to them.
use Rattle.std.specs.Prelude.{ℕ, ◌<◌, ◌≤◌, List, length, take, Option, ⊤, None, Some}
use Rattle.std.specs.Io.KnownBytes.{Consumes, Appends}

-- at most so many bytes were taken from the front of what was left
abbrev pub TakesAtMost : Option (List ℕ) → Option (List ℕ) → ℕ → Type 0
TakesAtMost old new most = (taken : List ℕ) × (length taken ≤ most) × Consumes old new taken

-- more than so many bytes were left, as far as that is told
abbrev pub HadMoreThan : Option (List ℕ) → ℕ → Type 0
HadMoreThan None limit = ⊤
HadMoreThan (Some bytes) limit = limit < length bytes

-- a byte is missing of what was to be appended
abbrev pub AppendsPart : Option (List ℕ) → Option (List ℕ) → List ℕ → Type 0
AppendsPart old new bytes = (k : ℕ) × (k < length bytes) × Appends old new (take k bytes)
