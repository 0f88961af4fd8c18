-- Lists of native numbers, number by number.
use Rattle.std.specs.Prelude.{ℕ, ℤ, pos, List, map, get_or}

-- the number at a place
abbrev pub entry : {T : Type 0} → (T → ℤ) → List T → ℕ → ℤ
entry number xs i = get_or (map number xs) i (pos 0)
