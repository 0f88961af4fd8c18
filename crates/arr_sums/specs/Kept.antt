-- Numbers that are kept among others, from a place on.
use Rattle.std.specs.Prelude.{ℕ, ℤ, pos, ◌≡◌, ◌+◌, ◌<◌, ◌≤◌, true, List, length, get_or}
use Rattle.arr_num.specs.declared.elem.Elem.{Elem}
use Rattle.arr_num.specs.Numbers.{in_type}

-- number l of those from a place on
abbrev pub kept_at : List ℤ → ℕ → ℕ → ℤ
kept_at xs at l = get_or xs (at + l) (pos 0)

-- so many of them are of the type
abbrev pub AreOf : Elem → List ℤ → ℕ → ℕ → Type 0
AreOf t xs at size = (l : ℕ) → l < size → in_type t (kept_at xs at l) ≡ true

-- only so many of them change, and they stay of the type
pub record ChangesWithin (t : Elem) (at size : ℕ) (old new : List ℤ) : Type 0 where
  pub long : length new ≡ length old
  pub typed : AreOf t old at size → AreOf t new at size
  pub before : (l : ℕ) → l < at → get_or new l (pos 0) ≡ get_or old l (pos 0)
  pub behind : (l : ℕ) → at + size ≤ l → get_or new l (pos 0) ≡ get_or old l (pos 0)

-- each of so many becomes what a step makes of it and of one number more; no other number changes
pub record StepsEach (t : Elem) (step : ℤ → ℤ → ℤ) (old : List ℤ) (source : ℕ → ℤ) (at count : ℕ) (new : List ℤ) : Type 0 where
  pub long : length new ≡ length old
  pub each : (j : ℕ) → j < count → kept_at new at j ≡ step (kept_at old at j) (source j)
  pub typed : AreOf t new at count
  pub before : (l : ℕ) → l < at → get_or new l (pos 0) ≡ get_or old l (pos 0)
  pub behind : (l : ℕ) → at + count ≤ l → get_or new l (pos 0) ≡ get_or old l (pos 0)
