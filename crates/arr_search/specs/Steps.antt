-- What a search asks of costs and of facts.
use Rattle.std.specs.Prelude.{◌≡◌, ℕ, ◌≤◌, false}
use Rattle.arr_law.specs.declared.fact.Fact.TheVariants.{Apart}
use Rattle.arr_law.specs.Problem.{Problem}
use Rattle.arr_law.specs.Facts.{Facts}
use Rattle.arr_law.specs.Floor.{floor, Follows}

-- no facts that follow from the list have a floor above this; true of what a legal plan costs
abbrev pub Pays : Problem → ℕ → Type 0
Pays problem cost = (facts : Facts) → Follows problem facts → floor problem facts ≤ cost

-- no operation is known to stand apart from itself
abbrev pub IsPlain : Facts → Type 0
IsPlain facts = (f : ℕ) → facts (Apart f f) ≡ false
