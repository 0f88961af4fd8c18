-- Places at which the search for the next application has unused bases alone left to look for.
use Rattle.std.specs.Prelude.{ℕ, zero, suc, ◌+◌, ◌≡◌, ◌≤◌, List, [], ◌∷◌, ◌++◌, Bool, false, cond, length, take, drop, get_or, Option, Some, None}
use Rattle.arr_ops.specs.declared.op.Op.{Op}
use Rattle.arr_rewrite.specs.Rules.{copies_itself}
use Rattle.arr_rewrite.specs.NextRewrite.{replacement}

-- at the first operation of the second list, behind the first one, no rule applies but for that of unused bases
abbrev pub IsQuiet : List Op → List Op → Type 0
IsQuiet front [] = Unit {0}
IsQuiet front (op ∷ back) = (replacement front op back ≡ None) × (copies_itself op ≡ false)

-- nor at the first so many of them
abbrev pub Settled : ℕ → List Op → List Op → Type 0
Settled zero front back = Unit {0}
Settled (suc n) front [] = Unit {0}
Settled (suc n) front (op ∷ back) = IsQuiet front (op ∷ back) × Settled n (front ++ op ∷ []) back

abbrev pub SettledTo : ℕ → List Op → Type 0
SettledTo n list = Settled n [] list

-- whether a rule applies at the place of a list, and the list after it
abbrev pub AppliesAt : (List Op → Op → List Op → Option (List Op)) → ℕ → List Op → List Op → Bool → Type 0
AppliesAt rule place old new done =
    (op : Op) → op ≡ get_or old place op → rule (take place old) op (drop (place + 1) old) ≡ cond done (Some new) None

-- what a search for the next application leaves: the rest of the search, or the list after it, settled up to a place
abbrev pub Searched : Option (List Op) → Option (List Op) → List Op → Option ℕ → Type 0
Searched next rest list None = next ≡ rest
Searched next rest list (Some n) = (next ≡ Some list) × (n ≤ length list) × SettledTo n list
