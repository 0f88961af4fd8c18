-- Picking members of a set that are pairwise apart, until each other member is not apart from one that is picked.
use Rattle.std.specs.Prelude.{◌≡◌, ℕ, ◌*◌, ◌<◌, ◌≤◌, ◌==◌, nat_lt, Bool, true, false, not, ◌||◌, List, length, ◌⊎◌, Option, Some, None}
use Rattle.std.specs.List.{list_any}
use Rattle.arr_ops.specs.Formed.{all_pairs}
use Rattle.arr_sets.specs.Bits.{is_set}
use Rattle.arr_view.specs.Views.{has}
use Rattle.arr_bound.specs.Sets.{IsFirst, NoneFrom}

-- it is picked, or one that is picked is not apart from it
abbrev pub is_covered : (ℕ → ℕ → Bool) → List ℕ → ℕ → Bool
is_covered apart picks g = list_any (λ x. (g == x) || not (apart x g)) picks

-- some members are picked, and the set holds those that may still be
pub record Picking (apart : ℕ → ℕ → Bool) (members : ℕ → Bool) (set : List ℕ) (picks : List ℕ) : Type 0 where
  pub inside : (g : ℕ) → is_set set g ≡ true → members g ≡ true
  pub away : (g x : ℕ) → is_set set g ≡ true → has picks x ≡ true → apart x g ≡ true
  pub later : (g x : ℕ) → is_set set g ≡ true → has picks x ≡ true → x < g
  pub room : (g : ℕ) → is_set set g ≡ true → length picks ≤ g
  pub few : length picks ≤ 320
  pub from : (x : ℕ) → has picks x ≡ true → members x ≡ true
  pub ascending : all_pairs nat_lt picks ≡ true
  pub pairwise : all_pairs apart picks ≡ true
  pub covered : (g : ℕ) → members g ≡ true → (is_set set g ≡ true) ⊎ (is_covered apart picks g ≡ true)

-- two that are apart are picked, if two members are apart
abbrev pub HasTwo : (ℕ → ℕ → Bool) → (ℕ → Bool) → List ℕ → Type 0
HasTwo apart members picks =
    ((f g : ℕ) → members f ≡ true → members g ≡ true → apart f g ≡ false)
    ⊎ ((x : ℕ) × (p : ℕ) × (has picks x ≡ true) × (members p ≡ true) × (apart x p ≡ true))

-- members that are pairwise apart, and no further one is apart from all of them
pub record IsPick (apart : ℕ → ℕ → Bool) (members : ℕ → Bool) (picks : List ℕ) : Type 0 where
  pub few : length picks ≤ 320
  pub from : (x : ℕ) → has picks x ≡ true → members x ≡ true
  pub ascending : all_pairs nat_lt picks ≡ true
  pub pairwise : all_pairs apart picks ≡ true
  pub covered : (g : ℕ) → members g ≡ true → is_covered apart picks g ≡ true
  pub two : HasTwo apart members picks

-- the member to begin with: one that is apart from another, if there is one, and from no earlier one
pub record IsLead (apart : ℕ → ℕ → Bool) (set : List ℕ) (m : ℕ) : Type 0 where
  pub within : m < 64 * length set
  pub here : is_set set m ≡ true
  pub none : (g : ℕ) → is_set set g ≡ true → g < m → apart m g ≡ false
  pub two : ((f g : ℕ) → is_set set f ≡ true → is_set set g ≡ true → apart f g ≡ false) ⊎ ((p : ℕ) × (is_set set p ≡ true) × (apart m p ≡ true))

-- the next number of a set, if there is one
abbrev pub IsNext : List ℕ → Option ℕ → Type 0
IsNext set None = NoneFrom set 0
IsNext set (Some f) = IsFirst set 0 f
