-- Where steps of given sizes lead.
use Rattle.std.specs.Prelude.{◌≡◌, ℕ, ◌+◌, ◌-◌, ◌*◌, ◌<◌, ◌≤◌, ℤ, List, [], ◌∷◌, Bool, true, cond, length, nat_le, ◌&&◌, unsigned_abs, ◌==◌}
use Rattle.std.specs.List.{list_all}
use Rattle.arr_overlap.specs.declared.legs.Leg.{Leg}

-- some steps of a leg, fewer than its places, lead from 0 to a place from which `rest` leads on to the target
pub record Turn (leg : Leg) (rest : ℕ → Type 0) (target : ℕ) : Type 0 where
  pub count : ℕ
  pub few : count < leg.places
  pub left : ℕ
  pub sum : target ≡ count * leg.step + left
  pub on : rest left

-- steps along the legs lead from 0 to the target
abbrev pub LeadTo : List Leg → ℕ → Type 0
LeadTo [] target = target ≡ 0
LeadTo (leg ∷ legs) target = Turn leg (LeadTo legs) target

-- how far all legs lead
abbrev pub reach : List Leg → ℕ
reach [] = 0
reach (leg ∷ legs) = (leg.places - 1) * leg.step + reach legs

-- a leg of so many dimensions of a view
abbrev pub is_leg : ℕ → Leg → Bool
is_leg k leg = (nat_le 1 leg.places && nat_le leg.places (k * 2097152)) && (nat_le 1 leg.step && nat_le leg.step 2147483648)

-- legs of so many dimensions of views
pub record AreLegs (k : ℕ) (legs : List Leg) : Type 0 where
  pub few : length legs ≤ k
  pub each : list_all (is_leg k) legs ≡ true

-- the steps of one size, fewer than a length, as many down as up, counted from the lowest place
abbrev pub both_ways_of : ℕ → ℕ → Leg
both_ways_of length step = record { places = length + (length - 1); step = step }

-- those of each dimension longer than 1
abbrev pub both_ways : List ℕ → List ℤ → List Leg
both_ways (n ∷ ns) (s ∷ ss) = cond (nat_le n 1) (both_ways ns ss) (both_ways_of n (unsigned_abs s) ∷ both_ways ns ss)
both_ways _ _ = []

-- from the middle of the legs some steps of one size, at least one and fewer than a length, don't lead back to it
abbrev pub IsOpen : ℕ → ℕ → List Leg → Type 0
IsOpen length step legs =
    (1 ≤ step) × ((target : ℕ) → (target + step) + (target + step) ≡ reach legs → LeadTo (record { places = length - 1; step = step } ∷ legs) target → ⊥)

-- a leg for each dimension of a view that moves, before other legs
abbrev pub with_dimensions : List ℕ → List ℤ → List Leg → List Leg
with_dimensions (n ∷ ns) (s ∷ ss) legs = with_dimensions ns ss (cond (unsigned_abs s == 0) legs (record { places = n; step = unsigned_abs s } ∷ legs))
with_dimensions _ _ legs = legs
