-- What is left of a walk.
use Rattle.std.specs.Prelude.{nat_le, ◌≡◌, ℕ, ℤ, ◌+ℤ◌, List, [], ◌∷◌, ◌++◌, Bool, true, false, map}
use Rattle.std.specs.List.{list_all}
use Rattle.arr_view.specs.Views.{at_steps, places, to_place, is_place}

-- the places that come after the current one: in each dimension so many steps are left, from the place where its current step begins
abbrev pub after : List ℕ → List ℤ → List ℕ → List ℤ → List ℤ
after (n ∷ ns) (s ∷ ss) (r ∷ rs) (z ∷ zs) = after ns ss rs zs ++ at_steps (places ns ss) r s (z +ℤ s)
after _ _ _ _ = []

abbrev pub still_left : Bool → ℤ → List ℤ → List ℕ
still_left true place later = []
still_left false place later = to_place place ∷ map to_place later

-- four dimensions, each place of the walk one of a base
pub record Walking (lengths : List ℕ) (strides : List ℤ) (left : List ℕ) (places : List ℤ) (place : ℤ) : Type 0 where
  pub whole : list_all (nat_le 1) lengths ≡ true
  pub starts : list_all is_place places ≡ true
  pub here : is_place place ≡ true
  pub later : list_all is_place (after lengths strides left places) ≡ true
