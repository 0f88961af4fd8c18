-- Facts one after another.
use Rattle.std.specs.Prelude.{◌≡◌, ℕ, true, false, List, [], ◌∷◌}
use Rattle.std.specs.List.{fold, list_any}
use Rattle.arr_law.specs.declared.fact.Fact.{Fact}
use Rattle.arr_law.specs.declared.fact.Fact.TheVariants.{Same, Apart, Before}
use Rattle.arr_law.specs.Problem.{Problem, is_op}
use Rattle.arr_law.specs.Facts.{Facts, is_fact, with_fact, root_facts}

-- some facts and then those of a list
abbrev pub after : Facts → List Fact → Facts
after facts gives = fold (λ facts x. with_fact x facts) facts gives

-- each fact was new when it came
abbrev pub AreFresh : Facts → List Fact → Type 0
AreFresh facts [] = Unit {0}
AreFresh facts (x ∷ trail) = (facts x ≡ false) × AreFresh (with_fact x facts) trail

abbrev pub first : Fact → ℕ
first (Same f g) = f
first (Apart f g) = f
first (Before f g) = f

abbrev pub second : Fact → ℕ
second (Same f g) = g
second (Apart f g) = g
second (Before f g) = g

-- its operations are of the list
pub record AreOps (problem : Problem) (x : Fact) : Type 0 where
  pub left : is_op problem (first x) ≡ true
  pub right : is_op problem (second x) ≡ true

-- each fact that the list alone gives is one of these
abbrev pub HoldRoots : Problem → List Fact → Type 0
HoldRoots problem roots = (x : Fact) → root_facts problem x ≡ true → list_any (λ r. is_fact r x) roots ≡ true
