-- Facts on where two operations stand.
use Rattle.std.specs.Prelude.{◌≡◌, ◌≢◌, ℕ, ◌≤◌, Bool, false, not, ◌&&◌, ◌||◌, ◌==◌, List, IsTrue}
use Rattle.std.specs.List.{fold}
use Rattle.arr_law.specs.declared.fact.Fact.{Fact}
use Rattle.arr_law.specs.declared.fact.Fact.TheVariants.{Same, Apart, Before}
use Rattle.arr_law.specs.Problem.{Problem, is_pair}

-- what a fact says of the places of the operations
abbrev pub holds : Fact → (ℕ → ℕ) → Type 0
holds (Same f g) place = place f ≡ place g
holds (Apart f g) place = place f ≢ place g
holds (Before f g) place = place f ≤ place g

-- a set of facts
abbrev pub Facts : Type 0
Facts = Fact → Bool

-- one fact; Same and Apart go both ways
abbrev pub is_fact : Fact → Facts
is_fact (Same f g) (Same h k) = ((f == h) && (g == k)) || ((f == k) && (g == h))
is_fact (Apart f g) (Apart h k) = ((f == h) && (g == k)) || ((f == k) && (g == h))
is_fact (Before f g) (Before h k) = (f == h) && (g == k)
is_fact _ _ = false

abbrev pub with_fact : Fact → Facts → Facts
with_fact x facts y = is_fact x y || facts y

-- the facts that the list alone gives
abbrev pub root_facts : Problem → Facts
root_facts problem (Same f g) = false
root_facts problem (Apart f g) = is_pair problem f g && not (problem.fusible f g)
root_facts problem (Before f g) = is_pair problem f g && problem.dep f g

-- those and the ones of a list
abbrev pub facts_of : Problem → List Fact → Facts
facts_of problem trail = fold (λ facts x. with_fact x facts) (root_facts problem) trail

-- the places meet all the facts
abbrev pub Meets : (ℕ → ℕ) → Facts → Type 0
Meets place facts = (x : Fact) → IsTrue (facts x) → holds x place
