-- Steps of one list, by computation: a constant, its sum, one more than that, a print, and three FREEs.
use Rattle.std.specs.Prelude.{ℕ, ◌≡◌, refl, List, [], ◌∷◌, Option, Some, None}
use Rattle.arr_view.specs.Views.{elements}
use Rattle.arr_ops.specs.Examples.{summed}
use Rattle.arr_law.specs.declared.fact.Fact.{Fact}
use Rattle.arr_law.specs.declared.fact.Fact.TheVariants.{Same, Apart, Before}
use Rattle.arr_law.specs.Facts.{facts_of}
use Rattle.arr_law.specs.Rules.{rule_named}
use Rattle.arr_law.specs.ProblemOf.{problem_of}
use Rattle.arr_state.specs.Steps.{given}

-- what a rule gives once these are known
abbrev pub by_rule : List Fact → ℕ → ℕ → ℕ → ℕ → Option Fact
by_rule trail n f g h = given (problem_of summed) (facts_of (problem_of summed) trail) (rule_named (problem_of summed) 2 n f g h)

stands_apart : by_rule [] 7 2 3 6 ≡ Some (Apart 2 6)
unfolding elements
stands_apart = refl

gives_it_once : by_rule (Apart 2 6 ∷ []) 7 2 3 6 ≡ None
unfolding elements
gives_it_once = refl

free_joins_last_user : by_rule [] 9 3 6 0 ≡ Some (Same 3 6)
unfolding elements
free_joins_last_user = refl

no_user_after_the_last : by_rule [] 9 2 6 0 ≡ None
unfolding elements
no_user_after_the_last = refl

-- together with its FREE, 2 has 3 before it, which stands behind it
leads_round : by_rule (Same 2 6 ∷ Before 6 2 ∷ []) 4 3 6 2 ≡ Some (Before 3 2)
unfolding elements
leads_round = refl
