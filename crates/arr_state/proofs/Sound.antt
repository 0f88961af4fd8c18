-- Settled legal plans meet what steps give.
use Rattle.std.proofs.Common.{ℕ, List, [], ◌∷◌, subst}
use Rattle.arr_law.specs.declared.fact.Fact.{Fact}
use Rattle.arr_law.specs.declared.record.Record.{Record}
use Rattle.arr_law.specs.declared.record.Record.TheVariants.{Flush, Plan, Cost, Bound, Step, Branch, Dead, Worth, End}
use Rattle.arr_law.specs.Problem.{Problem}
use Rattle.arr_law.specs.Facts.{Facts, with_fact, Meets}
use Rattle.arr_law.specs.Rules.{rule_named}
use Rattle.arr_law.specs.Plans.{IsLegalAt}
use Rattle.arr_law.specs.Settled.{IsProper, IsSettled}
use Rattle.arr_law.specs.ProblemOf.{problem_of}
use Rattle.arr_law.proofs.Keeps.{root_met, rule_met, rule_sound}
use Rattle.arr_law.proofs.Proper.{proper}
use Rattle.arr_state.specs.Known.{after}
use Rattle.arr_state.specs.Steps.{Steps}
use Rattle.arr_state.specs.Laws.{PlansKeepFacts}
use Rattle.arr_state.proofs.Gives.{given-some}

module _ (problem : Problem) (fair : IsProper problem) (at : ℕ → ℕ) (blocks : ℕ) (legal : IsLegalAt problem at blocks) (settled : IsSettled problem at) where
  steps_met : (facts : Facts) (steps : List Record) (gives : List Fact) → Steps problem facts steps gives → Meets at facts → Meets at (after facts gives)
  steps_met facts [] [] s met = met
  steps_met facts (Step n f g h ∷ steps) (x ∷ gives) s met =
      let p = given-some problem facts (rule_named problem 2 n f g h) x s.0 in
      steps_met (with_fact x facts) steps gives s.2
      (subst (λ y. Meets at (with_fact y facts)) p.3 (rule_met problem at facts p.0 (rule_sound problem fair at blocks legal settled facts 2 n f g h p.0 p.1 p.2) p.2 met))
  steps_met facts [] (x ∷ gives) s met = absurd s
  steps_met facts (Step n f g h ∷ steps) [] s met = absurd s
  steps_met facts (Branch f g ∷ steps) gives s met = absurd s
  steps_met facts (Dead f g ∷ steps) gives s met = absurd s
  steps_met facts (Worth w ∷ steps) gives s met = absurd s
  steps_met facts (End ∷ steps) gives s met = absurd s
  steps_met facts (Flush n k v ∷ steps) gives s met = absurd s
  steps_met facts (Plan l ∷ steps) gives s met = absurd s
  steps_met facts (Cost c ∷ steps) gives s met = absurd s
  steps_met facts (Bound b ∷ steps) gives s met = absurd s

pub plans_keep_facts : PlansKeepFacts
plans_keep_facts list at blocks formed legal settled =
    record {
      roots = root_met (problem_of list) at blocks legal;
      steps = steps_met (problem_of list) (proper list formed) at blocks legal settled;
    }
