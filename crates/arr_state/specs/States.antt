-- What a contract sees of a state.
use Rattle.std.specs.Prelude.{◌≡◌, ◌⊎◌, ℕ, ◌≤◌, Bool, cond, List, [], ◌∷◌, ◌++◌, length, is_some}
use Rattle.std.specs.Option.{option_to_list}
use Rattle.arr_ops.specs.declared.op.Op.{Op}
use Rattle.arr_law.specs.declared.fact.Fact.{Fact}
use Rattle.arr_law.specs.declared.record.Record.{Record}
use Rattle.arr_law.specs.declared.record.Record.TheVariants.{Step}
use Rattle.arr_law.specs.Problem.{Problem}
use Rattle.arr_law.specs.ProblemOf.{problem_of}
use Rattle.arr_law.specs.Facts.{Facts, facts_of}
use Rattle.arr_law.specs.Floor.{IsClosed}
use Rattle.arr_law.specs.Rules.{rule_named}
use Rattle.arr_state.specs.declared.outcome.Outcome.{Outcome}
use Rattle.arr_state.specs.declared.outcome.Outcome.TheVariants.{Closed, Contradiction, Spent}
use Rattle.arr_state.specs.Steps.{Steps, given, third}
use Rattle.arr_state.specs.Went.{CanGoOn, IsClash}

-- a list, and the decisions and the facts of steps in the order in which they came
pub record Standing : Type 0 where
  pub list : List Op
  pub trail : List Fact

-- what is known: what the list alone gives, and those
abbrev pub known : Standing → Facts
known s = facts_of (problem_of s.list) s.trail

-- of no pair both Same and Apart are known
abbrev pub IsConsistent : Facts → Type 0
IsConsistent facts = (f g : ℕ) → IsClash facts f g → ⊥

-- the outcome, where the facts are consistent, or else a contradiction
abbrev pub IsEnded : Facts → Outcome → Outcome → Type 0
IsEnded facts outcome result = ((result ≡ outcome) × IsConsistent facts) ⊎ ((f g : ℕ) × (result ≡ Contradiction f g) × IsClash facts f g)

-- what is known where steps end, after so many of them
abbrev pub Ends : Problem → ℕ → Facts → ℕ → Outcome → Type 0
Ends problem budget facts n Closed = IsClosed problem facts × IsConsistent facts
Ends problem budget facts n (Contradiction f g) = IsClash facts f g
Ends problem budget facts n Spent = (n ≡ budget) × CanGoOn problem facts × IsConsistent facts

-- where a rule applies its step was appended, and what it gives is known; where it doesn't nothing changed
pub record TookStep (problem : Problem) (rule f g h : ℕ) (trail trail' : List Fact) (tree tree' : List Record) (taken : Bool) : Type 0 where
  pub taken_is : taken ≡ is_some (given problem (facts_of problem trail) (rule_named problem 2 rule f g h))
  pub trail_is : trail' ≡ trail ++ option_to_list (given problem (facts_of problem trail) (rule_named problem 2 rule f g h))
  pub tree_is : tree' ≡ tree ++ cond taken (Step rule f g (third rule h) ∷ []) []

-- records were appended, at most `budget`, each a step that applies and gives the next new fact
pub record Saturated (problem : Problem) (budget : ℕ) (trail trail' : List Fact) (tree tree' : List Record) (outcome : Outcome) : Type 0 where
  pub steps : List Record
  pub gives : List Fact
  pub tree_is : tree' ≡ tree ++ steps
  pub trail_is : trail' ≡ trail ++ gives
  pub are_steps : Steps problem (facts_of problem trail) steps gives
  pub within : length steps ≤ budget
  pub ends : Ends problem budget (facts_of problem trail') (length steps) outcome
