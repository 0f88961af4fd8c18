-- The rules that give new facts from known ones.
use Rattle.std.specs.Prelude.{ℕ, ◌-◌, Bool, cond, not, ◌&&◌, ◌==◌, List, [], ◌∷◌, Option, Some, None, map, slice_get, nat_le}
use Rattle.std.specs.List.{list_all, filter}
use Rattle.arr_ops.specs.Formed.{all_pairs}
use Rattle.arr_law.specs.declared.fact.Fact.{Fact}
use Rattle.arr_law.specs.declared.fact.Fact.TheVariants.{Same, Apart, Before}
use Rattle.arr_law.specs.Problem.{Problem, is_op, operations, ends_base_of}
use Rattle.arr_law.specs.Facts.{Facts}

-- a rule at some operations
pub record Rule : Type 0 where
  pub operations : List ℕ
  pub premises : List Fact
  pub gives : Fact

-- rules 3 to 8
abbrev pub rule_list : ℕ → ℕ → ℕ → List Rule
rule_list f g h =
    record { operations = f ∷ g ∷ []; premises = Same f g ∷ []; gives = Before f g }
    ∷ record { operations = f ∷ g ∷ h ∷ []; premises = Before f g ∷ Before g h ∷ []; gives = Before f h }
    ∷ record { operations = f ∷ g ∷ []; premises = Before f g ∷ Before g f ∷ []; gives = Same f g }
    ∷ record { operations = f ∷ g ∷ h ∷ []; premises = Same f g ∷ Apart g h ∷ []; gives = Apart f h }
    ∷ record { operations = f ∷ g ∷ h ∷ []; premises = Before f g ∷ Before g h ∷ Apart f g ∷ []; gives = Apart f h }
    ∷ record { operations = f ∷ g ∷ h ∷ []; premises = Before f g ∷ Before g h ∷ Apart g h ∷ []; gives = Apart f h }
    ∷ []

-- the operations other than f that have a view of the base that g ends
abbrev pub other_users : Problem → ℕ → ℕ → List ℕ
other_users problem f g = filter (λ u. ends_base_of problem u g && (not (u == f) && not (u == g))) (operations problem)

-- rule 9: a FREE g joins the user f that all other users stand before
abbrev pub free_rule : Problem → ℕ → ℕ → Rule
free_rule problem f g = record { operations = f ∷ g ∷ []; premises = map (λ u. Before u f) (other_users problem f g); gives = Same f g }

-- the rule of a number at some operations; rule 9 is one of version 2 alone
abbrev pub rule_named : Problem → ℕ → ℕ → ℕ → ℕ → ℕ → Option Rule
rule_named problem version number f g h =
    cond (number == 9)
    (cond ((version == 2) && ends_base_of problem f g) (Some (free_rule problem f g)) None)
    (cond (nat_le 3 number) (slice_get (rule_list f g h) (number - 3)) None)

-- a rule may be applied: its operations are of the list and differ, its premises are known, and what it gives is new
abbrev pub applies : Problem → Facts → Rule → Bool
applies problem facts rule =
    (list_all (is_op problem) rule.operations && all_pairs (λ f g. not (f == g)) rule.operations)
    && (list_all facts rule.premises && not (facts rule.gives))
