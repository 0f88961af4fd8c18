-- The rule of a FREE.
use Rattle.std.proofs.Common.{◌≡◌, ℕ, List, [], ◌∷◌, Bool, true, false, cond, not, ◌&&◌, ◌||◌, Option, Some, None, map, refl, sym, ap, ◌∙◌}
use Rattle.std.specs.Prelude.{◌==◌}
use Rattle.std.specs.List.{filter, list_all}
use Rattle.arr_law.specs.declared.fact.Fact.{Fact}
use Rattle.arr_law.specs.declared.fact.Fact.TheVariants.{Same, Before}
use Rattle.arr_law.specs.Problem.{Problem, is_op, ends_base_of, operations}
use Rattle.arr_law.specs.Facts.{Facts}
use Rattle.arr_law.specs.Rules.{free_rule, other_users}
use Rattle.arr_check.specs.Steps.{free_rule_in, given}

served_all : (facts : Facts) (b : ℕ → Fact) (t : ℕ → Bool) (xs : List ℕ) → list_all facts (map b (filter t xs)) ≡ list_all (λ u. not (t u) || facts (b u)) xs
served_all facts b t [] = refl
served_all facts b t (x ∷ xs) =
    elim (t x) as (λ c. list_all facts (map b (cond c (x ∷ filter t xs) (filter t xs))) ≡ ((not c || facts (b x)) && list_all (λ u. not (t u) || facts (b u)) xs)) [
      | true ↦ ap (λ r. facts (b x) && r) (served_all facts b t xs)
      | false ↦ served_all facts b t xs
    ]

pub users_served : (problem : Problem) (facts : Facts) (f g : ℕ) → list_all (λ u. not (ends_base_of problem u g && (not (u == f) && not (u == g))) || facts (Before u f)) (operations problem)
    ≡ list_all facts (map (λ u. Before u f) (other_users problem f g))
users_served problem facts f g = sym (served_all facts (λ u. Before u f) (λ u. ends_base_of problem u g && (not (u == f) && not (u == g))) (operations problem))

shuffle : (v a b c e k : Bool) (X : Type 0) (x y : X) → cond (v && (a && (b && (c && (e && k))))) x y ≡ cond (v && e) (cond (((a && (b && true)) && ((c && true) && (true && true))) && k) x y) y
shuffle false a b c e k X x y = refl
shuffle true true true true true k X x y = refl
shuffle true true true true false k X x y = refl
shuffle true true true false true k X x y = refl
shuffle true true true false false k X x y = refl
shuffle true true false c true k X x y = refl
shuffle true true false c false k X x y = refl
shuffle true false b c true k X x y = refl
shuffle true false b c false k X x y = refl

given_in : (problem : Problem) (facts : Facts) (f g : ℕ) (b : Bool) → given problem facts (cond b (Some (free_rule problem f g)) None) ≡ cond b (given problem facts (Some (free_rule problem f g))) None
given_in problem facts f g true = refl
given_in problem facts f g false = refl

pub joined_when : (problem : Problem) (facts : Facts) (version f g : ℕ) (b : Bool) (o : Option Fact)
    → b ≡ ((version == 2) && (is_op problem f && (is_op problem g && (not (f == g) && (ends_base_of problem f g && (list_all facts (map (λ u. Before u f) (other_users problem f g)) && not (facts (Same f g))))))))
    → o ≡ cond b (Some (Same f g)) None → o ≡ given problem facts (free_rule_in problem version f g)
joined_when problem facts version f g b o e h =
    h ∙ ap (λ c. cond c (Some (Same f g)) None) e
    ∙ shuffle (version == 2) (is_op problem f) (is_op problem g) (not (f == g)) (ends_base_of problem f g) (list_all facts (map (λ u. Before u f) (other_users problem f g)) && not (facts (Same f g))) (Option Fact) (Some (Same f g)) None
    ∙ sym (given_in problem facts f g ((version == 2) && ends_base_of problem f g))
