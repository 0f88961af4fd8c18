-- No plan costs less than a floor under facts that the list gives.
use Rattle.std.proofs.Common.{◌≡◌, ℕ, ◌≤◌, true, not, ◌&&◌, sym, ap, ◌∙◌, arith}
use Rattle.std.specs.Prelude.{nat_le, ◌==◌}
use Rattle.std.specs.List.{list_all}
use Rattle.std.proofs.lemmas.Bool.{and_parts, not-true, true≢false, eqb-true, eqb-false, eq-eqb, ne_eqb, leb-true, le-leb, false_from_ne_true}
use Rattle.arr_ops.specs.Formed.{all_pairs}
use Rattle.arr_ops.proofs.Pairs.{All_weaker}
use Rattle.arr_ops.proofs.Tests.{all_of}
use Rattle.arr_law.specs.declared.fact.Fact.{Fact}
use Rattle.arr_law.specs.declared.fact.Fact.TheVariants.{Same, Apart, Before}
use Rattle.arr_law.specs.Problem.{Problem, is_op}
use Rattle.arr_law.specs.Facts.{holds, Facts, Meets}
use Rattle.arr_law.specs.Rules.{applies}
use Rattle.arr_law.specs.Plans.{IsLegalAt, cost_at}
use Rattle.arr_law.specs.Settled.{IsProper, IsSettled, settle}
use Rattle.arr_law.specs.Floor.{floor, Follows}
use Rattle.arr_law.proofs.Keeps.{root_met, same_fact_holds, rule_sound}
use Rattle.arr_law.proofs.Pays.{floor_pays}
use Rattle.arr_law.proofs.Settles.{settles}

-- the facts that the places meet
abbrev met_by : (ℕ → ℕ) → Facts
met_by at (Same f g) = at f == at g
met_by at (Apart f g) = not (at f == at g)
met_by at (Before f g) = nat_le (at f) (at g)

met_holds : (at : ℕ → ℕ) (x : Fact) → met_by at x ≡ true → holds x at
met_holds at (Same f g) e = eqb-true (at f) (at g) e
met_holds at (Apart f g) e = eqb-false (at f) (at g) (not-true _ e)
met_holds at (Before f g) e = leb-true (at f) (at g) e

holds_met : (at : ℕ → ℕ) (x : Fact) → holds x at → met_by at x ≡ true
holds_met at (Same f g) h = eq-eqb (at f) (at g) h
holds_met at (Apart f g) h = ap not (ne_eqb (at f) (at g) h)
holds_met at (Before f g) h = le-leb (at f) (at g) h

module _ (problem : Problem) (proper : IsProper problem) (facts : Facts) (follows : Follows problem facts) where
  -- settled places meet all that follows from the list
  follows_met : (at : ℕ → ℕ) (blocks : ℕ) → IsLegalAt problem at blocks → IsSettled problem at → Meets at facts
  follows_met at blocks legal settled x e =
      met_holds at x
      (follows (met_by at) (λ y r. holds_met at y (root_met problem at blocks legal y r)) (λ y z s m. holds_met at z (same_fact_holds y z at s (met_holds at y m)))
      (λ n f g h rule is. false_from_ne_true (applies problem (met_by at) rule) (λ a.
      let p = and_parts (list_all (is_op problem) rule.operations && all_pairs (λ f g. not (f == g)) rule.operations) (list_all (met_by at) rule.premises && not (met_by at rule.gives)) a in
      let q = and_parts (list_all (met_by at) rule.premises) (not (met_by at rule.gives)) p.1 in
      let premises = All_weaker (λ x. met_by at x ≡ true) (λ x. holds x at) (met_holds at) rule.premises (all_of (met_by at) rule.premises q.0) in
      true≢false (sym (holds_met at rule.gives (rule_sound problem proper at blocks legal settled (met_by at) 2 n f g h rule is a premises)) ∙ not-true _ q.1))) x e)

  pub floor_low : (at : ℕ → ℕ) (blocks : ℕ) → IsLegalAt problem at blocks → floor problem facts ≤ cost_at problem at blocks
  floor_low at blocks legal =
      let s = settles problem proper at blocks legal in
      omega (arith, s.cheaper, floor_pays problem (settle problem at) blocks s.legal facts (follows_met (settle problem at) blocks s.legal s.settled))
