-- Each rule keeps the facts true.
use Rattle.std.proofs.Common.{◌≡◌, ℕ, zero, suc, ◌-◌, ◌≤◌, List, [], ◌∷◌, map, Bool, true, false, cond, not, ◌&&◌, Option, Some, None, refl, sym, ap, ◌∙◌, subst, arith, ⊎_elim}
use Rattle.std.specs.Prelude.{nat_le, ◌==◌, slice_get}
use Rattle.std.specs.List.{list_all, list_any, AllByRecursion}
use Rattle.std.specs.Option.{option_to_list}
use Rattle.std.proofs.lemmas.Bool.{and_parts, and_from, not-true, eqb-true, ne_eqb, true≢false, cases_eq, or_left}
use Rattle.arr_view.specs.Views.{has}
use Rattle.arr_ops.specs.Formed.{all_pairs}
use Rattle.arr_ops.proofs.Pairs.{All_weaker}
use Rattle.arr_ops.proofs.Tests.{or_cases, all_of}
use Rattle.arr_law.specs.declared.fact.Fact.{Fact}
use Rattle.arr_law.specs.declared.fact.Fact.TheVariants.{Same, Apart, Before}
use Rattle.arr_law.specs.Problem.{Problem, is_op, is_pair, operations, ends_base_of}
use Rattle.arr_law.specs.Facts.{holds, Facts, is_fact, with_fact, root_facts, Meets}
use Rattle.arr_law.specs.Rules.{Rule, rule_list, other_users, free_rule, rule_named, applies}
use Rattle.arr_law.specs.Plans.{IsLegalAt}
use Rattle.arr_law.specs.Settled.{IsProper, IsSettled}
use Rattle.arr_law.proofs.Members.{has_ops, pair_from, filter_has}

pub root_met : (problem : Problem) (at : ℕ → ℕ) (blocks : ℕ) → IsLegalAt problem at blocks → Meets at (root_facts problem)
root_met problem at blocks legal (Same f g) e = absurd (true≢false (sym e))
root_met problem at blocks legal (Apart f g) e =
    let h = and_parts (is_pair problem f g) (not (problem.fusible f g)) e in
    λ same. true≢false (sym (legal.together f g h.0 same) ∙ not-true _ h.1)
root_met problem at blocks legal (Before f g) e =
    let h = and_parts (is_pair problem f g) (problem.dep f g) e in
    legal.forward f g h.0 h.1

-- two spellings of one fact say the same
pub same_fact_holds : (x y : Fact) (at : ℕ → ℕ) → is_fact x y ≡ true → holds x at → holds y at
same_fact_holds (Same f g) (Same h k) at e m =
    or_cases ((f == h) && (g == k)) ((f == k) && (g == h)) e
    (λ s. let p = and_parts (f == h) (g == k) s in ap at (sym (eqb-true f h p.0)) ∙ (m ∙ ap at (eqb-true g k p.1)))
    (λ s. let p = and_parts (f == k) (g == h) s in ap at (sym (eqb-true g h p.1)) ∙ (sym m ∙ ap at (eqb-true f k p.0)))
same_fact_holds (Apart f g) (Apart h k) at e m =
    or_cases ((f == h) && (g == k)) ((f == k) && (g == h)) e
    (λ s same. let p = and_parts (f == h) (g == k) s in m (ap at (eqb-true f h p.0) ∙ (same ∙ ap at (sym (eqb-true g k p.1)))))
    (λ s same. let p = and_parts (f == k) (g == h) s in m (ap at (eqb-true f k p.0) ∙ (sym same ∙ ap at (sym (eqb-true g h p.1)))))
same_fact_holds (Before f g) (Before h k) at e m =
    let p = and_parts (f == h) (g == k) e in
    omega (arith, m, ap at (eqb-true f h p.0), ap at (eqb-true g k p.1))
same_fact_holds (Same f g) (Apart h k) at e m = absurd (true≢false (sym e))
same_fact_holds (Same f g) (Before h k) at e m = absurd (true≢false (sym e))
same_fact_holds (Apart f g) (Same h k) at e m = absurd (true≢false (sym e))
same_fact_holds (Apart f g) (Before h k) at e m = absurd (true≢false (sym e))
same_fact_holds (Before f g) (Same h k) at e m = absurd (true≢false (sym e))
same_fact_holds (Before f g) (Apart h k) at e m = absurd (true≢false (sym e))

pub with_met : (at : ℕ → ℕ) (facts : Facts) (x : Fact) → Meets at facts → holds x at → Meets at (with_fact x facts)
with_met at facts x met h y e = or_cases (is_fact x y) (facts y) e (λ s. same_fact_holds x y at s h) (λ k. met y k)

abbrev pub IsSound : (ℕ → ℕ) → Rule → Type 0
IsSound at rule = AllByRecursion (λ x. holds x at) rule.premises → holds rule.gives at

all_sound : (at : ℕ → ℕ) (f g h : ℕ) → AllByRecursion (IsSound at) (rule_list f g h)
all_sound at f g h = (
  λ p. omega (arith, p.0),
  (
    λ p. omega (arith, p.0, p.1.0),
    (
      λ p. omega (arith, p.0, p.1.0),
      (
        λ p. omega (arith, p.0, p.1.0),
        (
          λ p. omega (arith, p.0, p.1.0, p.1.1.0),
          (
            λ p. omega (arith, p.0, p.1.0, p.1.1.0),
            tt,
          ),
        ),
      ),
    ),
  ),
)

each_at : {A : Type 0} (P : A → Type 0) (xs : List A) (k : ℕ) (x : A) → AllByRecursion P xs → slice_get xs k ≡ Some x → P x
each_at P [] k x p e = absurd (cc)
each_at P (y ∷ ys) zero x p e = let s : y ≡ x = cc in subst P s p.0
each_at P (y ∷ ys) (suc k) x p e = each_at P ys k x p.1 e

-- the fact of each of the others
all_map : (P : Fact → Type 0) (f : ℕ) (us : List ℕ) → AllByRecursion P (map (λ u. Before u f) us) → (u : ℕ) → has us u ≡ true → P (Before u f)
all_map P f [] e u h = absurd (true≢false (sym h))
all_map P f (x ∷ us) e u h =
    or_cases (u == x) (has us u) h (λ here. subst (λ y. P (Before y f)) (sym (eqb-true u x here)) e.0) (λ later. all_map P f us e.1 u later)

-- what a rule that applies gives is met too
pub rule_met : (problem : Problem) (at : ℕ → ℕ) (facts : Facts) (rule : Rule) → IsSound at rule → applies problem facts rule ≡ true → Meets at facts → Meets at (with_fact rule.gives facts)
rule_met problem at facts rule sound e met =
    let h = and_parts (list_all (is_op problem) rule.operations && all_pairs (λ f g. not (f == g)) rule.operations) (list_all facts rule.premises && not (facts rule.gives)) e in
    let k = and_parts (list_all facts rule.premises) (not (facts rule.gives)) h.1 in
    with_met at facts rule.gives met (sound (All_weaker (λ x. facts x ≡ true) (λ x. holds x at) met rule.premises (all_of facts rule.premises k.0)))

-- the two operations of a rule that applies are a pair
pair_of_rule : (problem : Problem) (facts : Facts) (f g : ℕ) (premises : List Fact) (gives : Fact) → applies problem facts (record { operations = f ∷ g ∷ []; premises = premises; gives = gives }) ≡ true → is_pair problem f g ≡ true
pair_of_rule problem facts f g premises gives a =
    let h = and_parts ((is_op problem f && (is_op problem g && true)) && ((not (f == g) && true) && (true && true))) (list_all facts premises && not (facts gives)) a in
    let k = and_parts (is_op problem f && (is_op problem g && true)) ((not (f == g) && true) && (true && true)) h.0 in
    let l = and_parts (is_op problem f) (is_op problem g && true) k.0 in
    pair_from problem f g l.0 (and_parts (is_op problem g) true l.1).0 (and_parts (not (f == g)) true (and_parts (not (f == g) && true) (true && true) k.1).0).0

module _ (problem : Problem) (proper : IsProper problem) (at : ℕ → ℕ) (blocks : ℕ) (legal : IsLegalAt problem at blocks) (settled : IsSettled problem at) where
  -- a FREE stands with the user that all others stand before
  joins : (b f g : ℕ) → problem.frees g ≡ Some b → problem.names f b ≡ true → is_pair problem f g ≡ true → AllByRecursion (λ x. holds x at) (map (λ u. Before u f) (other_users problem f g)) → at f ≡ at g
  joins b f g is n pair premises =
      let p = Rattle.arr_law.proofs.Members.pair_ops problem f g pair in
      let low : at f ≤ at g = legal.forward f g pair (proper.users f g b is n) in
      let w = settled g b f is p.1 p.0 n in
      let user : ends_base_of problem w.0 g ≡ true = subst (λ o. list_any (problem.names w.0) (option_to_list o) ≡ true) (sym is) (or_left (problem.names w.0 b) false w.2) in
      let high : at w.0 ≤ at f =
      ⊎_elim (λ (same : w.0 ≡ f). omega (arith, ap at same))
      (λ (other : w.0 ≡ f → ⊥). all_map (λ x. holds x at) f (other_users problem f g) premises w.0
      (filter_has (λ u. ends_base_of problem u g && (not (u == f) && not (u == g))) (operations problem) w.0 (has_ops problem w.0 w.1)
      (and_from (ends_base_of problem w.0 g) (not (w.0 == f) && not (w.0 == g)) user
      (and_from (not (w.0 == f)) (not (w.0 == g)) (ap not (ne_eqb w.0 f other))
      (ap not (ne_eqb w.0 g (λ same. proper.nameless g b b is (subst (λ x. problem.names x b ≡ true) same w.2))))))))
      (cases_eq w.0 f) in
      omega (arith, w.3)

  free_sound : (facts : Facts) (f g : ℕ) (o : Option ℕ) → problem.frees g ≡ o → list_any (problem.names f) (option_to_list o) ≡ true → applies problem facts (free_rule problem f g) ≡ true → IsSound at (free_rule problem f g)
  free_sound facts f g None is e a = absurd (true≢false (sym e))
  free_sound facts f g (Some b) is e a =
      or_cases (problem.names f b) false e
      (λ n. joins b f g is n (pair_of_rule problem facts f g (map (λ u. Before u f) (other_users problem f g)) (Same f g) a))
      (λ no. absurd (true≢false (sym no)))

  pub rule_sound : (facts : Facts) (version n f g h : ℕ) (rule : Rule) → rule_named problem version n f g h ≡ Some rule → applies problem facts rule ≡ true → IsSound at rule
  rule_sound facts version n f g h rule e a = go (n == 9) e
    where
      inner : (b : Bool) → (b ≡ true → ends_base_of problem f g ≡ true) → cond b (Some (free_rule problem f g)) None ≡ Some rule → IsSound at rule
      inner false k s = absurd (cc)
      inner true k s =
          let same : free_rule problem f g ≡ rule = cc in
          subst (λ r. applies problem facts r ≡ true → IsSound at r) same (free_sound facts f g (problem.frees g) refl (k refl)) a

      listed : (b : Bool) → cond b (slice_get (rule_list f g h) (n - 3)) None ≡ Some rule → IsSound at rule
      listed true s = each_at (IsSound at) (rule_list f g h) (n - 3) rule (all_sound at f g h) s
      listed false s = absurd (cc)

      go : (b : Bool) → cond b (cond ((version == 2) && ends_base_of problem f g) (Some (free_rule problem f g)) None) (cond (nat_le 3 n) (slice_get (rule_list f g h) (n - 3)) None) ≡ Some rule → IsSound at rule
      go true s = inner ((version == 2) && ends_base_of problem f g) (λ k. (and_parts (version == 2) (ends_base_of problem f g) k).1) s
      go false s = listed (nat_le 3 n) s
