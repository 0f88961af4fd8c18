-- What a step gives is right, new, and speaks of operations of the list.
use Rattle.std.proofs.Common.{◌≡◌, ℕ, zero, suc, ◌-◌, [], ◌∷◌, Bool, true, false, cond, not, ◌&&◌, Option, Some, None, refl, ap, ◌∙◌, subst}
use Rattle.std.specs.Prelude.{◌==◌, nat_le, slice_get}
use Rattle.std.specs.List.{list_all}
use Rattle.std.proofs.lemmas.Bool.{and_parts, not-true, false≢true}
use Rattle.arr_law.specs.declared.fact.Fact.{Fact}
use Rattle.arr_law.specs.declared.record.Record.TheVariants.{Step}
use Rattle.arr_law.specs.declared.reject.Reject.TheVariants.{BadStep}
use Rattle.arr_law.specs.Problem.{Problem, is_op, ends_base_of}
use Rattle.arr_law.specs.Facts.{Facts, with_fact}
use Rattle.arr_law.specs.Rules.{Rule, applies, free_rule, rule_list, rule_named}
use Rattle.arr_law.specs.Trees.{after_rule, step_fault, unless}
use Rattle.arr_ops.specs.Formed.{all_pairs}
use Rattle.arr_check.specs.declared.tree.Move.TheVariants.{Add, Wrong}
use Rattle.arr_check.specs.Known.{are_ops}
use Rattle.arr_check.specs.Steps.{given, DoesMove}

-- ---- the operations of a rule

first_two : (a b : Bool) → (a && (b && true)) ≡ true → (a && b) ≡ true
first_two true true e = refl
first_two true false e = e
first_two false b e = e

first_third : (a b c : Bool) → (a && (b && (c && true))) ≡ true → (a && c) ≡ true
first_third true true true e = refl
first_third true true false e = e
first_third true false c e = absurd (false≢true e)
first_third false b c e = e

abbrev Kept : Problem → Rule → Type 0
Kept P rule = list_all (is_op P) rule.operations ≡ true → are_ops P rule.gives ≡ true

some_is : (r rule : Rule) → Some r ≡ Some rule → r ≡ rule
some_is r rule e = cc

moved : (P : Problem) (r rule : Rule) → Kept P r → Some r ≡ Some rule → Kept P rule
moved P r rule k e = subst (λ (x : Rule). Kept P x) (some_is r rule e) k

none_kept : (P : Problem) (rule : Rule) → None ≡ Some rule → Kept P rule
none_kept P rule e = absurd (cc)

listed : (P : Problem) (f g h i : ℕ) (rule : Rule) → slice_get (rule_list f g h) i ≡ Some rule → Kept P rule
listed P f g h zero rule e = moved P _ rule (first_two (is_op P f) (is_op P g)) e
listed P f g h (suc zero) rule e = moved P _ rule (first_third (is_op P f) (is_op P g) (is_op P h)) e
listed P f g h (suc (suc zero)) rule e = moved P _ rule (first_two (is_op P f) (is_op P g)) e
listed P f g h (suc (suc (suc zero))) rule e = moved P _ rule (first_third (is_op P f) (is_op P g) (is_op P h)) e
listed P f g h (suc (suc (suc (suc zero)))) rule e = moved P _ rule (first_third (is_op P f) (is_op P g) (is_op P h)) e
listed P f g h (suc (suc (suc (suc (suc zero))))) rule e = moved P _ rule (first_third (is_op P f) (is_op P g) (is_op P h)) e
listed P f g h (suc (suc (suc (suc (suc (suc i)))))) rule e = none_kept P rule e

named : (P : Problem) (v n f g h : ℕ) (rule : Rule) → rule_named P v n f g h ≡ Some rule → Kept P rule
named P v n f g h rule e = go (n == 9) ((v == 2) && ends_base_of P f g) (nat_le 3 n) e
  where
    go : (a b c : Bool) → cond a (cond b (Some (free_rule P f g)) None) (cond c (slice_get (rule_list f g h) (n - 3)) None) ≡ Some rule → Kept P rule
    go true true c k = moved P (free_rule P f g) rule (first_two (is_op P f) (is_op P g)) k
    go true false c k = none_kept P rule k
    go false b true k = listed P f g h (n - 3) rule k
    go false b false k = none_kept P rule k

-- ---- a step

pub record Stepped (P : Problem) (facts : Facts) (o : Option Rule) (x : Fact) : Type 0 where
  pub rule : Rule
  pub is : o ≡ Some rule
  pub right : applies P facts rule ≡ true
  pub gives : rule.gives ≡ x

given_some : (P : Problem) (facts : Facts) (o : Option Rule) (x : Fact) → given P facts o ≡ Some x → Stepped P facts o x
given_some P facts None x e = absurd (cc)
given_some P facts (Some rule) x e = go (applies P facts rule) refl e
  where
    go : (b : Bool) → applies P facts rule ≡ b → cond b (Some rule.gives) None ≡ Some x → Stepped P facts (Some rule) x
    go true a k = let same : rule.gives ≡ x = cc in record { rule = rule; is = refl; right = a; gives = same }
    go false a k = absurd (cc)

given_none : (P : Problem) (facts : Facts) (o : Option Rule) → given P facts o ≡ None → step_fault P facts o ≡ Some BadStep
given_none P facts None e = refl
given_none P facts (Some rule) e = go (applies P facts rule) e
  where
    go : (b : Bool) → cond b (Some rule.gives) None ≡ None → unless b BadStep ≡ Some BadStep
    go true k = absurd (cc)
    go false k = refl

pub step_adds : (P : Problem) (v b : ℕ) (facts : Facts) (n f g h : ℕ) (x : Fact) → given P facts (rule_named P v n f g h) ≡ Some x → DoesMove P v b facts (Step n f g h) (Add x)
step_adds P v b facts n f g h x e =
    let s = given_some P facts (rule_named P v n f g h) x e in
    let parts = and_parts (list_all (is_op P) s.rule.operations && all_pairs (λ f g. not (f == g)) s.rule.operations) (list_all facts s.rule.premises && not (facts s.rule.gives)) s.right in
    let ops = and_parts (list_all (is_op P) s.rule.operations) (all_pairs (λ f g. not (f == g)) s.rule.operations) parts.0 in
    let new = and_parts (list_all facts s.rule.premises) (not (facts s.rule.gives)) parts.1 in (
      record {
        right = ap (step_fault P facts) s.is ∙ ap (λ b. unless b BadStep) s.right;
        leads = ap (after_rule facts) s.is ∙ ap (λ y. with_fact y facts ∷ []) s.gives;
      },
      record {
        ops = subst (λ y. are_ops P y ≡ true) s.gives (named P v n f g h s.rule s.is ops.0);
        new = subst (λ y. facts y ≡ false) s.gives (not-true (facts s.rule.gives) new.1);
      },
    )

pub step_wrong : (P : Problem) (v b : ℕ) (facts : Facts) (n f g h : ℕ) → given P facts (rule_named P v n f g h) ≡ None → DoesMove P v b facts (Step n f g h) (Wrong BadStep)
step_wrong P v b facts n f g h e = given_none P facts (rule_named P v n f g h) e
