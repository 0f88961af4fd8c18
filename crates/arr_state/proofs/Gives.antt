-- What a step that gives a fact says.
use Rattle.std.proofs.Common.{◌≡◌, ◌≢◌, ℕ, zero, suc, ◌-◌, ◌<◌, ◌≤◌, length, arith, List, [], ◌∷◌, Bool, true, false, cond, not, ◌&&◌, Option, Some, None, refl, sym, ap, ◌∙◌, subst}
use Rattle.std.specs.Prelude.{nat_le, ◌==◌, ◌||◌, slice_get}
use Rattle.std.specs.List.{list_all, AllByRecursion}
use Rattle.std.proofs.lemmas.Bool.{and_parts, not-true, leb-true, eqb-true}
use Rattle.arr_ops.proofs.Tests.{all_of}
use Rattle.arr_ops.specs.Formed.{all_pairs}
use Rattle.arr_law.specs.declared.fact.Fact.{Fact}
use Rattle.arr_law.specs.Problem.{Problem, is_op, ends_base_of}
use Rattle.arr_law.specs.Facts.{Facts}
use Rattle.arr_law.specs.Rules.{Rule, rule_list, free_rule, rule_named, applies}
use Rattle.arr_state.specs.Known.{AreOps}
use Rattle.arr_state.specs.Steps.{given, third}
use Rattle.arr_state.specs.Went.{CanGoOn}
use Rattle.arr_state.proofs.Basics.{by_bool}

pub given-some : (problem : Problem) (facts : Facts) (o : Option Rule) (x : Fact) → given problem facts o ≡ Some x → (rule : Rule) × (o ≡ Some rule) × (applies problem facts rule ≡ true) × (rule.gives ≡ x)
given-some problem facts None x e = absurd (cc)
given-some problem facts (Some rule) x e = by_bool (applies problem facts rule) yes_ (λ f. absurd (false_case (sym (ap (λ b. cond b (Some rule.gives) None) f) ∙ e)))
  where
    yes_ : applies problem facts rule ≡ true → (r : Rule) × (Some rule ≡ Some r) × (applies problem facts r ≡ true) × (r.gives ≡ x)
    yes_ t = let s : Some rule.gives ≡ Some x = sym (ap (λ b. cond b (Some rule.gives) None) t) ∙ e in (rule, refl, t, cc)

    false_case : None ≡ Some x → ⊥
    false_case h = cc

each_at : {A : Type 0} (P : A → Type 0) (xs : List A) (k : ℕ) (x : A) → AllByRecursion P xs → slice_get xs k ≡ Some x → P x
each_at P [] k x p e = absurd (cc)
each_at P (y ∷ ys) zero x p e = let s : y ≡ x = cc in subst P s p.0
each_at P (y ∷ ys) (suc k) x p e = each_at P ys k x p.1 e

-- the fact that a rule gives is about the rule's operations
abbrev GivesOps : Problem → Rule → Type 0
GivesOps problem rule = AllByRecursion (λ f. is_op problem f ≡ true) rule.operations → AreOps problem rule.gives

all_give : (problem : Problem) (f g h : ℕ) → AllByRecursion (GivesOps problem) (rule_list f g h)
all_give problem f g h = (
  λ p. record { left = p.0; right = p.1.0 },
  (
    λ p. record { left = p.0; right = p.1.1.0 },
    (
      λ p. record { left = p.0; right = p.1.0 },
      (λ p. record { left = p.0; right = p.1.1.0 }, (λ p. record { left = p.0; right = p.1.1.0 }, (λ p. record { left = p.0; right = p.1.1.0 }, tt))),
    ),
  ),
)

gives_ops : (problem : Problem) (n f g h : ℕ) (rule : Rule) → rule_named problem 2 n f g h ≡ Some rule → GivesOps problem rule
gives_ops problem n f g h rule e = start (n == 9) e
  where
    go : (b : Bool) → cond b (slice_get (rule_list f g h) (n - 3)) None ≡ Some rule → GivesOps problem rule
    go true s = each_at (GivesOps problem) (rule_list f g h) (n - 3) rule (all_give problem f g h) s
    go false s = absurd (cc)

    frees : (b : Bool) → cond b (Some (free_rule problem f g)) None ≡ Some rule → GivesOps problem rule
    frees true s = let same : free_rule problem f g ≡ rule = cc in subst (GivesOps problem) same (λ p. record { left = p.0; right = p.1.0 })
    frees false s = absurd (cc)

    start : (b : Bool) → cond b (cond (ends_base_of problem f g) (Some (free_rule problem f g)) None) (cond (nat_le 3 n) (slice_get (rule_list f g h) (n - 3)) None) ≡ Some rule → GivesOps problem rule
    start true s = frees (ends_base_of problem f g) s
    start false s = go (nat_le 3 n) s

pub given_new : (problem : Problem) (facts : Facts) (n f g h : ℕ) (x : Fact) → given problem facts (rule_named problem 2 n f g h) ≡ Some x → (facts x ≡ false) × AreOps problem x
given_new problem facts n f g h x e =
    let p = given-some problem facts (rule_named problem 2 n f g h) x e in
    let a = and_parts (list_all (is_op problem) p.0.operations && all_pairs (λ f g. not (f == g)) p.0.operations) (list_all facts p.0.premises && not (facts p.0.gives)) p.2 in
    let k = and_parts (list_all facts p.0.premises) (not (facts p.0.gives)) a.1 in
    let o = and_parts (list_all (is_op problem) p.0.operations) (all_pairs (λ f g. not (f == g)) p.0.operations) a.0 in (
      ap facts (sym p.3) ∙ not-true _ k.1,
      subst (AreOps problem) p.3 (gives_ops problem n f g h p.0 p.1 (all_of (is_op problem) p.0.operations o.0)),
    )

pub given_on : (problem : Problem) (facts : Facts) (n f g h : ℕ) (x : Fact) → given problem facts (rule_named problem 2 n f g h) ≡ Some x → CanGoOn problem facts
given_on problem facts n f g h x e = let p = given-some problem facts (rule_named problem 2 n f g h) x e in (n, f, g, h, p.0, p.1, p.2)

in_list : (rules : List Rule) (k : ℕ) (rule : Rule) → slice_get rules k ≡ Some rule → k < length rules
in_list [] k rule e = absurd (cc)
in_list (r ∷ rules) zero rule e = omega arith
in_list (r ∷ rules) (suc k) rule e = omega (arith, in_list rules k rule e)

-- no rule has another number
pub given_none : (problem : Problem) (facts : Facts) (n f g h : ℕ) → n ≢ 3 → n ≢ 4 → n ≢ 5 → n ≢ 6 → n ≢ 7 → n ≢ 8 → n ≢ 9 → None ≡ given problem facts (rule_named problem 2 n f g h)
given_none problem facts n f g h n3 n4 n5 n6 n7 n8 n9 = unnamed (rule_named problem 2 n f g h) refl
  where
    listed : (b : Bool) → nat_le 3 n ≡ b → (rule : Rule) → cond b (slice_get (rule_list f g h) (n - 3)) None ≡ Some rule → ⊥
    listed true e rule s =
        let l : n - 3 < 6 = in_list (rule_list f g h) (n - 3) rule s in
        let m : 3 ≤ n = leb-true 3 n e in
        absurd (omega (arith, l, m, n3, n4, n5, n6, n7, n8))
    listed false e rule s = absurd (cc)

    start : (b : Bool) → (n == 9) ≡ b → (rule : Rule) → cond b (cond (ends_base_of problem f g) (Some (free_rule problem f g)) None) (cond (nat_le 3 n) (slice_get (rule_list f g h) (n - 3)) None) ≡ Some rule → ⊥
    start true e rule s = n9 (eqb-true n 9 e)
    start false e rule s = listed (nat_le 3 n) refl rule s

    unnamed : (o : Option Rule) → rule_named problem 2 n f g h ≡ o → None ≡ given problem facts o
    unnamed None e = refl
    unnamed (Some rule) e = absurd (start (n == 9) refl rule e)

-- a rule that takes two operations is the same whatever the third
pub third_same : (problem : Problem) (n f g h : ℕ) → rule_named problem 2 n f g (third n h) ≡ rule_named problem 2 n f g h
third_same problem n f g h = by_bool (n == 3) (λ e. at_three (eqb-true n 3 e)) (λ a. by_bool (n == 5) (λ e. at_five (eqb-true n 5 e)) (λ b. by_bool (n == 9) (λ e. at_nine (eqb-true n 9 e)) (λ c. elsewhere a b c)))
  where
    at_three : n ≡ 3 → rule_named problem 2 n f g (third n h) ≡ rule_named problem 2 n f g h
    at_three e = subst (λ m. rule_named problem 2 m f g (third m h) ≡ rule_named problem 2 m f g h) (sym e) refl

    at_five : n ≡ 5 → rule_named problem 2 n f g (third n h) ≡ rule_named problem 2 n f g h
    at_five e = subst (λ m. rule_named problem 2 m f g (third m h) ≡ rule_named problem 2 m f g h) (sym e) refl

    at_nine : n ≡ 9 → rule_named problem 2 n f g (third n h) ≡ rule_named problem 2 n f g h
    at_nine e = subst (λ m. rule_named problem 2 m f g (third m h) ≡ rule_named problem 2 m f g h) (sym e) refl

    elsewhere : (n == 3) ≡ false → (n == 5) ≡ false → (n == 9) ≡ false → rule_named problem 2 n f g (third n h) ≡ rule_named problem 2 n f g h
    elsewhere a b c = ap (rule_named problem 2 n f g) (ap (λ t. cond (t || ((n == 5) || (n == 9))) 0 h) a ∙ (ap (λ t. cond (t || (n == 9)) 0 h) b ∙ ap (λ t. cond t 0 h) c))

pub third_twice : (n h : ℕ) → third n (third n h) ≡ third n h
third_twice n h = go ((n == 3) || ((n == 5) || (n == 9)))
  where
    go : (b : Bool) → cond b 0 (cond b 0 h) ≡ cond b 0 h
    go true = refl
    go false = refl
