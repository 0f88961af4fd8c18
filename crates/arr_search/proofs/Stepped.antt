-- What steps do to all that a search keeps.
use Rattle.std.proofs.Common.{◌≡◌, ℕ, zero, suc, ◌+◌, ◌-◌, ◌≤◌, List, [], ◌∷◌, ◌++◌, length, Bool, true, false, cond, not, ◌&&◌, ◌||◌, Option, Some, None, refl, sym, ap, ap₂, ◌∙◌, subst, arith, append_assoc, length-append}
use Rattle.std.specs.Prelude.{nat_le, ◌==◌, slice_get}
use Rattle.std.specs.List.{list_all, AllByRecursion}
use Rattle.std.proofs.lemmas.Bool.{and_parts, and_from, not-true, true≢false, eqb-true, eq-eqb, false_from_ne_true}
use Rattle.std.proofs.lemmas.List.Sums.{sum_by-append, fold-append}
use Rattle.arr_ops.specs.Formed.{all_pairs}
use Rattle.arr_ops.proofs.Tests.{or_cases, all_of}
use Rattle.arr_law.specs.declared.fact.Fact.{Fact}
use Rattle.arr_law.specs.declared.fact.Fact.TheVariants.{Apart}
use Rattle.arr_law.specs.declared.record.Record.{Record}
use Rattle.arr_law.specs.declared.record.Record.TheVariants.{Flush, Plan, Cost, Bound, Step, Branch, Dead, Worth, End}
use Rattle.arr_law.specs.declared.reject.Reject.TheVariants.{BadStep}
use Rattle.arr_law.specs.Problem.{Problem, is_op, is_pair, ends_base_of}
use Rattle.arr_law.specs.Facts.{Facts, is_fact, with_fact, root_facts}
use Rattle.arr_law.specs.Rules.{Rule, rule_list, free_rule, rule_named, applies}
use Rattle.arr_law.specs.Trees.{unless, go_on, step_fault, after_rule, walk}
use Rattle.arr_law.specs.Floor.{Within, IsSymmetric, IsClosed}
use Rattle.arr_state.specs.Went.{CanGoOn}
use Rattle.arr_state.proofs.Basics.{all_more, by_bool, with_within}
use Rattle.arr_state.proofs.Gives.{given-some}
use Rattle.arr_state.proofs.Spelled.{symmetric-with, with_here}
use Rattle.arr_search.specs.Counts.{missing}
use Rattle.arr_search.specs.Steps.{IsPlain}
use Rattle.arr_search.specs.Found.{units_of, least_of, is_unit, lower, are_low}
use Rattle.arr_state.specs.Known.{after}
use Rattle.arr_state.specs.Steps.{given, Steps}
use Rattle.arr_search.proofs.Counts.{missing-less, IsAbout}

pub record Stepped (problem : Problem) (facts facts' : Facts) (steps : List Record) : Type 0 where
  pub trees : (bound : ℕ) (pending : List Facts) (more : List Record) → walk problem 2 bound (facts ∷ pending) (steps ++ more) ≡ walk problem 2 bound (facts' ∷ pending) more
  pub lows : (high : ℕ) (pending : List Facts) (more : List Record) → are_low problem high (facts ∷ pending) (steps ++ more) ≡ are_low problem high (facts' ∷ pending) more
  pub units : units_of steps ≡ length steps
  pub least : (low : ℕ) → least_of problem low steps ≡ low
  pub grows : Within facts facts'
  pub lost : missing problem facts' + length steps ≤ missing problem facts
  pub follows : (other : Facts) → IsSymmetric other → IsClosed problem other → Within facts other → Within facts' other
  pub symmetric : IsSymmetric facts → IsSymmetric facts'
  pub plain : IsPlain facts → IsPlain facts'

-- the fact that a rule gives is about the rule's operations
abbrev GivesOps : Problem → Rule → Type 0
GivesOps problem rule = AllByRecursion (λ f. is_op problem f ≡ true) rule.operations → IsAbout problem rule.gives

all_give : (problem : Problem) (f g h : ℕ) → AllByRecursion (GivesOps problem) (rule_list f g h)
all_give problem f g h = (
  λ p. (p.0, p.1.0),
  (
    λ p. (p.0, p.1.1.0),
    (
      λ p. (p.0, p.1.0),
      (λ p. (p.0, p.1.1.0), (λ p. (p.0, p.1.1.0), (λ p. (p.0, p.1.1.0), tt))),
    ),
  ),
)

each_at : {A : Type 0} (P : A → Type 0) (xs : List A) (k : ℕ) (x : A) → AllByRecursion P xs → slice_get xs k ≡ Some x → P x
each_at P [] k x p e = absurd (cc)
each_at P (y ∷ ys) zero x p e = let s : y ≡ x = cc in subst P s p.0
each_at P (y ∷ ys) (suc k) x p e = each_at P ys k x p.1 e

gives_ops : (problem : Problem) (n f g h : ℕ) (rule : Rule) → rule_named problem 2 n f g h ≡ Some rule → GivesOps problem rule
gives_ops problem n f g h rule e = go (n == 9) e
  where
    joins : (b : Bool) → cond b (Some (free_rule problem f g)) None ≡ Some rule → GivesOps problem rule
    joins true s = let same : free_rule problem f g ≡ rule = cc in subst (GivesOps problem) same (λ p. (p.0, p.1.0))
    joins false s = absurd (cc)

    listed : (b : Bool) → cond b (slice_get (rule_list f g h) (n - 3)) None ≡ Some rule → GivesOps problem rule
    listed true s = each_at (GivesOps problem) (rule_list f g h) (n - 3) rule (all_give problem f g h) s
    listed false s = absurd (cc)

    go : (b : Bool) → cond b (cond ((2 == 2) && ends_base_of problem f g) (Some (free_rule problem f g)) None) (cond (nat_le 3 n) (slice_get (rule_list f g h) (n - 3)) None) ≡ Some rule → GivesOps problem rule
    go true s = joins ((2 == 2) && ends_base_of problem f g) s
    go false s = listed (nat_le 3 n) s

-- no rule gives that an operation stands apart from itself
abbrev GivesPlain : Rule → Type 0
GivesPlain rule = all_pairs (λ f g. not (f == g)) rule.operations ≡ true → (k : ℕ) → is_fact rule.gives (Apart k k) ≡ false

apart_plain : (f h : ℕ) → (f ≡ h → ⊥) → (k : ℕ) → is_fact (Apart f h) (Apart k k) ≡ false
apart_plain f h ne k =
    false_from_ne_true (((f == k) && (h == k)) || ((f == k) && (h == k))) (λ e.
    let both : ((f == k) && (h == k)) ≡ true = or_cases ((f == k) && (h == k)) ((f == k) && (h == k)) e (λ t. t) (λ t. t) in
    let p = and_parts (f == k) (h == k) both in
    ne (eqb-true f k p.0 ∙ sym (eqb-true h k p.1)))

third : (f g h : ℕ) → all_pairs (λ f g. not (f == g)) (f ∷ g ∷ h ∷ []) ≡ true → f ≡ h → ⊥
third f g h e same =
    let p = and_parts (not (f == g) && (not (f == h) && true)) ((not (g == h) && true) && (true && true)) e in
    let q = and_parts (not (f == g)) (not (f == h) && true) p.0 in
    let r = and_parts (not (f == h)) true q.1 in
    true≢false (sym (eq-eqb f h same) ∙ not-true _ r.0)

all_plain : (f g h : ℕ) → AllByRecursion GivesPlain (rule_list f g h)
all_plain f g h = (
  λ p k. refl,
  (λ p k. refl, (λ p k. refl, (λ p. apart_plain f h (third f g h p), (λ p. apart_plain f h (third f g h p), (λ p. apart_plain f h (third f g h p), tt))))),
)

gives_plain : (problem : Problem) (n f g h : ℕ) (rule : Rule) → rule_named problem 2 n f g h ≡ Some rule → GivesPlain rule
gives_plain problem n f g h rule e = go (n == 9) e
  where
    joins : (b : Bool) → cond b (Some (free_rule problem f g)) None ≡ Some rule → GivesPlain rule
    joins true s = let same : free_rule problem f g ≡ rule = cc in subst GivesPlain same (λ p k. refl)
    joins false s = absurd (cc)

    listed : (b : Bool) → cond b (slice_get (rule_list f g h) (n - 3)) None ≡ Some rule → GivesPlain rule
    listed true s = each_at GivesPlain (rule_list f g h) (n - 3) rule (all_plain f g h) s
    listed false s = absurd (cc)

    go : (b : Bool) → cond b (cond ((2 == 2) && ends_base_of problem f g) (Some (free_rule problem f g)) None) (cond (nat_le 3 n) (slice_get (rule_list f g h) (n - 3)) None) ≡ Some rule → GivesPlain rule
    go true s = joins ((2 == 2) && ends_base_of problem f g) s
    go false s = listed (nat_le 3 n) s

pub plain-with : (facts : Facts) (f g : ℕ) → (f ≡ g → ⊥) → IsPlain facts → IsPlain (with_fact (Apart f g) facts)
plain-with facts f g ne plain k = ap₂ (λ a b. a || b) (apart_plain f g ne k) (plain k)

pub root_plain : (problem : Problem) → IsPlain (root_facts problem)
root_plain problem f =
    false_from_ne_true (root_facts problem (Apart f f)) (λ e.
    let p = and_parts (is_pair problem f f) (not (problem.fusible f f)) e in
    let q = and_parts (is_op problem f) (is_op problem f && not (f == f)) p.0 in
    let r = and_parts (is_op problem f) (not (f == f)) q.1 in
    true≢false (sym (eq-eqb f f refl) ∙ not-true _ r.1))

module _ (problem : Problem) (facts : Facts) (n f g h : ℕ) (x : Fact) (rule : Rule) (is : rule_named problem 2 n f g h ≡ Some rule) (a : applies problem facts rule ≡ true) (gives : rule.gives ≡ x) where
  operations : (list_all (is_op problem) rule.operations && all_pairs (λ f g. not (f == g)) rule.operations) ≡ true
  operations = (and_parts (list_all (is_op problem) rule.operations && all_pairs (λ f g. not (f == g)) rule.operations) (list_all facts rule.premises && not (facts rule.gives)) a).0

  rest : (list_all facts rule.premises ≡ true) × (not (facts rule.gives) ≡ true)
  rest = and_parts (list_all facts rule.premises) (not (facts rule.gives)) (and_parts (list_all (is_op problem) rule.operations && all_pairs (λ f g. not (f == g)) rule.operations) (list_all facts rule.premises && not (facts rule.gives)) a).1

  isnt_known : facts x ≡ false
  isnt_known = ap facts (sym gives) ∙ not-true _ rest.1

  right : (o : Option Rule) → o ≡ Some rule → (bound : ℕ) (pending : List Facts) (from more : List Record) → go_on (step_fault problem facts o) from (walk problem 2 bound (after_rule facts o ++ pending) more) ≡ walk problem 2 bound (with_fact x facts ∷ pending) more
  right o same bound pending from more =
      subst (λ p. go_on (step_fault problem facts p) from (walk problem 2 bound (after_rule facts p ++ pending) more) ≡ walk problem 2 bound (with_fact x facts ∷ pending) more) (sym same)
      (ap (λ b. go_on (unless b BadStep) from (walk problem 2 bound (with_fact rule.gives facts ∷ pending) more)) a ∙ ap (λ y. walk problem 2 bound (with_fact y facts ∷ pending) more) gives)

  lows_right : (o : Option Rule) → o ≡ Some rule → (high : ℕ) (pending : List Facts) (more : List Record) → are_low problem high (after_rule facts o ++ pending) more ≡ are_low problem high (with_fact x facts ∷ pending) more
  lows_right o same high pending more =
      subst (λ p. are_low problem high (after_rule facts p ++ pending) more ≡ are_low problem high (with_fact x facts ∷ pending) more) (sym same)
      (ap (λ y. are_low problem high (with_fact y facts ∷ pending) more) gives)

  in_other : (other : Facts) → IsClosed problem other → Within facts other → other x ≡ true
  in_other other c w = by_bool (other x) (λ t. t) (λ e. absurd (true≢false (sym (applied e) ∙ c n f g h rule is)))
    where
      applied : other x ≡ false → applies problem other rule ≡ true
      applied e =
          and_from _ (list_all other rule.premises && not (other rule.gives)) operations
          (and_from (list_all other rule.premises) (not (other rule.gives)) (all_more facts other rule.premises w rest.0) (ap (λ y. not (other y)) gives ∙ ap not e))

  stays : (other : Facts) → IsSymmetric other → IsClosed problem other → Within facts other → Within (with_fact x facts) other
  stays other s c w y e = or_cases (is_fact x y) (facts y) e (λ here. s x y here (in_other other c w)) (λ there. w y there)

  lost-one : missing problem (with_fact x facts) + 1 ≤ missing problem facts
  lost-one =
      missing-less problem facts (with_fact x facts) (with_within facts x) x
      (subst (IsAbout problem) gives (gives_ops problem n f g h rule is (all_of (is_op problem) rule.operations (and_parts (list_all (is_op problem) rule.operations) (all_pairs (λ f g. not (f == g)) rule.operations) operations).0)))
      isnt_known (with_here facts x)

  plain_one : IsPlain facts → IsPlain (with_fact x facts)
  plain_one plain k =
      ap₂ (λ a b. a || b)
      (subst (λ y. is_fact y (Apart k k) ≡ false) gives (gives_plain problem n f g h rule is (and_parts (list_all (is_op problem) rule.operations) (all_pairs (λ f g. not (f == g)) rule.operations) operations).1 k))
      (plain k)

  one_rule : Stepped problem facts (with_fact x facts) (Step n f g h ∷ [])
  one_rule =
      record {
        trees = λ bound pending more. right (rule_named problem 2 n f g h) is bound pending (Step n f g h ∷ more) more;
        lows = lows_right (rule_named problem 2 n f g h) is;
        units = refl;
        least = λ low. refl;
        grows = with_within facts x;
        lost = lost-one;
        follows = stays;
        symmetric = symmetric-with facts x;
        plain = plain_one;
      }

-- where a rule gives a new fact, one is missing
pub more_left : (problem : Problem) (facts : Facts) → CanGoOn problem facts → 1 ≤ missing problem facts
more_left problem facts (n, f, g, h, rule, is, a) = omega (arith, lost-one problem facts n f g h rule.gives rule is a refl)

pub one : (problem : Problem) (facts : Facts) (n f g h : ℕ) (x : Fact) → given problem facts (rule_named problem 2 n f g h) ≡ Some x → Stepped problem facts (with_fact x facts) (Step n f g h ∷ [])
one problem facts n f g h x e = let p = given-some problem facts (rule_named problem 2 n f g h) x e in one_rule problem facts n f g h x p.0 p.1 p.2 p.3

pub none : (problem : Problem) (facts : Facts) → Stepped problem facts facts []
none problem facts = record { trees = λ b p m. refl; lows = λ b p m. refl; units = refl; least = λ low. refl; grows = λ x e. e; lost = omega arith; follows = λ o s c w. w; symmetric = λ s. s; plain = λ p. p }

pub units-append : (xs ys : List Record) → units_of (xs ++ ys) ≡ units_of xs + units_of ys
units-append xs ys = sum_by-append (λ r. cond (is_unit r) 1 0) xs ys

pub both : (problem : Problem) (a b c : Facts) (s t : List Record) → Stepped problem a b s → Stepped problem b c t → Stepped problem a c (s ++ t)
both problem a b c s t p q =
    record {
      trees = λ bound pending more. ap (walk problem 2 bound (a ∷ pending)) (append_assoc s t more) ∙ (p.trees bound pending (t ++ more) ∙ q.trees bound pending more);
      lows = λ high pending more. ap (are_low problem high (a ∷ pending)) (append_assoc s t more) ∙ (p.lows high pending (t ++ more) ∙ q.lows high pending more);
      units = omega (arith, units-append s t, length-append s t, p.units, q.units);
      least = λ low. fold-append (lower problem) low s t ∙ (ap (λ l. least_of problem l t) (p.least low) ∙ q.least low);
      grows = λ x e. q.grows x (p.grows x e);
      lost = omega (arith, p.lost, q.lost, length-append s t);
      follows = λ o sy cl w. q.follows o sy cl (p.follows o sy cl w);
      symmetric = λ sy. q.symmetric (p.symmetric sy);
      plain = λ pl. q.plain (p.plain pl);
    }

pub stepped : (problem : Problem) (facts : Facts) (steps : List Record) (gives : List Fact) → Steps problem facts steps gives → Stepped problem facts (after facts gives) steps
stepped problem facts [] [] s = none problem facts
stepped problem facts (Step n f g h ∷ steps) (x ∷ gives) s = both problem facts (with_fact x facts) (after (with_fact x facts) gives) (Step n f g h ∷ []) steps (one problem facts n f g h x s.0) (stepped problem (with_fact x facts) steps gives s.2)
stepped problem facts [] (x ∷ gives) s = absurd s
stepped problem facts (Step n f g h ∷ steps) [] s = absurd s
stepped problem facts (Branch f g ∷ steps) gives s = absurd s
stepped problem facts (Dead f g ∷ steps) gives s = absurd s
stepped problem facts (Worth w ∷ steps) gives s = absurd s
stepped problem facts (End ∷ steps) gives s = absurd s
stepped problem facts (Flush n c v ∷ steps) gives s = absurd s
stepped problem facts (Plan ps ∷ steps) gives s = absurd s
stepped problem facts (Cost c ∷ steps) gives s = absurd s
stepped problem facts (Bound b ∷ steps) gives s = absurd s
