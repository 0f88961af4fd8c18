-- Each rule whose premises are among the facts worked off has its conclusion known.
use Rattle.std.proofs.Common.{◌≡◌, ℕ, zero, suc, ◌+◌, ◌<◌, List, [], ◌∷◌, length, get_or, Bool, true, false, not, ◌&&◌, ◌||◌, refl, sym, ap, ◌∙◌, subst, arith}
use Rattle.std.specs.Prelude.{◌==◌}
use Rattle.std.specs.List.{list_all, list_any}
use Rattle.std.proofs.lemmas.Bool.{and_parts, and_from, true≢false, not-true, or_left, or_right}
use Rattle.arr_ops.proofs.Tests.{or_cases}
use Rattle.arr_ops.specs.Formed.{all_pairs}
use Rattle.arr_law.specs.declared.fact.Fact.{Fact}
use Rattle.arr_law.specs.declared.fact.Fact.TheVariants.{Same}
use Rattle.arr_law.specs.Problem.{Problem, is_op, ends_base_of}
use Rattle.arr_law.specs.Facts.{Facts, is_fact, root_facts}
use Rattle.arr_law.specs.Rules.{free_rule, applies}
use Rattle.arr_law.specs.Floor.{Within, IsClosed}
use Rattle.arr_state.specs.Known.{HoldRoots}
use Rattle.arr_state.specs.Steps.{are_lawful}
use Rattle.arr_state.specs.Jobs.{IsTouched, AreTouched, AllFreesBelow, Covered}
use Rattle.arr_state.proofs.Basics.{by_bool, all_more}
use Rattle.arr_state.proofs.Touches.{touched, by_rule, free_named, op_small}

-- facts that are covered by themselves are closed, and the other way round
pub covered_closed : (problem : Problem) (facts : Facts) → Covered problem facts facts → IsClosed problem facts
covered_closed problem facts t n f g h rule is = by_bool (applies problem facts rule) (λ e. absurd (wrong e)) (λ e. e)
  where
    wrong : applies problem facts rule ≡ true → ⊥
    wrong e =
        let p = and_parts (are_lawful problem rule) (list_all facts rule.premises && not (facts rule.gives)) e in
        let q = and_parts (list_all facts rule.premises) (not (facts rule.gives)) p.1 in
        true≢false (sym (t n f g h rule is p.0 q.0) ∙ not-true _ q.1)

pub closed_covered : (problem : Problem) (facts more : Facts) → IsClosed problem facts → Within facts more → Covered problem facts more
closed_covered problem facts more c w n f g h rule is ok known =
    by_bool (facts rule.gives) (λ e. w rule.gives e) (λ e. absurd (true≢false (sym (applied e) ∙ c n f g h rule is)))
  where
    applied : facts rule.gives ≡ false → applies problem facts rule ≡ true
    applied e = and_from (are_lawful problem rule) (list_all facts rule.premises && not (facts rule.gives)) ok (and_from (list_all facts rule.premises) (not (facts rule.gives)) known (ap not e))

-- of facts that are a fact or older ones, one is the fact or all are older
all_or_any : (p q r : Fact → Bool) (xs : List Fact) → ((y : Fact) → r y ≡ true → (p y || q y) ≡ true) → list_all r xs ≡ true → list_any p xs ≡ false → list_all q xs ≡ true
all_or_any p q r [] w e isnt = refl
all_or_any p q r (y ∷ xs) w e isnt =
    let h = and_parts (r y) (list_all r xs) e in
    let here : p y ≡ false = by_bool (p y) (λ t. absurd (true≢false (sym (or_left (p y) (list_any p xs) t) ∙ isnt))) (λ f. f) in
    let there : list_any p xs ≡ false = by_bool (list_any p xs) (λ t. absurd (true≢false (sym (or_right (p y) (list_any p xs) t) ∙ isnt))) (λ f. f) in
    and_from (q y) (list_all q xs)
    (or_cases (p y) (q y) (w y h.0) (λ t. absurd (true≢false (sym t ∙ here))) (λ t. t))
    (all_or_any p q r xs w h.1 there)

-- working off one more fact
pub cover_step : (problem : Problem) (some some' known known' : Facts) (x : Fact) → ((y : Fact) → some' y ≡ true → (is_fact x y || some y) ≡ true) → Within some' known → Within known known' → Covered problem some known → IsTouched problem x known known' → Covered problem some' known'
cover_step problem some some' known known' x split w m old t n f g h rule is ok all =
    by_bool (list_any (is_fact x) rule.premises)
    (λ here. touched problem known known' x t n f g h rule is ok (all_more some' known rule.premises w all) here)
    (λ isnt. m rule.gives (old n f g h rule is ok (all_or_any (is_fact x) some some' rule.premises split all isnt)))

-- one that passes, by its place
any_at : (p : Fact → Bool) (xs : List Fact) (d : Fact) → list_any p xs ≡ true → (k : ℕ) × (k < length xs) × (p (get_or xs k d) ≡ true)
any_at p [] d e = absurd (true≢false (sym e))
any_at p (x ∷ xs) d e = or_cases (p x) (list_any p xs) e (λ here. (zero, omega arith, here)) (λ later. let r = any_at p xs d later in (suc r.0, omega (arith, r.1), r.2))

-- what the facts that the list alone gives can be premises of
pub cover_root : (problem : Problem) (roots : List Fact) (a b c : Facts) → HoldRoots problem roots → Within (root_facts problem) a → Within a b → Within b c → AreTouched problem roots a b → AllFreesBelow problem (problem.count + 1) b c → Covered problem (root_facts problem) c
cover_root problem roots a b c hold w l m t frees n f g h rule is ok all = start rule.premises refl all
  where
    free : ends_base_of problem f g ≡ true → (free_rule problem f g).premises ≡ [] → are_lawful problem (free_rule problem f g) ≡ true → list_all b (free_rule problem f g).premises ≡ true → c (Same f g) ≡ true
    free ends i ok known =
        let o = and_parts (list_all (is_op problem) (f ∷ g ∷ [])) (all_pairs (λ f g. not (f == g)) (f ∷ g ∷ [])) ok in
        let p = and_parts (is_op problem f) (list_all (is_op problem) (g ∷ [])) o.0 in
        let q = and_parts (is_op problem g) true p.1 in
        frees f (op_small problem f p.0) g (op_small problem g q.0) (free_rule problem f g) (free_named problem f g 0 ends) ok known

    known_in : (d : Facts) → Within a d → list_all d rule.premises ≡ true
    known_in d v = all_more (root_facts problem) d rule.premises (λ x e. v x (w x e)) all

    start : (xs : List Fact) → rule.premises ≡ xs → list_all (root_facts problem) xs ≡ true → c rule.gives ≡ true
    start [] e k = by_rule problem f g h (λ r. r.premises ≡ [] → are_lawful problem r ≡ true → list_all b r.premises ≡ true → c r.gives ≡ true) (λ i. absurd (cc)) (λ i. absurd (cc)) (λ i. absurd (cc)) (λ i. absurd (cc)) (λ i. absurd (cc)) (λ i. absurd (cc)) free n rule is e ok (known_in b l)
    start (x ∷ xs) e k =
        let p = and_parts (root_facts problem x) (list_all (root_facts problem) xs) k in
        let r = any_at (λ r. is_fact r x) roots (Same 0 0) (hold x p.0) in
        m rule.gives (touched problem a b (get_or roots r.0 (Same 0 0)) (t r.0 r.1) n f g h rule is ok (known_in a (λ y v. v))
        (subst (λ ys. list_any (is_fact (get_or roots r.0 (Same 0 0))) ys ≡ true) (sym e) (or_left (is_fact (get_or roots r.0 (Same 0 0)) x) (list_any (is_fact (get_or roots r.0 (Same 0 0))) xs) r.2)))
