-- What is tried for a fact is all that it can be a premise of.
use Rattle.std.proofs.Common.{◌≡◌, ℕ, zero, suc, ◌+◌, ◌-◌, ◌<◌, ◌≤◌, List, [], ◌∷◌, map, Bool, true, false, cond, not, ◌&&◌, ◌||◌, Some, None, refl, sym, ap, subst, arith}
use Rattle.std.specs.Prelude.{nat_le, ◌==◌, slice_get}
use Rattle.std.specs.List.{list_all, list_any}
use Rattle.std.proofs.lemmas.Bool.{and_parts, true≢false, eqb-true, or_left, or_right, leb-true}
use Rattle.arr_view.specs.Views.{has}
use Rattle.arr_ops.proofs.Tests.{or_cases}
use Rattle.arr_ops.specs.Formed.{all_pairs}
use Rattle.arr_law.specs.declared.fact.Fact.{Fact}
use Rattle.arr_law.specs.declared.fact.Fact.TheVariants.{Same, Apart, Before}
use Rattle.arr_law.specs.Problem.{Problem, is_op, operations, ends_base_of}
use Rattle.arr_law.specs.Facts.{Facts, is_fact}
use Rattle.arr_law.specs.Rules.{Rule, rule_list, other_users, free_rule, rule_named}
use Rattle.arr_law.proofs.Members.{has_filter}
use Rattle.arr_state.specs.declared.jobs.Job.TheVariants.{Two, Behind, Front, Frees}
use Rattle.arr_state.specs.Steps.{are_lawful}
use Rattle.arr_state.specs.Jobs.{Tried, JobTried, IsTouched}

pub op_small : (problem : Problem) (f : ℕ) → is_op problem f ≡ true → f < problem.count + 1
op_small problem f e = let h = and_parts (nat_le 1 f) (nat_le f problem.count) e in let l : f ≤ problem.count = leb-true _ _ h.1 in omega arith

-- the rules one by one
abbrev pub rule3 : ℕ → ℕ → Rule
rule3 f g = record { operations = f ∷ g ∷ []; premises = Same f g ∷ []; gives = Before f g }

abbrev pub rule4 : ℕ → ℕ → ℕ → Rule
rule4 f g h = record { operations = f ∷ g ∷ h ∷ []; premises = Before f g ∷ Before g h ∷ []; gives = Before f h }

abbrev pub rule5 : ℕ → ℕ → Rule
rule5 f g = record { operations = f ∷ g ∷ []; premises = Before f g ∷ Before g f ∷ []; gives = Same f g }

abbrev pub rule6 : ℕ → ℕ → ℕ → Rule
rule6 f g h = record { operations = f ∷ g ∷ h ∷ []; premises = Same f g ∷ Apart g h ∷ []; gives = Apart f h }

abbrev pub rule7 : ℕ → ℕ → ℕ → Rule
rule7 f g h = record { operations = f ∷ g ∷ h ∷ []; premises = Before f g ∷ Before g h ∷ Apart f g ∷ []; gives = Apart f h }

abbrev pub rule8 : ℕ → ℕ → ℕ → Rule
rule8 f g h = record { operations = f ∷ g ∷ h ∷ []; premises = Before f g ∷ Before g h ∷ Apart g h ∷ []; gives = Apart f h }

module _ (problem : Problem) (f g h : ℕ) (P : Rule → Type 0) (p3 : P (rule3 f g)) (p4 : P (rule4 f g h)) (p5 : P (rule5 f g)) (p6 : P (rule6 f g h)) (p7 : P (rule7 f g h)) (p8 : P (rule8 f g h)) (p9 : ends_base_of problem f g ≡ true → P (free_rule problem f g)) where
  some_same : (a b : Rule) → Some a ≡ Some b → a ≡ b
  some_same a b e = cc

  by_place : (rule : Rule) (b : Bool) (k : ℕ) → cond b (slice_get (rule_list f g h) k) None ≡ Some rule → P rule
  by_place rule false k e = absurd (cc)
  by_place rule true zero e = subst P (some_same _ _ e) p3
  by_place rule true (suc zero) e = subst P (some_same _ _ e) p4
  by_place rule true (suc (suc zero)) e = subst P (some_same _ _ e) p5
  by_place rule true (suc (suc (suc zero))) e = subst P (some_same _ _ e) p6
  by_place rule true (suc (suc (suc (suc zero)))) e = subst P (some_same _ _ e) p7
  by_place rule true (suc (suc (suc (suc (suc zero))))) e = subst P (some_same _ _ e) p8
  by_place rule true (suc (suc (suc (suc (suc (suc k)))))) e = absurd (cc)

  -- a rule that a number names is one of seven
  pub by_rule : (n : ℕ) (rule : Rule) → rule_named problem 2 n f g h ≡ Some rule → P rule
  by_rule n rule e = start (n == 9) e
    where
      frees : (b : Bool) → ends_base_of problem f g ≡ b → cond b (Some (free_rule problem f g)) None ≡ Some rule → P rule
      frees true h s = subst P (some_same _ _ s) (p9 h)
      frees false h s = absurd (cc)

      start : (b : Bool) → cond b (cond (ends_base_of problem f g) (Some (free_rule problem f g)) None) (cond (nat_le 3 n) (slice_get (rule_list f g h) (n - 3)) None) ≡ Some rule → P rule
      start true s = frees (ends_base_of problem f g) refl s
      start false s = by_place rule (nat_le 3 n) (n - 3) s

pair_either : {P : Type 0} (p q f g : ℕ) → (((p == f) && (q == g)) || ((p == g) && (q == f))) ≡ true → (p ≡ f → q ≡ g → P) → (p ≡ g → q ≡ f → P) → P
pair_either p q f g e s t =
    or_cases ((p == f) && (q == g)) ((p == g) && (q == f)) e
    (λ l. let h = and_parts (p == f) (q == g) l in s (eqb-true p f h.0) (eqb-true q g h.1))
    (λ r. let h = and_parts (p == g) (q == f) r in t (eqb-true p g h.0) (eqb-true q f h.1))

pair_is : (p q f g : ℕ) → ((p == f) && (q == g)) ≡ true → (p ≡ f) × (q ≡ g)
pair_is p q f g e = let h = and_parts (p == f) (q == g) e in (eqb-true p f h.0, eqb-true q g h.1)

pub free_named : (problem : Problem) (f g h : ℕ) → ends_base_of problem f g ≡ true → rule_named problem 2 9 f g h ≡ Some (free_rule problem f g)
free_named problem f g h e = ap (λ b. cond b (Some (free_rule problem f g)) None) e

-- the premises of the rule of a FREE all say that a user stands before f
any_before : (p q f : ℕ) (us : List ℕ) → list_any (is_fact (Before p q)) (map (λ u. Before u f) us) ≡ true → (q ≡ f) × (has us p ≡ true)
any_before p q f [] e = absurd (true≢false (sym e))
any_before p q f (u ∷ us) e =
    or_cases (is_fact (Before p q) (Before u f)) (list_any (is_fact (Before p q)) (map (λ u. Before u f) us)) e
    (λ here. let h = and_parts (p == u) (q == f) here in (eqb-true q f h.1, or_left (p == u) (has us p) h.0))
    (λ later. let h = any_before p q f us later in (h.0, or_right (p == u) (has us p) h.1))

not_before : (x : Fact) (f : ℕ) (us : List ℕ) → ((r : ℕ) → is_fact x (Before r f) ≡ true → ⊥) → list_any (is_fact x) (map (λ u. Before u f) us) ≡ true → ⊥
not_before x f [] never e = true≢false (sym e)
not_before x f (u ∷ us) never e = or_cases (is_fact x (Before u f)) (list_any (is_fact x) (map (λ u. Before u f) us)) e (never u) (not_before x f us never)

module _ (problem : Problem) (a b : Facts) where
  two_at : (n p q f g : ℕ) → p ≡ f → q ≡ g → JobTried problem (Two n p q) a b → Tried problem n f g 0 a b
  two_at n p q f g e d t = subst (λ y. Tried problem n f y 0 a b) d (subst (λ x. Tried problem n x q 0 a b) e (t 0 (omega arith)))

  behind_at : (n p q f g h : ℕ) → p ≡ f → q ≡ g → is_op problem h ≡ true → JobTried problem (Behind n p q) a b → Tried problem n f g h a b
  behind_at n p q f g h e d o t = subst (λ y. Tried problem n f y h a b) d (subst (λ x. Tried problem n x q h a b) e (t h (op_small problem h o)))

  front_at : (n p q f g h : ℕ) → p ≡ g → q ≡ h → is_op problem f ≡ true → JobTried problem (Front n p q) a b → Tried problem n f g h a b
  front_at n p q f g h e d o t = subst (λ y. Tried problem n f g y a b) d (subst (λ x. Tried problem n f x q a b) e (t f (op_small problem f o)))

  pub ops_of : (f g h : ℕ) (more : Bool) → (list_all (is_op problem) (f ∷ g ∷ h ∷ []) && more) ≡ true → (is_op problem f ≡ true) × (is_op problem h ≡ true)
  ops_of f g h more e =
      let o = and_parts (list_all (is_op problem) (f ∷ g ∷ h ∷ [])) more e in
      let p = and_parts (is_op problem f) (list_all (is_op problem) (g ∷ h ∷ [])) o.0 in
      let q = and_parts (is_op problem g) (list_all (is_op problem) (h ∷ [])) p.1 in
      let r = and_parts (is_op problem h) true q.1 in
      (p.0, r.0)

  free_at : (p q f g : ℕ) → q ≡ f → ends_base_of problem f g ≡ true → ends_base_of problem p g ≡ true → is_op problem g ≡ true → JobTried problem (Frees p q) a b → are_lawful problem (free_rule problem f g) ≡ true → list_all a (free_rule problem f g).premises ≡ true → b (Same f g) ≡ true
  free_at p q f g e ends user o t ok known = (subst (λ x. Tried problem 9 x g 0 a b) e (t g (op_small problem g o) user)) (free_rule problem f g) (free_named problem f g 0 ends) ok known

  -- a rule of which a fact is a premise gives what is known, where its premises are
  abbrev Touched : Fact → Rule → Type 0
  Touched x rule = are_lawful problem rule ≡ true → list_all a rule.premises ≡ true → list_any (is_fact x) rule.premises ≡ true → b rule.gives ≡ true

  touched3 : (x : Fact) → IsTouched problem x a b → (f g : ℕ) → Touched x (rule3 f g)
  touched3 (Same p q) t f g ok known here =
      or_cases (is_fact (Same p q) (Same f g)) false here
      (λ e. pair_either p q f g e
      (λ s d. two_at 3 p q f g s d (t 0 (omega arith)) (rule3 f g) refl ok known)
      (λ s d. two_at 3 q p f g d s (t 1 (omega arith)) (rule3 f g) refl ok known))
      (λ e. absurd (true≢false (sym e)))
  touched3 (Apart p q) t f g ok known here = absurd (true≢false (sym here))
  touched3 (Before p q) t f g ok known here = absurd (true≢false (sym here))

  touched4 : (x : Fact) → IsTouched problem x a b → (f g h : ℕ) → Touched x (rule4 f g h)
  touched4 (Same p q) t f g h ok known here = absurd (true≢false (sym here))
  touched4 (Apart p q) t f g h ok known here = absurd (true≢false (sym here))
  touched4 (Before p q) t f g h ok known here =
      let o = ops_of f g h (all_pairs (λ f g. not (f == g)) (f ∷ g ∷ h ∷ [])) ok in
      or_cases (is_fact (Before p q) (Before f g)) (is_fact (Before p q) (Before g h) || false) here
      (λ e. let s = pair_is p q f g e in behind_at 4 p q f g h s.0 s.1 o.1 (t 2 (omega arith)) (rule4 f g h) refl ok known)
      (λ r. or_cases (is_fact (Before p q) (Before g h)) false r
      (λ e. let s = pair_is p q g h e in front_at 4 p q f g h s.0 s.1 o.0 (t 3 (omega arith)) (rule4 f g h) refl ok known)
      (λ e. absurd (true≢false (sym e))))

  touched5 : (x : Fact) → IsTouched problem x a b → (f g : ℕ) → Touched x (rule5 f g)
  touched5 (Same p q) t f g ok known here = absurd (true≢false (sym here))
  touched5 (Apart p q) t f g ok known here = absurd (true≢false (sym here))
  touched5 (Before p q) t f g ok known here =
      or_cases (is_fact (Before p q) (Before f g)) (is_fact (Before p q) (Before g f) || false) here
      (λ e. let s = pair_is p q f g e in two_at 5 p q f g s.0 s.1 (t 0 (omega arith)) (rule5 f g) refl ok known)
      (λ r. or_cases (is_fact (Before p q) (Before g f)) false r
      (λ e. let s = pair_is p q g f e in two_at 5 q p f g s.1 s.0 (t 1 (omega arith)) (rule5 f g) refl ok known)
      (λ e. absurd (true≢false (sym e))))

  touched6 : (x : Fact) → IsTouched problem x a b → (f g h : ℕ) → Touched x (rule6 f g h)
  touched6 (Same p q) t f g h ok known here =
      let o = ops_of f g h (all_pairs (λ f g. not (f == g)) (f ∷ g ∷ h ∷ [])) ok in
      or_cases (is_fact (Same p q) (Same f g)) (is_fact (Same p q) (Apart g h) || false) here
      (λ e. pair_either p q f g e
      (λ s d. behind_at 6 p q f g h s d o.1 (t 2 (omega arith)) (rule6 f g h) refl ok known)
      (λ s d. behind_at 6 q p f g h d s o.1 (t 3 (omega arith)) (rule6 f g h) refl ok known))
      (λ e. absurd (true≢false (sym e)))
  touched6 (Apart p q) t f g h ok known here =
      let o = ops_of f g h (all_pairs (λ f g. not (f == g)) (f ∷ g ∷ h ∷ [])) ok in
      or_cases (is_fact (Apart p q) (Apart g h)) false here
      (λ e. pair_either p q g h e
      (λ s d. front_at 6 p q f g h s d o.0 (t 0 (omega arith)) (rule6 f g h) refl ok known)
      (λ s d. front_at 6 q p f g h d s o.0 (t 1 (omega arith)) (rule6 f g h) refl ok known))
      (λ e. absurd (true≢false (sym e)))
  touched6 (Before p q) t f g h ok known here = absurd (true≢false (sym here))

  touched7 : (x : Fact) → IsTouched problem x a b → (f g h : ℕ) → Touched x (rule7 f g h)
  touched7 (Same p q) t f g h ok known here = absurd (true≢false (sym here))
  touched7 (Apart p q) t f g h ok known here =
      let o = ops_of f g h (all_pairs (λ f g. not (f == g)) (f ∷ g ∷ h ∷ [])) ok in
      or_cases (is_fact (Apart p q) (Apart f g)) false here
      (λ e. pair_either p q f g e
      (λ s d. behind_at 7 p q f g h s d o.1 (t 2 (omega arith)) (rule7 f g h) refl ok known)
      (λ s d. behind_at 7 q p f g h d s o.1 (t 3 (omega arith)) (rule7 f g h) refl ok known))
      (λ e. absurd (true≢false (sym e)))
  touched7 (Before p q) t f g h ok known here =
      let o = ops_of f g h (all_pairs (λ f g. not (f == g)) (f ∷ g ∷ h ∷ [])) ok in
      or_cases (is_fact (Before p q) (Before f g)) (is_fact (Before p q) (Before g h) || false) here
      (λ e. let s = pair_is p q f g e in behind_at 7 p q f g h s.0 s.1 o.1 (t 4 (omega arith)) (rule7 f g h) refl ok known)
      (λ r. or_cases (is_fact (Before p q) (Before g h)) false r
      (λ e. let s = pair_is p q g h e in front_at 7 p q f g h s.0 s.1 o.0 (t 5 (omega arith)) (rule7 f g h) refl ok known)
      (λ e. absurd (true≢false (sym e))))

  touched8 : (x : Fact) → IsTouched problem x a b → (f g h : ℕ) → Touched x (rule8 f g h)
  touched8 (Same p q) t f g h ok known here = absurd (true≢false (sym here))
  touched8 (Apart p q) t f g h ok known here =
      let o = ops_of f g h (all_pairs (λ f g. not (f == g)) (f ∷ g ∷ h ∷ [])) ok in
      or_cases (is_fact (Apart p q) (Apart g h)) false here
      (λ e. pair_either p q g h e
      (λ s d. front_at 8 p q f g h s d o.0 (t 4 (omega arith)) (rule8 f g h) refl ok known)
      (λ s d. front_at 8 q p f g h d s o.0 (t 5 (omega arith)) (rule8 f g h) refl ok known))
      (λ e. absurd (true≢false (sym e)))
  touched8 (Before p q) t f g h ok known here =
      let o = ops_of f g h (all_pairs (λ f g. not (f == g)) (f ∷ g ∷ h ∷ [])) ok in
      or_cases (is_fact (Before p q) (Before f g)) (is_fact (Before p q) (Before g h) || false) here
      (λ e. let s = pair_is p q f g e in behind_at 8 p q f g h s.0 s.1 o.1 (t 6 (omega arith)) (rule8 f g h) refl ok known)
      (λ r. or_cases (is_fact (Before p q) (Before g h)) false r
      (λ e. let s = pair_is p q g h e in front_at 8 p q f g h s.0 s.1 o.0 (t 7 (omega arith)) (rule8 f g h) refl ok known)
      (λ e. absurd (true≢false (sym e))))

  touched9 : (x : Fact) → IsTouched problem x a b → (f g : ℕ) → ends_base_of problem f g ≡ true → Touched x (free_rule problem f g)
  touched9 (Same p q) t f g ends ok known here = absurd (not_before (Same p q) f (other_users problem f g) (λ r e. true≢false (sym e)) here)
  touched9 (Apart p q) t f g ends ok known here = absurd (not_before (Apart p q) f (other_users problem f g) (λ r e. true≢false (sym e)) here)
  touched9 (Before p q) t f g ends ok known here =
      let o = and_parts (list_all (is_op problem) (f ∷ g ∷ [])) (all_pairs (λ f g. not (f == g)) (f ∷ g ∷ [])) ok in
      let i = and_parts (is_op problem f) (list_all (is_op problem) (g ∷ [])) o.0 in
      let j = and_parts (is_op problem g) true i.1 in
      let u = any_before p q f (other_users problem f g) here in
      let v = has_filter (λ u. ends_base_of problem u g && (not (u == f) && not (u == g))) (operations problem) p u.1 in
      let w = and_parts (ends_base_of problem p g) (not (p == f) && not (p == g)) v.0 in
      free_at p q f g u.0 ends w.0 j.0 (t 8 (omega arith)) ok known

  -- what is tried for a fact is each rule of which it is a premise
  pub touched : (x : Fact) → IsTouched problem x a b → (n f g h : ℕ) (rule : Rule) → rule_named problem 2 n f g h ≡ Some rule → Touched x rule
  touched x t n f g h rule is =
      by_rule problem f g h (Touched x) (touched3 x t f g) (touched4 x t f g h) (touched5 x t f g) (touched6 x t f g h) (touched7 x t f g h) (touched8 x t f g h) (touched9 x t f g) n rule is
