-- A yes is sound.
use Rattle.std.proofs.Common.{◌≡◌, ℕ, ◌≤◌, List, [], ◌∷◌, ◌++◌, Bool, true, false, ◌&&◌, Option, Some, None, refl, sym, ap, ◌∙◌, subst, arith, ⊎_elim}
use Rattle.std.specs.Prelude.{nat_le, nat_lt, ◌==◌}
use Rattle.std.specs.List.{AllByRecursion}
use Rattle.std.proofs.lemmas.Bool.{and_parts, cases_eq, leb-true, eqb-true}
use Rattle.arr_law.specs.declared.fact.Fact.TheVariants.{Same, Apart}
use Rattle.arr_law.specs.declared.record.Record.{Record}
use Rattle.arr_law.specs.declared.record.Record.TheVariants.{Flush, Plan, Cost, Bound, Step, Branch, Dead, Worth, End}
use Rattle.arr_law.specs.declared.reject.Reject.{Reject}
use Rattle.arr_law.specs.declared.reject.Reject.TheVariants.{BadPlan, NotFusible, Backward, WrongCost, BadStep, BadLeaf, WeakLeaf}
use Rattle.arr_law.specs.Problem.{Problem}
use Rattle.arr_law.specs.Facts.{Facts, root_facts, Meets}
use Rattle.arr_law.specs.Rules.{Rule, rule_named, applies}
use Rattle.arr_law.specs.Plans.{IsLegalAt, cost_at, are_places, is_together, is_forward, price}
use Rattle.arr_law.specs.Settled.{IsProper, IsSettled, settle}
use Rattle.arr_law.specs.Leaves.{is_leaf, worth}
use Rattle.arr_law.specs.Trees.{unless, or_else, tree_fault, step_fault, after_rule, subtrees}
use Rattle.arr_law.specs.Verdict.{State, AtHead, AtPlan, AtCost, AtBound, AtTree, Finished, record_fault, after, Reading, Ends, Stops, Reads, Answer, Yes, answer_unless, answer}
use Rattle.arr_law.proofs.Keeps.{root_met, with_met, IsSound, rule_met, rule_sound}
use Rattle.arr_law.proofs.Pays.{leaf_pays}
use Rattle.arr_law.proofs.Settles.{settles}

pub unless-none : (b : Bool) (fault : Reject) → unless b fault ≡ None → b ≡ true
unless-none true fault e = refl
unless-none false fault e = absurd (cc)

pub or_else-none : (x y : Option Reject) → or_else x y ≡ None → (x ≡ None) × (y ≡ None)
or_else-none None y e = (refl, e)
or_else-none (Some k) y e = absurd (cc)

-- ---- one record of a tree, for settled places

module _ (problem : Problem) (proper : IsProper problem) (version bound : ℕ) (at : ℕ → ℕ) (blocks : ℕ) (legal : IsLegalAt problem at blocks) (settled : IsSettled problem at) where
  abbrev Bounded : Facts → Type 0
  Bounded facts = Meets at facts → bound ≤ cost_at problem at blocks

  step_case : (facts : Facts) (pending : List Facts) (o : Option Rule) → ((rule : Rule) → o ≡ Some rule → applies problem facts rule ≡ true → IsSound at rule) → step_fault problem facts o ≡ None
      → AllByRecursion Bounded (after_rule facts o ++ pending) → AllByRecursion Bounded (facts ∷ pending)
  step_case facts pending None keeps e b = absurd (cc)
  step_case facts pending (Some rule) keeps e b =
      let a = unless-none (applies problem facts rule) BadStep e in
      ((λ met. b.0 (rule_met problem at facts rule (keeps rule refl a) a met)), b.1)

  record_case : (facts : Facts) (pending : List Facts) (r : Record) → tree_fault problem version bound facts r ≡ None → AllByRecursion Bounded (subtrees problem version facts r ++ pending) → AllByRecursion Bounded (facts ∷ pending)
  record_case facts pending (Step n f g h) e b =
      step_case facts pending (rule_named problem version n f g h) (λ rule is a. rule_sound problem proper at blocks legal settled facts version n f g h rule is a) e b
  record_case facts pending (Branch f g) e b = (
    (λ met. ⊎_elim (λ s. b.0 (with_met at facts (Same f g) met s)) (λ a. b.1.0 (with_met at facts (Apart f g) met a)) (cases_eq (at f) (at g))),
    b.1.1,
  )
  record_case facts pending (Dead f g) e b =
      let h = and_parts (nat_lt f g) (facts (Same f g) && facts (Apart f g)) (unless-none _ BadLeaf e) in
      let k = and_parts (facts (Same f g)) (facts (Apart f g)) h.1 in
      ((λ met. absurd (met (Apart f g) k.1 (met (Same f g) k.0))), b)
  record_case facts pending (Worth charges) e b =
      let h = or_else-none (unless (is_leaf problem facts charges) BadLeaf) (unless (nat_le bound (worth problem charges)) WeakLeaf) e in
      let most : bound ≤ worth problem charges = leb-true _ _ (unless-none _ WeakLeaf h.1) in
      ((λ met. omega (arith, most, leaf_pays problem at blocks legal facts met charges (unless-none _ BadLeaf h.0))), b)
  record_case facts pending (Flush n c v) e b = absurd (cc)
  record_case facts pending (Plan ps) e b = absurd (cc)
  record_case facts pending (Cost c) e b = absurd (cc)
  record_case facts pending (Bound c) e b = absurd (cc)
  record_case facts pending End e b = absurd (cc)

-- ---- the machine

-- each legal plan costs at least the bound
abbrev pub IsLeast : Problem → ℕ → Type 0
IsLeast problem bound = (at : ℕ → ℕ) (blocks : ℕ) → IsLegalAt problem at blocks → bound ≤ cost_at problem at blocks

-- what a yes says of the places, their cost and the bound
pub record IsSure (problem : Problem) (places : List ℕ) (cost bound : ℕ) : Type 0 where
  pub listed : are_places problem places ≡ true
  pub together : is_together problem places ≡ true
  pub forward : is_forward problem places ≡ true
  pub priced : price problem places ≡ cost
  pub least : IsLeast problem bound

-- the bound holds where the facts of the pending subtrees are met
abbrev AreBounded : Problem → ℕ → List Facts → Type 0
AreBounded problem bound pending =
    (at : ℕ → ℕ) (blocks : ℕ) (legal : IsLegalAt problem at blocks) (settled : IsSettled problem at) → AllByRecursion (λ facts. Meets at facts → bound ≤ cost_at problem at blocks) pending

-- what a yes from a state on says
abbrev Good : Problem → State → List ℕ → ℕ → ℕ → Type 0
Good problem AtHead P C B = IsSure problem P C B
Good problem (AtPlan v) P C B = IsSure problem P C B
Good problem (AtCost v p) P C B = (p ≡ P) × (price problem p ≡ C) × IsLeast problem B
Good problem (AtBound v p c) P C B = (p ≡ P) × (c ≡ C) × IsLeast problem B
Good problem (AtTree v p c b pending) P C B = (p ≡ P) × (c ≡ C) × (b ≡ B) × AreBounded problem b pending
Good problem (Finished p c b) P C B = (p ≡ P) × (c ≡ C) × (b ≡ B)

answer_unless-yes : (x : Option Reject) (line : ℕ) (a : Answer) (P : List ℕ) (C B : ℕ) (rest : Reading) → answer_unless x line a ≡ Yes P C B rest → (x ≡ None) × (a ≡ Yes P C B rest)
answer_unless-yes None line a P C B rest e = (refl, e)
answer_unless-yes (Some fault) line a P C B rest e = absurd (cc)

module _ (problem : Problem) (proper : IsProper problem) (number : ℕ) (P : List ℕ) (C B : ℕ) where
  plan_good : (p : List ℕ) → or_else (unless (are_places problem p) BadPlan) (or_else (unless (is_together problem p) NotFusible) (unless (is_forward problem p) Backward)) ≡ None
      → (p ≡ P) × (price problem p ≡ C) × IsLeast problem B → IsSure problem P C B
  plan_good p e g =
      let h = or_else-none (unless (are_places problem p) BadPlan) (or_else (unless (is_together problem p) NotFusible) (unless (is_forward problem p) Backward)) e in
      let k = or_else-none (unless (is_together problem p) NotFusible) (unless (is_forward problem p) Backward) h.1 in
      record {
        listed = subst (λ q. are_places problem q ≡ true) g.0 (unless-none _ BadPlan h.0);
        together = subst (λ q. is_together problem q ≡ true) g.0 (unless-none _ NotFusible k.0);
        forward = subst (λ q. is_forward problem q ≡ true) g.0 (unless-none _ Backward k.1);
        priced = ap (price problem) (sym g.0) ∙ g.1;
        least = g.2;
      }

  -- the facts of the list alone are met by every settled plan, and every plan settles
  root_good : (b : ℕ) → AreBounded problem b (root_facts problem ∷ []) → IsLeast problem b
  root_good b all at blocks legal =
      let s = settles problem proper at blocks legal in
      omega (arith, s.cheaper, (all (settle problem at) blocks s.legal s.settled).0 (root_met problem (settle problem at) blocks s.legal))

  record_good : (state : State) (r : Record) → record_fault problem number state r ≡ None → Good problem (after problem state r) P C B → Good problem state P C B
  record_good AtHead (Flush n c v) e g = g
  record_good AtHead _ e g = absurd (cc)
  record_good (AtPlan v) (Plan p) e g = plan_good p e g
  record_good (AtPlan v) _ e g = absurd (cc)
  record_good (AtCost v p) (Cost c) e g =
      let same : c ≡ price problem p = eqb-true _ _ (unless-none (c == price problem p) WrongCost e) in
      (g.0, sym same ∙ g.1, g.2)
  record_good (AtCost v p) _ e g = absurd (cc)
  record_good (AtBound v p c) (Bound b) e g = (g.0, g.1, subst (IsLeast problem) g.2 (root_good b (λ at blocks legal settled. g.3 at blocks legal settled)))
  record_good (AtBound v p c) _ e g = absurd (cc)
  record_good (AtTree v p c b []) r e g = (g.0, g.1, g.2, λ at blocks legal settled. tt)
  record_good (AtTree v p c b (facts ∷ pending)) r e g =
      (g.0, g.1, g.2, λ at blocks legal settled. record_case problem proper v b at blocks legal settled facts pending r e (g.3 at blocks legal settled))
  record_good (Finished p c b) r e g = absurd (cc)

  answer_good : (rest : Reading) (reading : Reading) (state : State) → answer problem number state reading ≡ Yes P C B rest → Good problem state P C B
  answer_good rest (Ends line) (Finished p c b) e = (cc, cc, cc)
  answer_good rest (Stops line fault) (Finished p c b) e = (cc, cc, cc)
  answer_good rest (Reads line r more) (Finished p c b) e = (cc, cc, cc)
  answer_good rest (Ends line) _ e = absurd (cc)
  answer_good rest (Stops line fault) _ e = absurd (cc)
  answer_good rest (Reads line r more) state e =
      let h = answer_unless-yes (record_fault problem number state r) line (answer problem number (after problem state r) more) P C B rest e in
      record_good state r h.0 (answer_good rest more (after problem state r) h.1)

  pub yes_sure : (reading rest : Reading) → answer problem number AtHead reading ≡ Yes P C B rest → IsSure problem P C B
  yes_sure reading rest e = answer_good rest reading AtHead e
