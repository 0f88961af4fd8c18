-- Steps one after another.
use Rattle.std.proofs.Common.{◌≡◌, ℕ, ◌+◌, ◌-◌, List, [], ◌∷◌, ◌++◌, length, true, false, cond, not, ◌&&◌, Some, None, sym, ap, ◌∙◌, subst, arith, append_assoc, append-nil, length-append}
use Rattle.std.specs.Prelude.{Result, Ok, Err, IfOk}
use Rattle.std.specs.List.{list_all}
use Rattle.std.proofs.lemmas.Bool.{and_from}
use Rattle.std.proofs.lemmas.List.Sums.{fold-append}
use Rattle.arr_law.specs.declared.fact.Fact.{Fact}
use Rattle.arr_law.specs.declared.record.Record.{Record}
use Rattle.arr_law.specs.declared.record.Record.TheVariants.{Flush, Plan, Cost, Bound, Step, Branch, Dead, Worth, End}
use Rattle.arr_law.specs.Problem.{Problem}
use Rattle.arr_law.specs.Facts.{Facts, with_fact, root_facts, facts_of}
use Rattle.arr_law.specs.Rules.{rule_named, applies}
use Rattle.arr_law.specs.Floor.{Within}
use Rattle.arr_state.specs.declared.outcome.Going.{Going}
use Rattle.arr_state.specs.declared.outcome.Going.TheVariants.{On, Clash, NoneLeft}
use Rattle.arr_state.specs.declared.known.Known.{Known}
use Rattle.arr_state.specs.Known.{after}
use Rattle.arr_state.specs.Steps.{given, third, Steps, are_lawful}
use Rattle.arr_state.specs.Jobs.{Tried}
use Rattle.arr_state.specs.Went.{IsClash, Reaches, IfOn, Went}
use Rattle.arr_state.proofs.Basics.{by_bool, all_more, with_within}
use Rattle.arr_state.proofs.Spelled.{with_here}
use Rattle.arr_state.proofs.Gives.{given_on, third_same, third_twice}

pub after_grows : (facts : Facts) (gives : List Fact) → Within facts (after facts gives)
after_grows facts [] x e = e
after_grows facts (y ∷ gives) x e = after_grows (with_fact y facts) gives x (with_within facts y x e)

pub steps-append : (problem : Problem) (facts : Facts) (s t : List Record) (xs ys : List Fact) → Steps problem facts s xs → Steps problem (after facts xs) t ys → Steps problem facts (s ++ t) (xs ++ ys)
steps-append problem facts [] t [] ys p q = q
steps-append problem facts (Step n f g h ∷ s) t (x ∷ xs) ys p q = (p.0, p.1, steps-append problem (with_fact x facts) s t xs ys p.2 q)
steps-append problem facts [] t (x ∷ xs) ys p q = absurd p
steps-append problem facts (Step n f g h ∷ s) t [] ys p q = absurd p
steps-append problem facts (Branch f g ∷ s) t xs ys p q = absurd p
steps-append problem facts (Dead f g ∷ s) t xs ys p q = absurd p
steps-append problem facts (Worth w ∷ s) t xs ys p q = absurd p
steps-append problem facts (End ∷ s) t xs ys p q = absurd p
steps-append problem facts (Flush n k v ∷ s) t xs ys p q = absurd p
steps-append problem facts (Plan l ∷ s) t xs ys p q = absurd p
steps-append problem facts (Cost c ∷ s) t xs ys p q = absurd p
steps-append problem facts (Bound b ∷ s) t xs ys p q = absurd p

pub facts_after : (problem : Problem) (trail trail' gives : List Fact) → trail' ≡ trail ++ gives → facts_of problem trail' ≡ after (facts_of problem trail) gives
facts_after problem trail trail' gives e = ap (facts_of problem) e ∙ fold-append (λ facts x. with_fact x facts) (root_facts problem) trail gives

pub went_grows : {problem : Problem} {s s' : Known} {tree tree' : List Record} {left : ℕ} {going : Going} {Done : Facts → Facts → Type 0} → Went problem s s' tree tree' left going Done → Within (facts_of problem s.facts.items) (facts_of problem s'.facts.items)
went_grows {problem} {s} {s'} w x e =
    ap (λ facts. facts x) (facts_after problem s.facts.items s'.facts.items w.gives w.trail_is) ∙ after_grows (facts_of problem s.facts.items) w.gives x e

pub went_none : (problem : Problem) (s : Known) (tree : List Record) (left : ℕ) (Done : Facts → Facts → Type 0) → Done (facts_of problem s.facts.items) (facts_of problem s.facts.items) → Went problem s s tree tree left (On left) Done
went_none problem s tree left Done d =
    record { steps = []; gives = []; tree_is = sym (append-nil tree); trail_is = sym (append-nil s.facts.items); are_steps = tt; room = omega arith; reaches = omega arith; done = d }

reaches_more : (problem : Problem) (facts : Facts) (left rest m n total : ℕ) (going : Going) → left ≡ rest + m → total ≡ m + n → Reaches problem rest facts n going → Reaches problem left facts total going
reaches_more problem facts left rest m n total (On r) a t e = omega (arith, a, t, e)
reaches_more problem facts left rest m n total (Clash f g) a t e = e
reaches_more problem facts left rest m n total NoneLeft a t e = (omega (arith, a, t, e.0), e.1)

if_on : (going : Going) (P Q : Type 0) → (P → Q) → IfOn going P → IfOn going Q
if_on (On r) P Q f p = f p
if_on (Clash f' g) P Q f p = tt
if_on NoneLeft P Q f p = tt

pub went_then : (problem : Problem) (t0 t1 t2 : Known) (r0 r1 r2 : List Record) (left rest : ℕ) (going : Going) (D1 D2 D : Facts → Facts → Type 0) → (Within (facts_of problem t0.facts.items) (facts_of problem t1.facts.items) → Within (facts_of problem t1.facts.items) (facts_of problem t2.facts.items) → D1 (facts_of problem t0.facts.items) (facts_of problem t1.facts.items) → D2 (facts_of problem t1.facts.items) (facts_of problem t2.facts.items) → D (facts_of problem t0.facts.items) (facts_of problem t2.facts.items)) → Went problem t0 t1 r0 r1 left (On rest) D1 → Went problem t1 t2 r1 r2 rest going D2 → Went problem t0 t2 r0 r2 left going D
went_then problem t0 t1 t2 r0 r1 r2 left rest going D1 D2 D step p q =
    record {
      steps = p.steps ++ q.steps;
      gives = p.gives ++ q.gives;
      tree_is = q.tree_is ∙ (ap (λ r. r ++ q.steps) p.tree_is ∙ append_assoc r0 p.steps q.steps);
      trail_is = q.trail_is ∙ (ap (λ t. t ++ q.gives) p.trail_is ∙ append_assoc t0.facts.items p.gives q.gives);
      are_steps = steps-append problem (facts_of problem t0.facts.items) p.steps q.steps p.gives q.gives p.are_steps (subst (λ facts. Steps problem facts q.steps q.gives) (facts_after problem t0.facts.items t1.facts.items p.gives p.trail_is) q.are_steps);
      room = omega (arith, length-append p.steps q.steps, p.reaches, q.room);
      reaches = reaches_more problem (facts_of problem t2.facts.items) left rest (length p.steps) (length q.steps) (length (p.steps ++ q.steps)) going p.reaches (length-append p.steps q.steps) q.reaches;
      done = if_on going (D2 (facts_of problem t1.facts.items) (facts_of problem t2.facts.items)) (D (facts_of problem t0.facts.items) (facts_of problem t2.facts.items)) (step (went_grows p) (went_grows q) p.done) q.done;
    }

pub went_as : (problem : Problem) (s s' : Known) (tree tree' : List Record) (left : ℕ) (going going' : Going) (D : Facts → Facts → Type 0) → going ≡ going' → Went problem s s' tree tree' left going D → Went problem s s' tree tree' left going' D
went_as problem s s' tree tree' left going going' D e w = subst (λ g. Went problem s s' tree tree' left g D) e w

pub tried_more : (problem : Problem) (n f g h : ℕ) (a b c d : Facts) → Within a b → Within c d → Tried problem n f g h b c → Tried problem n f g h a d
tried_more problem n f g h a b c d l m t rule is ok known = m rule.gives (t rule is ok (all_more a b rule.premises l known))

-- a step that gives nothing leaves nothing to be given
pub tried_none : (problem : Problem) (facts : Facts) (n f g h : ℕ) → given problem facts (rule_named problem 2 n f g h) ≡ None → Tried problem n f g h facts facts
tried_none problem facts n f g h e rule is ok known =
    by_bool (facts rule.gives) (λ t. t) (λ isnt. absurd (some_none (sym (ap (λ b. cond b (Some rule.gives) None) (yes_ isnt)) ∙ (sym (ap (given problem facts) is) ∙ e))))
  where
    yes_ : facts rule.gives ≡ false → applies problem facts rule ≡ true
    yes_ isnt = and_from (are_lawful problem rule) (list_all facts rule.premises && not (facts rule.gives)) ok (and_from (list_all facts rule.premises) (not (facts rule.gives)) known (ap not isnt))

    some_none : Some rule.gives ≡ None → ⊥
    some_none h = cc

-- steps with no reason to stop, where something else holds at their end
pub went_done : (problem : Problem) (s s' : Known) (tree tree' : List Record) (left rest : ℕ) (D D' : Facts → Facts → Type 0) → D' (facts_of problem s.facts.items) (facts_of problem s'.facts.items) → Went problem s s' tree tree' left (On rest) D → Went problem s s' tree tree' left (On rest) D'
went_done problem s s' tree tree' left rest D D' d w = record { steps = w.steps; gives = w.gives; tree_is = w.tree_is; trail_is = w.trail_is; are_steps = w.are_steps; room = w.room; reaches = w.reaches; done = d }

pub went_more : (problem : Problem) (s s' : Known) (tree tree' : List Record) (left : ℕ) (going : Going) (D D' : Facts → Facts → Type 0) → (D (facts_of problem s.facts.items) (facts_of problem s'.facts.items) → D' (facts_of problem s.facts.items) (facts_of problem s'.facts.items)) → Went problem s s' tree tree' left going D → Went problem s s' tree tree' left going D'
went_more problem s s' tree tree' left going D D' f w = record { steps = w.steps; gives = w.gives; tree_is = w.tree_is; trail_is = w.trail_is; are_steps = w.are_steps; room = w.room; reaches = w.reaches; done = if_on going (D (facts_of problem s.facts.items) (facts_of problem s'.facts.items)) (D' (facts_of problem s.facts.items) (facts_of problem s'.facts.items)) f w.done }

pub ok_more : {A E : Type 0} (r : Result A E) (P Q : A → Type 0) → ((a : A) → P a → Q a) → IfOk r P → IfOk r Q
ok_more (Ok a) P Q f p = f a p
ok_more (Err e) P Q f p = p

module _ (problem : Problem) (s : Known) (tree : List Record) (left n f g h : ℕ) (x : Fact) (e : given problem (facts_of problem s.facts.items) (rule_named problem 2 n f g h) ≡ Some x) where
  pub went_nowhere : (D : Facts → Facts → Type 0) → left ≡ 0 → Went problem s s tree tree left NoneLeft D
  went_nowhere D z =
      record {
        steps = [];
        gives = [];
        tree_is = sym (append-nil tree);
        trail_is = sym (append-nil s.facts.items);
        are_steps = tt;
        room = omega arith;
        reaches = (sym z, given_on problem (facts_of problem s.facts.items) n f g h x e);
        done = tt;
      }

  given_tried : (trail' : List Fact) → trail' ≡ s.facts.items ++ x ∷ [] → Tried problem n f g h (facts_of problem s.facts.items) (facts_of problem trail')
  given_tried trail' t rule is ok known =
      ap (λ facts. facts rule.gives) (facts_after problem s.facts.items trail' (x ∷ []) t)
      ∙ by_bool (facts_of problem s.facts.items rule.gives) (λ k. with_within (facts_of problem s.facts.items) x rule.gives k) (λ isnt.
      let applied : applies problem (facts_of problem s.facts.items) rule ≡ true = and_from (are_lawful problem rule) (list_all (facts_of problem s.facts.items) rule.premises && not (facts_of problem s.facts.items rule.gives)) ok (and_from (list_all (facts_of problem s.facts.items) rule.premises) (not (facts_of problem s.facts.items rule.gives)) known (ap not isnt)) in
      let two : Some rule.gives ≡ Some x = sym (ap (λ b. cond b (Some rule.gives) None) applied) ∙ (sym (ap (given problem (facts_of problem s.facts.items)) is) ∙ e) in
      let same : x ≡ rule.gives = cc in
      subst (λ y. with_fact x (facts_of problem s.facts.items) y ≡ true) same (with_here (facts_of problem s.facts.items) x))

  module _ (s' : Known) (tree' : List Record) (t : s'.facts.items ≡ s.facts.items ++ x ∷ []) (r : tree' ≡ tree ++ Step n f g (third n h) ∷ []) (some : left ≡ 0 → ⊥) where
    here : Steps problem (facts_of problem s.facts.items) (Step n f g (third n h) ∷ []) (x ∷ [])
    here = (ap (given problem (facts_of problem s.facts.items)) (third_same problem n f g h) ∙ e, third_twice n h, tt)

    pub went_on : Went problem s s' tree tree' left (On (left - 1)) (Tried problem n f g h)
    went_on = record { steps = Step n f g (third n h) ∷ []; gives = x ∷ []; tree_is = r; trail_is = t; are_steps = here; room = omega arith; reaches = omega arith; done = given_tried s'.facts.items t }

    pub went_clash : (y z : ℕ) (D : Facts → Facts → Type 0) → IsClash (facts_of problem s'.facts.items) y z → Went problem s s' tree tree' left (Clash y z) D
    went_clash y z D both = record { steps = Step n f g (third n h) ∷ []; gives = x ∷ []; tree_is = r; trail_is = t; are_steps = here; room = omega arith; reaches = both; done = tt }

module _ (problem : Problem) (t0 t1 t2 : Known) (r0 r1 r2 : List Record) (left rest : ℕ) (result : Going) (D1 D2 D : Facts → Facts → Type 0) (p : Went problem t0 t1 r0 r1 left (On rest) D1) (q : Went problem t1 t2 r1 r2 rest result D2) where
  pub went_clashes : (x y : ℕ) → result ≡ Clash x y → Went problem t0 t2 r0 r2 left (Clash x y) D
  went_clashes x y e =
      let w = went_then problem t0 t1 t2 r0 r1 r2 left rest (Clash x y) D1 D2 (λ a b. Unit {0}) (λ _ _ _ _. tt) p (went_as problem t1 t2 r1 r2 rest result (Clash x y) D2 e q) in
      record { steps = w.steps; gives = w.gives; tree_is = w.tree_is; trail_is = w.trail_is; are_steps = w.are_steps; room = w.room; reaches = w.reaches; done = tt }

  pub went_out : result ≡ NoneLeft → Went problem t0 t2 r0 r2 left NoneLeft D
  went_out e =
      let w = went_then problem t0 t1 t2 r0 r1 r2 left rest NoneLeft D1 D2 (λ a b. Unit {0}) (λ _ _ _ _. tt) p (went_as problem t1 t2 r1 r2 rest result NoneLeft D2 e q) in
      record { steps = w.steps; gives = w.gives; tree_is = w.tree_is; trail_is = w.trail_is; are_steps = w.are_steps; room = w.room; reaches = w.reaches; done = tt }

  pub went_on_with : (now : ℕ) → result ≡ On now → (Within (facts_of problem t0.facts.items) (facts_of problem t1.facts.items) → Within (facts_of problem t1.facts.items) (facts_of problem t2.facts.items) → D1 (facts_of problem t0.facts.items) (facts_of problem t1.facts.items) → D2 (facts_of problem t1.facts.items) (facts_of problem t2.facts.items) → D (facts_of problem t0.facts.items) (facts_of problem t2.facts.items)) → Went problem t0 t2 r0 r2 left (On now) D
  went_on_with now e step = went_then problem t0 t1 t2 r0 r1 r2 left rest (On now) D1 D2 D step p (went_as problem t1 t2 r1 r2 rest result (On now) D2 e q)
