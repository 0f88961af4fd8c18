-- What becomes of a search at a node.
use Rattle.std.proofs.Common.{◌≡◌, ℕ, zero, suc, ◌+◌, ◌-◌, ◌<◌, ◌≤◌, List, [], ◌∷◌, ◌++◌, length, Bool, true, false, cond, not, ◌&&◌, ◌⊎◌, inl, inr, Option, Some, None, refl, sym, ap, ◌∙◌, subst, arith, ⊎_elim, append-nil, append_assoc, length-append, ap₂, min}
use Rattle.std.specs.Prelude.{nat_lt, IsTrue, IfOk, MatchOption, Result, Ok, Err, is_some}
use Rattle.std.specs.List.{list_all, AllByRecursion}
use Rattle.std.specs.Option.{option_to_list}
use Rattle.std.proofs.lemmas.Bool.{and_parts, and_from}
use Rattle.std.proofs.lemmas.List.Sums.{fold-append, sum_by-cons}
use Rattle.std.proofs.lemmas.List.Folds.{list_all-append}
use Rattle.arr_ops.specs.declared.op.Op.{Op}
use Rattle.arr_ops.specs.Plans.{is_legal}
use Rattle.arr_ops.specs.Costs.{cost}
use Rattle.arr_law.specs.declared.charge.Charge.{Charge}
use Rattle.arr_law.specs.declared.fact.Fact.{Fact}
use Rattle.arr_law.specs.declared.fact.Fact.TheVariants.{Same, Apart}
use Rattle.arr_law.specs.declared.record.Record.{Record}
use Rattle.arr_law.specs.declared.record.Record.TheVariants.{Step, Branch, Dead, Worth}
use Rattle.arr_law.specs.Problem.{Problem, is_op}
use Rattle.arr_law.specs.Facts.{Facts, with_fact, root_facts, facts_of}
use Rattle.arr_law.specs.Floor.{Follows, IsClosed, Within, floor}
use Rattle.arr_law.specs.Rules.{rule_named}
use Rattle.arr_law.specs.ProblemOf.{problem_of}
use Rattle.arr_law.specs.Trees.{may_branch}
use Rattle.arr_bound.specs.Worth.{IsLargeLeaf}
use Rattle.arr_heur.specs.Planners.{greedy_plan}
use Rattle.arr_state.specs.declared.outcome.Outcome.{Outcome}
use Rattle.arr_state.specs.Known.{after, AreOps}
use Rattle.arr_state.specs.States.{Standing, TookStep, known}
use Rattle.arr_state.specs.Steps.{Steps, given, third}
use Rattle.arr_state.specs.Went.{CanGoOn, IsClash}
use Rattle.arr_state.proofs.Gives.{third_same, third_twice}
use Rattle.arr_state.proofs.Wents.{facts_after, after_grows, steps-append}
use Rattle.arr_search.specs.declared.progress.Next.{Next}
use Rattle.arr_search.specs.declared.progress.Next.TheVariants.{Split, Close}
use Rattle.arr_search.specs.declared.progress.Progress.{Progress}
use Rattle.arr_search.specs.Counts.{is_open, open_pairs}
use Rattle.arr_search.specs.Steps.{Pays}
use Rattle.arr_search.specs.Running.{IsAmple, IsReady, size, nodes, Running}
use Rattle.arr_search.specs.Nodes.{IsDecided, IsNode, IsPlanned, IsSearch, StaysSearch, is_written, next_pending}
use Rattle.arr_search.specs.Turns.{Advanced, Stands, Settled, Took, Worked, WorkedOn}
use Rattle.arr_search.proofs.Counts.{open-le}
use Rattle.arr_search.proofs.Stepped.{Stepped, stepped, none}
use Rattle.arr_search.proofs.Running.{size-le, branched, ended, leafed, at_ready, fewer_same, fewer_apart, cheapened}
use Rattle.arr_search.proofs.Lists.{plans_pay}
use Rattle.arr_search.proofs.Written.{steps_written, leaf_written, dead_written, branch_written}

-- ---- how many nodes are to come

size-least : (q : ℕ) → 1 ≤ size q
size-least zero = omega arith
size-least (suc q) = omega (arith, size-least q)

size-split : (q a b : ℕ) → a + 1 ≤ q → b + 1 ≤ q → size a + size b < size q
size-split zero a b la lb = absurd (omega arith)
size-split (suc q) a b la lb = omega (arith, size-le a q (omega arith), size-le b q (omega arith))

pub closes_fewer : (problem : Problem) (facts : Facts) (pending : List Facts) → nodes problem pending < nodes problem (facts ∷ pending)
closes_fewer problem facts pending = omega (arith, sum_by-cons (λ facts. size (open_pairs problem facts)) facts pending, size-least (open_pairs problem facts))

-- what a branch asks of its pair, part by part
pub branch_parts : (problem : Problem) (facts : Facts) (f g : ℕ) → may_branch problem facts f g ≡ true → (is_op problem f ≡ true) × (is_op problem g ≡ true) × (nat_lt f g ≡ true) × (is_open facts f g ≡ true)
branch_parts problem facts f g e =
    let p = and_parts ((is_op problem f && is_op problem g) && nat_lt f g) (not (facts (Same f g)) && not (facts (Apart f g))) e in
    let q = and_parts (is_op problem f && is_op problem g) (nat_lt f g) p.0 in
    let r = and_parts (is_op problem f) (is_op problem g) q.0 in
    (r.0, r.1, q.1, and_from (nat_lt f g) (not (facts (Same f g)) && not (facts (Apart f g))) q.1 p.1)

pub splits_fewer : (problem : Problem) (facts : Facts) (pending : List Facts) (f g : ℕ) → may_branch problem facts f g ≡ true → nodes problem (with_fact (Same f g) facts ∷ with_fact (Apart f g) facts ∷ pending) < nodes problem (facts ∷ pending)
splits_fewer problem facts pending f g e =
    let p = branch_parts problem facts f g e in
    let count : Facts → ℕ = λ facts. size (open_pairs problem facts) in
    omega (
      arith,
      sum_by-cons count (with_fact (Same f g) facts) (with_fact (Apart f g) facts ∷ pending),
      sum_by-cons count (with_fact (Apart f g) facts) pending,
      sum_by-cons count facts pending,
      size-split (open_pairs problem facts) (open_pairs problem (with_fact (Same f g) facts)) (open_pairs problem (with_fact (Apart f g) facts)) (fewer_same problem facts f g p.0 p.1 p.3) (fewer_apart problem facts f g p.0 p.1 p.3),
    )

grown_fewer : (problem : Problem) (less more : Facts) (pending : List Facts) → Within less more → nodes problem (more ∷ pending) ≤ nodes problem (less ∷ pending)
grown_fewer problem less more pending w =
    omega (arith, sum_by-cons (λ facts. size (open_pairs problem facts)) less pending, sum_by-cons (λ facts. size (open_pairs problem facts)) more pending, size-le (open_pairs problem more) (open_pairs problem less) (open-le problem less more w))

-- ---- a search at a node

all_written : (tree steps : List Record) → list_all is_written tree ≡ true → list_all is_written steps ≡ true → list_all is_written (tree ++ steps) ≡ true
all_written tree steps a b = list_all-append is_written tree steps ∙ and_from (list_all is_written tree) (list_all is_written steps) a b

one_written : (tree : List Record) (r : Record) → list_all is_written tree ≡ true → is_written r ≡ true → list_all is_written (tree ++ r ∷ []) ≡ true
one_written tree r a b = all_written tree (r ∷ []) a (and_from (is_written r) true b refl)

module _ (list : List Op) (budget : ℕ) where
  abbrev P : Problem
  P = problem_of list

  abbrev G : ℕ
  G = cost list (greedy_plan list)

  -- a node that is to come
  pub first_node : (facts : Facts) (pending : List Facts) (p : Progress) → IsSearch list budget (facts ∷ pending) p → IsNode P facts
  first_node facts pending p s = record { roots = s.running.roots.0; even = s.running.symmetric.0; plain = s.running.plain.0 }

  -- at once a leaf that is worth the cost
  pub leaf_at_once : (facts : Facts) (pending : List Facts) (p : Progress) (value : ℕ) (groups : List Charge) → IsLargeLeaf P facts value groups → p.cost ≤ value
      → IsSearch list budget (facts ∷ pending) p → IsSearch list budget pending (record p { tree = p.tree ++ Worth groups ∷ []; least = min p.least value })
  leaf_at_once facts pending p value groups leaf high s =
      record {
        running = subst (λ t. Running P G budget pending (t ++ Worth groups ∷ []) p.units (min p.least value) p.cost) (append-nil p.tree)
            (subst (λ u. Running P G budget pending ((p.tree ++ []) ++ Worth groups ∷ []) u (min p.least value) p.cost) (let e : p.units + 0 ≡ p.units = omega arith in e)
            (leafed P G budget facts facts pending p.tree [] p.units p.least p.cost s.running (none P facts) groups value p.cost leaf.leaf leaf.worth_is leaf.over_floor (omega arith) s.running.pays (inl refl) (omega (arith, s.running.within)) (λ l. absurd (omega arith)) (inr (inl high))));
        planned = s.planned;
        written = one_written p.tree (Worth groups) s.written (leaf_written list s.few facts groups leaf.leaf);
        formed = s.formed;
        few = s.few;
      }

  -- after steps at a node whose floor is below the cost
  pub stands : (trail trail' : List Fact) (pending : List Facts) (p p' : Progress) → IsSearch list budget (facts_of P trail ∷ pending) p → floor P (facts_of P trail) < p.cost → Took P budget trail trail' p p'
      → Stands list budget (facts_of P trail') pending p'
  stands trail trail' pending p p' s low t =
      record {
        before = p;
        first = facts_of P trail;
        steps = t.steps;
        gives = t.gives;
        search = s;
        are_steps = t.are_steps;
        facts_are = facts_after P trail trail' t.gives t.trail_is;
        is = t.rest;
        low = low;
        room = t.within;
      }

  -- and after further steps
  pub stands_on : (trail trail' : List Fact) (pending : List Facts) (p p' : Progress) → Stands list budget (facts_of P trail) pending p → Took P budget trail trail' p p' → Stands list budget (facts_of P trail') pending p'
  stands_on trail trail' pending p p' s t =
      record {
        before = s.before;
        first = s.first;
        steps = s.steps ++ t.steps;
        gives = s.gives ++ t.gives;
        search = s.search;
        are_steps = steps-append P s.first s.steps t.steps s.gives t.gives s.are_steps (subst (λ F. Steps P F t.steps t.gives) s.facts_are t.are_steps);
        facts_are = facts_after P trail trail' t.gives t.trail_is ∙ (ap (λ F. after F t.gives) s.facts_are ∙ sym (fold-append (λ facts x. with_fact x facts) s.first s.gives t.gives));
        is = t.rest
            ∙ (ap (λ (q : Progress). record q { tree = q.tree ++ t.steps; units = q.units + length t.steps }) s.is
            ∙ ap₂ (λ (r : List Record) (u : ℕ). record s.before { tree = r; units = u }) (append_assoc s.before.tree s.steps t.steps) (let e : s.before.units + length s.steps + length t.steps ≡ s.before.units + length (s.steps ++ t.steps) = omega (arith, length-append s.steps t.steps) in e));
        low = s.low;
        room = t.within;
      }

  module _ (facts : Facts) (pending : List Facts) (p : Progress) (s : Stands list budget facts pending p) where
    done : Stepped P s.first facts s.steps
    done = subst (λ F. Stepped P s.first F s.steps) (sym s.facts_are) (stepped P s.first s.steps s.gives s.are_steps)

    tree_is : p.tree ≡ s.before.tree ++ s.steps
    tree_is = ap (λ (q : Progress). q.tree) s.is

    units_are : p.units ≡ s.before.units + length s.steps
    units_are = ap (λ (q : Progress). q.units) s.is

    least_is : p.least ≡ s.before.least
    least_is = ap (λ (q : Progress). q.least) s.is

    cost_is : p.cost ≡ s.before.cost
    cost_is = ap (λ (q : Progress). q.cost) s.is

    plan_is : p.plan ≡ s.before.plan
    plan_is = ap (λ (q : Progress). q.plan) s.is

    planned : IsPlanned list p.plan p.cost
    planned = subst (λ plan. IsPlanned list plan p.cost) (sym plan_is) (subst (IsPlanned list s.before.plan) (sym cost_is) s.search.planned)

    written : list_all is_written p.tree ≡ true
    written = subst (λ t. list_all is_written t ≡ true) (sym tree_is) (all_written s.before.tree s.steps s.search.written (steps_written list s.search.few s.first s.steps s.gives s.are_steps))

    pub here : IsNode P facts
    here =
        let r = s.search.running in
        record { roots = λ x e. done.grows x (r.roots.0 x e); even = done.symmetric r.symmetric.0; plain = done.plain r.plain.0 }

    carried : (last : Record) (units units' least least' cost' : ℕ) (rest : List Facts) → units ≡ units' → least ≡ least'
        → Running P G budget rest ((s.before.tree ++ s.steps) ++ last ∷ []) units least cost' → Running P G budget rest (p.tree ++ last ∷ []) units' least' cost'
    carried last units units' least least' cost' rest eu el r =
        subst (λ t. Running P G budget rest (t ++ last ∷ []) units' least' cost') (sym tree_is)
        (subst (λ u. Running P G budget rest ((s.before.tree ++ s.steps) ++ last ∷ []) u least' cost') eu
        (subst (λ l. Running P G budget rest ((s.before.tree ++ s.steps) ++ last ∷ []) units l cost') el r))

    pub branch_by : (f g : ℕ) → may_branch P facts f g ≡ true → (IsAmple P budget → IsReady P facts) → (value : ℕ) → floor P facts ≤ value → value < p.cost → p.units < budget
        → IsSearch list budget (with_fact (Same f g) facts ∷ with_fact (Apart f g) facts ∷ pending) (record p { tree = p.tree ++ Branch f g ∷ []; units = p.units + 1 })
    branch_by f g free ready value over low room =
        let o = branch_parts P facts f g free in
        record {
          running = subst (λ c. Running P G budget (with_fact (Same f g) facts ∷ with_fact (Apart f g) facts ∷ pending) (p.tree ++ Branch f g ∷ []) (p.units + 1) p.least c) (sym cost_is)
              (carried (Branch f g) (s.before.units + length s.steps + 1) (p.units + 1) s.before.least p.least s.before.cost (with_fact (Same f g) facts ∷ with_fact (Apart f g) facts ∷ pending) (omega (arith, units_are)) (sym least_is)
              (branched P G budget s.first facts pending s.before.tree s.steps s.before.units s.before.least s.before.cost s.search.running done f g o.0 o.1 o.3 ready (omega (arith, over, low, cost_is)) (omega (arith, units_are, room))));
          planned = planned;
          written = one_written p.tree (Branch f g) written (branch_written list s.search.few facts f g free);
          formed = s.search.formed;
          few = s.search.few;
        }

    -- where all is known
    pub branch : (f g : ℕ) → may_branch P facts f g ≡ true → IsClosed P facts → (value : ℕ) → floor P facts ≤ value → value < p.cost → p.units < budget
        → IsSearch list budget (with_fact (Same f g) facts ∷ with_fact (Apart f g) facts ∷ pending) (record p { tree = p.tree ++ Branch f g ∷ []; units = p.units + 1 })
    branch f g free closed value over low room =
        branch_by f g free (λ a. at_ready P G budget s.first facts pending s.before.tree s.steps s.before.units s.before.least s.before.cost s.search.running done closed) value over low room

    -- behind the first branch all that the list gives is known, if there are units enough for it
    pub ready_behind : 0 < s.before.units → IsAmple P budget → IsReady P facts
    ready_behind later a = ⊎_elim all_ready none_ready (s.search.running.ready a)
      where
        all_ready : AllByRecursion (IsReady P) (s.first ∷ pending) → IsReady P facts
        all_ready all other follows x e = done.grows x (all.0 other follows x e)

        none_ready : (s.before.units ≡ 0) × (s.first ∷ pending ≡ root_facts P ∷ []) → IsReady P facts
        none_ready z = absurd (omega (arith, z.0, later))

    pub dead : (f g : ℕ) → IsClash facts f g → is_op P f ≡ true → is_op P g ≡ true → IsSearch list budget pending (record p { tree = p.tree ++ Dead f g ∷ [] })
    dead f g clash of og =
        record {
          running = subst (λ c. Running P G budget pending (p.tree ++ Dead f g ∷ []) p.units p.least c) (sym cost_is)
              (carried (Dead f g) (s.before.units + length s.steps) p.units s.before.least p.least s.before.cost pending (sym units_are) (sym least_is)
              (ended P G budget s.first facts pending s.before.tree s.steps s.before.units s.before.least s.before.cost s.search.running done f g clash.rising clash.same clash.apart (inr s.low) (omega (arith, units_are, s.room))));
          planned = planned;
          written = one_written p.tree (Dead f g) written (dead_written list s.search.few f g of og);
          formed = s.search.formed;
          few = s.search.few;
        }

    -- a leaf by its worth, at a cost that is no greater
    leaf_at : (value : ℕ) (groups : List Charge) → IsLargeLeaf P facts value groups → (cost' : ℕ) (plan' : List (List ℕ)) → cost' ≤ p.cost → Pays P cost' → IsPlanned list plan' cost' → (value < cost' → p.units ≡ budget)
        → (IsClosed P facts ⊎ ((p.cost ≤ value) ⊎ ((p.units ≡ budget) × CanGoOn P facts)))
        → IsSearch list budget pending (record p { tree = p.tree ++ Worth groups ∷ []; least = min p.least value; cost = cost'; plan = plan' })
    leaf_at value groups leaf cost' plan' less pays right spent why =
        record {
          running =
              carried (Worth groups) (s.before.units + length s.steps) p.units (min s.before.least value) (min p.least value) cost' pending (sym units_are) (ap (λ l. min l value) (sym least_is))
              (leafed P G budget s.first facts pending s.before.tree s.steps s.before.units s.before.least s.before.cost s.search.running done groups value cost' leaf.leaf leaf.worth_is leaf.over_floor (omega (arith, less, cost_is)) pays (inr s.low) (omega (arith, units_are, s.room))
              (λ l. sym units_are ∙ spent l)
              (⊎_elim (λ c. inl c) (λ w. inr (⊎_elim (λ (h : p.cost ≤ value). inl (let k : s.before.cost ≤ value = omega (arith, h, cost_is) in k)) (λ (h : (p.units ≡ budget) × CanGoOn P facts). inr (sym units_are ∙ h.0, h.1)) w)) why));
          planned = right;
          written = one_written p.tree (Worth groups) written (leaf_written list s.search.few facts groups leaf.leaf);
          formed = s.search.formed;
          few = s.search.few;
        }

    pays_here : Pays P p.cost
    pays_here = subst (Pays P) (sym cost_is) s.search.running.pays

    pub leaf_high : (value : ℕ) (groups : List Charge) → IsLargeLeaf P facts value groups → p.cost ≤ value → IsSearch list budget pending (record p { tree = p.tree ++ Worth groups ∷ []; least = min p.least value })
    leaf_high value groups leaf high = leaf_at value groups leaf p.cost p.plan (omega arith) pays_here planned (λ l. absurd (omega arith)) (inr (inl high))

    pub leaf_closed : (value : ℕ) (groups : List Charge) → IsLargeLeaf P facts value groups → IsClosed P facts → p.units ≡ budget → IsSearch list budget pending (record p { tree = p.tree ++ Worth groups ∷ []; least = min p.least value })
    leaf_closed value groups leaf closed all = leaf_at value groups leaf p.cost p.plan (omega arith) pays_here planned (λ l. all) (inl closed)

    pub leaf_spent : (value : ℕ) (groups : List Charge) → IsLargeLeaf P facts value groups → p.units ≡ budget → CanGoOn P facts → IsSearch list budget pending (record p { tree = p.tree ++ Worth groups ∷ []; least = min p.least value })
    leaf_spent value groups leaf all more = leaf_at value groups leaf p.cost p.plan (omega arith) pays_here planned (λ l. all) (inr (inr (all, more)))

    -- a better plan, and a leaf that is worth what it costs
    pub leaf_better : (value : ℕ) (groups : List Charge) → IsLargeLeaf P facts value groups → IsClosed P facts → value < p.cost → (plan : List (List ℕ)) → IsTrue (is_legal list plan) → value ≡ cost list plan
        → IsSearch list budget pending (record p { tree = p.tree ++ Worth groups ∷ []; least = min p.least value; cost = value; plan = plan })
    leaf_better value groups leaf closed low plan legal costs =
        leaf_at value groups leaf value plan (omega arith) (subst (Pays P) (sym costs) (plans_pay list plan s.search.formed legal))
        (record { legal = legal; cost_is = costs; improves = inr (omega (arith, low, cost_is, s.search.running.cheaper)) }) (λ l. absurd (omega arith)) (inl closed)

  -- ---- how a node is worked off

  pub settled_leaf : (facts : Facts) (p p' p'' : Progress) → p' ≡ p'' → p''.units ≤ budget → ((pending : List Facts) → Stands list budget facts pending p → IsSearch list budget pending p'') → Settled list budget facts p p' Close
  settled_leaf facts p p' p'' e within keeps =
      record {
        within = subst (λ (q : Progress). q.units ≤ budget) (sym e) within;
        opens = tt;
        keeps = λ pending s. subst (λ q. IsSearch list budget pending q) (sym e) (keeps pending s);
        fewer = λ pending. closes_fewer P facts pending;
      }

  pub settled_branch : (facts : Facts) (p p' : Progress) (f g : ℕ) → p' ≡ record p { tree = p.tree ++ Branch f g ∷ []; units = p.units + 1 } → p.units < budget → may_branch P facts f g ≡ true
      → ((pending : List Facts) → Stands list budget facts pending p → IsSearch list budget (with_fact (Same f g) facts ∷ with_fact (Apart f g) facts ∷ pending) (record p { tree = p.tree ++ Branch f g ∷ []; units = p.units + 1 }))
      → Settled list budget facts p p' (Split f g)
  settled_branch facts p p' f g e room free keeps =
      record {
        within = omega (arith, ap (λ (q : Progress). q.units) e, room);
        opens = free;
        keeps = λ pending s. subst (λ q. IsSearch list budget (with_fact (Same f g) facts ∷ with_fact (Apart f g) facts ∷ pending) q) (sym e) (keeps pending s);
        fewer = λ pending. splits_fewer P facts pending f g free;
      }

  pub worked_at_once : (trail : List Fact) (p p' p'' : Progress) → p' ≡ p'' → p''.units ≤ budget → ((pending : List Facts) → IsSearch list budget (facts_of P trail ∷ pending) p → IsSearch list budget pending p'') → Worked list budget trail trail p p' Close
  worked_at_once trail p p' p'' e within keeps =
      record {
        gives = [];
        trail_is = sym (append-nil trail);
        within = subst (λ (q : Progress). q.units ≤ budget) (sym e) within;
        opens = tt;
        keeps = λ pending s. subst (λ q. IsSearch list budget pending q) (sym e) (keeps pending s);
        fewer = λ pending. closes_fewer P (facts_of P trail) pending;
      }

  took_grows : (trail trail' : List Fact) (p q : Progress) → Took P budget trail trail' p q → Within (facts_of P trail) (facts_of P trail')
  took_grows trail trail' p q t = subst (λ F. Within (facts_of P trail) F) (sym (facts_after P trail trail' t.gives t.trail_is)) (after_grows (facts_of P trail) t.gives)

  took_fewer : (trail trail' : List Fact) (p q : Progress) (rest pending : List Facts) → Took P budget trail trail' p q → nodes P rest < nodes P (facts_of P trail' ∷ pending) → nodes P rest < nodes P (facts_of P trail ∷ pending)
  took_fewer trail trail' p q rest pending t less = omega (arith, less, grown_fewer P (facts_of P trail) (facts_of P trail') pending (took_grows trail trail' p q t))

  -- steps, and then the record that ends the node
  pub worked_after : (trail trail' : List Fact) (p q p' : Progress) (next : Next) → Took P budget trail trail' p q → floor P (facts_of P trail) < p.cost → Settled list budget (facts_of P trail') q p' next → Worked list budget trail trail' p p' next
  worked_after trail trail' p q p' next t low s =
      record {
        gives = t.gives;
        trail_is = t.trail_is;
        within = s.within;
        opens = s.opens;
        keeps = λ pending h. s.keeps pending (stands trail trail' pending p q h low t);
        fewer = λ pending. took_fewer trail trail' p q (next_pending (facts_of P trail') next pending) pending t (s.fewer pending);
      }

  pub worked_on_after : (trail trail' : List Fact) (p q p' : Progress) (next : Next) → Took P budget trail trail' p q → Settled list budget (facts_of P trail') q p' next → WorkedOn list budget trail trail' p p' next
  worked_on_after trail trail' p q p' next t s =
      record {
        gives = t.gives;
        trail_is = t.trail_is;
        within = s.within;
        opens = s.opens;
        keeps = λ pending h. s.keeps pending (stands_on trail trail' pending p q h t);
        fewer = λ pending. took_fewer trail trail' p q (next_pending (facts_of P trail') next pending) pending t (s.fewer pending);
      }

  -- steps, and then a node that is worked off after further steps
  pub worked_then : (trail mid trail' : List Fact) (p q p' : Progress) (next : Next) → Took P budget trail mid p q → floor P (facts_of P trail) < p.cost → WorkedOn list budget mid trail' q p' next → Worked list budget trail trail' p p' next
  worked_then trail mid trail' p q p' next t low w =
      record {
        gives = t.gives ++ w.gives;
        trail_is = w.trail_is ∙ (ap (λ ts. ts ++ w.gives) t.trail_is ∙ append_assoc trail t.gives w.gives);
        within = w.within;
        opens = w.opens;
        keeps = λ pending h. w.keeps pending (stands trail mid pending p q h low t);
        fewer = λ pending. took_fewer trail mid p q (next_pending (facts_of P trail') next pending) pending t (w.fewer pending);
      }

  -- steps, and then a branch behind the first
  pub worked_branch : (trail trail' : List Fact) (p q p' : Progress) (f g : ℕ) → Took P budget trail trail' p q → floor P (facts_of P trail) < p.cost → (IsAmple P budget → 0 < p.units) → may_branch P (facts_of P trail') f g ≡ true
      → (value : ℕ) → floor P (facts_of P trail') ≤ value → value < q.cost → q.units < budget → p' ≡ record q { tree = q.tree ++ Branch f g ∷ []; units = q.units + 1 } → Worked list budget trail trail' p p' (Split f g)
  unfolding stands
  worked_branch trail trail' p q p' f g t low some free value over less room e =
      record {
        gives = t.gives;
        trail_is = t.trail_is;
        within = omega (arith, ap (λ (r : Progress). r.units) e, room);
        opens = free;
        keeps = λ pending h.
            let s : Stands list budget (facts_of P trail') pending q = stands trail trail' pending p q h low t in
            subst (λ r. IsSearch list budget (with_fact (Same f g) (facts_of P trail') ∷ with_fact (Apart f g) (facts_of P trail') ∷ pending) r) (sym e)
            (branch_by (facts_of P trail') pending q s f g free (λ a. ready_behind (facts_of P trail') pending q s (some a) a) value over less room);
        fewer = λ pending. took_fewer trail trail' p q (with_fact (Same f g) (facts_of P trail') ∷ with_fact (Apart f g) (facts_of P trail') ∷ pending) pending t (splits_fewer P (facts_of P trail') pending f g free);
      }

  -- what is known at a node after steps
  pub grown_node : (trail trail' : List Fact) (p q : Progress) → Took P budget trail trail' p q → IsNode P (facts_of P trail) → IsNode P (facts_of P trail')
  grown_node trail trail' p q a node =
      let F : Facts = facts_of P trail in
      let done : Stepped P F (facts_of P trail') a.steps = subst (λ G. Stepped P F G a.steps) (sym (facts_after P trail trail' a.gives a.trail_is)) (stepped P F a.steps a.gives a.are_steps) in
      record { roots = λ x e. done.grows x (node.roots x e); even = done.symmetric node.even; plain = done.plain node.plain }

  pub advanced_took : (trail trail' : List Fact) (p q : Progress) (outcome : Outcome) → Advanced P budget trail trail' p q outcome → p.units ≤ budget → Took P budget trail trail' p q
  advanced_took trail trail' p q outcome a within =
      record {
        steps = a.saturated.steps;
        gives = a.saturated.gives;
        trail_is = a.saturated.trail_is;
        are_steps = a.saturated.are_steps;
        rest = a.rest;
        within = omega (arith, ap (λ (r : Progress). r.units) a.rest, a.saturated.within, within);
      }

  -- all units are spent where so many steps were taken as were left
  pub advanced_all : (trail trail' : List Fact) (p q : Progress) (outcome : Outcome) (a : Advanced P budget trail trail' p q outcome) → p.units ≤ budget → length a.saturated.steps ≡ budget - p.units → q.units ≡ budget
  advanced_all trail trail' p q outcome a within all = omega (arith, ap (λ (r : Progress). r.units) a.rest, all, within)

-- ---- steps that are taken one by one

pub took_none : (problem : Problem) (budget : ℕ) (trail : List Fact) (p : Progress) → p.units ≤ budget → Took problem budget trail trail p p
took_none problem budget trail p within =
    record {
      steps = [];
      gives = [];
      trail_is = sym (append-nil trail);
      are_steps = tt;
      rest = ap₂ (λ (r : List Record) (u : ℕ). record p { tree = r; units = u }) (sym (append-nil p.tree)) (let e : p.units ≡ p.units + 0 = omega arith in e);
      within = within;
    }

pub took_then : (problem : Problem) (less budget : ℕ) (trail mid trail' : List Fact) (p q r : Progress) → Took problem budget trail mid p q → Took problem less mid trail' q r → r.units ≤ budget → Took problem budget trail trail' p r
took_then problem less budget trail mid trail' p q r t w within =
    record {
      steps = t.steps ++ w.steps;
      gives = t.gives ++ w.gives;
      trail_is = w.trail_is ∙ (ap (λ ts. ts ++ w.gives) t.trail_is ∙ append_assoc trail t.gives w.gives);
      are_steps = steps-append problem (facts_of problem trail) t.steps w.steps t.gives w.gives t.are_steps (subst (λ F. Steps problem F w.steps w.gives) (facts_after problem trail mid t.gives t.trail_is) w.are_steps);
      rest = w.rest
          ∙ (ap (λ (q : Progress). record q { tree = q.tree ++ w.steps; units = q.units + length w.steps }) t.rest
          ∙ ap₂ (λ (r : List Record) (u : ℕ). record p { tree = r; units = u }) (append_assoc p.tree t.steps w.steps) (let e : p.units + length t.steps + length w.steps ≡ p.units + length (t.steps ++ w.steps) = omega (arith, length-append t.steps w.steps) in e));
      within = within;
    }

pub took_one : (problem : Problem) (rule f g h : ℕ) (trail trail' : List Fact) (p p' : Progress) (tree : List Record) (taken : Bool) → TookStep problem rule f g h trail trail' p.tree tree taken
    → p' ≡ record p { tree = tree; units = p.units + cond taken 1 0 } → Took problem (p.units + 1) trail trail' p p'
took_one problem rule f g h trail trail' p p' tree taken t e = go (given problem (facts_of problem trail) (rule_named problem 2 rule f g h)) refl
  where
    changed : (steps : List Record) (n : ℕ) → tree ≡ p.tree ++ steps → cond taken 1 0 ≡ n → p' ≡ record p { tree = p.tree ++ steps; units = p.units + n }
    changed steps n a b = e ∙ ap₂ (λ (r : List Record) (u : ℕ). record p { tree = r; units = p.units + u }) a b

    go : (o : Option Fact) → given problem (facts_of problem trail) (rule_named problem 2 rule f g h) ≡ o → Took problem (p.units + 1) trail trail' p p'
    go None is =
        let isnt : taken ≡ false = t.taken_is ∙ ap is_some is in
        let tree_is : tree ≡ p.tree ++ [] = t.tree_is ∙ ap (λ b. p.tree ++ cond b (Step rule f g (third rule h) ∷ []) []) isnt in
        let rest : p' ≡ record p { tree = p.tree ++ []; units = p.units + 0 } = changed [] 0 tree_is (ap (λ b. cond b 1 0) isnt) in
        record { steps = []; gives = []; trail_is = t.trail_is ∙ ap (λ o. trail ++ option_to_list o) is; are_steps = tt; rest = rest; within = omega (arith, ap (λ (r : Progress). r.units) rest) }
    go (Some x) is =
        let done : taken ≡ true = t.taken_is ∙ ap is_some is in
        let tree_is : tree ≡ p.tree ++ Step rule f g (third rule h) ∷ [] = t.tree_is ∙ ap (λ b. p.tree ++ cond b (Step rule f g (third rule h) ∷ []) []) done in
        let rest : p' ≡ record p { tree = p.tree ++ Step rule f g (third rule h) ∷ []; units = p.units + 1 } = changed (Step rule f g (third rule h) ∷ []) 1 tree_is (ap (λ b. cond b 1 0) done) in
        record {
          steps = Step rule f g (third rule h) ∷ [];
          gives = x ∷ [];
          trail_is = t.trail_is ∙ ap (λ o. trail ++ option_to_list o) is;
          are_steps = (ap (given problem (facts_of problem trail)) (third_same problem rule f g h) ∙ is, third_twice rule h, tt);
          rest = rest;
          within = omega (arith, ap (λ (r : Progress). r.units) rest);
        }

-- ---- a plan that costs less

pub cheaper_plan : (list : List Op) (budget : ℕ) (pending : List Facts) (p : Progress) (plan : List (List ℕ)) (price : ℕ) → IsTrue (is_legal list plan) → price ≡ cost list plan → price < p.cost → IsSearch list budget pending p
    → IsSearch list budget pending (record p { cost = price; plan = plan })
cheaper_plan list budget pending p plan price legal costs low s =
    record {
      formed = s.formed;
      few = s.few;
      running = cheapened (problem_of list) (cost list (greedy_plan list)) budget pending p.tree p.units p.least p.cost price s.running (omega arith) (subst (Pays (problem_of list)) (sym costs) (plans_pay list plan s.formed legal));
      planned = record { legal = legal; cost_is = costs; improves = inr (omega (arith, low, s.running.cheaper)) };
      written = s.written;
    }

pub stays_on : (list : List Op) (p q r : Progress) → StaysSearch list p q → StaysSearch list q r → StaysSearch list p r
stays_on list p q r first second budget pending s = second budget pending (first budget pending s)

-- ---- a state of the list

pub known_at : (list : List Op) (s : Standing) → s.list ≡ list → known s ≡ facts_of (problem_of list) s.trail
known_at list s e = ap (λ (l : List Op). facts_of (problem_of l) s.trail) e

pub leaf_for : (list views : List Op) (facts : Facts) (value : ℕ) (groups : List Charge) → views ≡ list → IsLargeLeaf (problem_of views) facts value groups → IsLargeLeaf (problem_of list) facts value groups
leaf_for list views facts value groups v h = subst (λ (l : List Op). IsLargeLeaf (problem_of l) facts value groups) v h

pub leaf_at_state : (list views : List Op) (s : Standing) (value : ℕ) (groups : List Charge) → views ≡ list → s.list ≡ list → IsLargeLeaf (problem_of views) (known s) value groups → IsLargeLeaf (problem_of list) (facts_of (problem_of list) s.trail) value groups
leaf_at_state list views s value groups v e h =
    subst (λ F. IsLargeLeaf (problem_of list) F value groups) (known_at list s e) (leaf_for list views (known s) value groups v h)

pub about_at : (list : List Op) (s : Standing) → s.list ≡ list → ((x : Fact) → IsTrue (known s x) → AreOps (problem_of s.list) x) → (x : Fact) → IsTrue (facts_of (problem_of list) s.trail x) → AreOps (problem_of list) x
about_at list s e h = subst (λ (l : List Op). (x : Fact) → IsTrue (facts_of (problem_of l) s.trail x) → AreOps (problem_of l) x) e h

pub low_at : (list : List Op) (s : Standing) (n : ℕ) → s.list ≡ list → floor (problem_of list) (known s) < n → floor (problem_of list) (facts_of (problem_of list) s.trail) < n
low_at list s n e low = subst (λ F. floor (problem_of list) F < n) (known_at list s e) low

-- ---- a node after steps, as the call that took them tells of it

pub record Grown (list : List Op) (budget : ℕ) (before after : Standing) (p q : Progress) : Type 0 where
  pub here : after.list ≡ list
  pub took : Took (problem_of list) budget before.trail after.trail p q
  pub node : IsNode (problem_of list) (known after)
  pub known_is : known after ≡ facts_of (problem_of list) after.trail

pub took_at : (list : List Op) (budget : ℕ) (before after : Standing) (p q : Progress) → before.list ≡ list → IsNode (problem_of list) (known before)
    → after.list ≡ before.list → Took (problem_of before.list) budget before.trail after.trail p q → Grown list budget before after p q
took_at list budget before after p q is node stays took =
    let P : Problem = problem_of list in
    let here : after.list ≡ list = stays ∙ is in
    let t : Took P budget before.trail after.trail p q = subst (λ (l : List Op). Took (problem_of l) budget before.trail after.trail p q) is took in
    record {
      here = here;
      took = t;
      node = subst (IsNode P) (sym (known_at list after here)) (grown_node list budget before.trail after.trail p q t (subst (IsNode P) (known_at list before is) node));
      known_is = known_at list after here;
    }

-- after all that followed, or as many steps as the budget had left
pub record Saturates (list : List Op) (budget : ℕ) (before after : Standing) (p q : Progress) (outcome : Outcome) : Type 0 where
  pub grown : Grown list budget before after p q
  pub advanced : Advanced (problem_of list) budget before.trail after.trail p q outcome
  pub about : (x : Fact) → IsTrue (facts_of (problem_of list) after.trail x) → AreOps (problem_of list) x

pub advanced_at : (list : List Op) (budget : ℕ) (before after : Standing) (p q : Progress) (outcome : Outcome) → before.list ≡ list → IsNode (problem_of list) (known before) → p.units ≤ budget
    → after.list ≡ before.list → ((x : Fact) → IsTrue (known after x) → AreOps (problem_of after.list) x) → Advanced (problem_of before.list) budget before.trail after.trail p q outcome
    → Saturates list budget before after p q outcome
advanced_at list budget before after p q outcome is node within stays about a =
    record {
      grown = took_at list budget before after p q is node stays (advanced_took before.list budget before.trail after.trail p q outcome a within);
      advanced = subst (λ (l : List Op). Advanced (problem_of l) budget before.trail after.trail p q outcome) is a;
      about = about_at list after (stays ∙ is) about;
    }

-- ---- a pair that is picked, or none

pub none_picked : (problem : Problem) (facts : Facts) (o : Option (ℕ × ℕ)) → MatchOption o (IsDecided problem facts) (λ p. may_branch problem facts p.0 p.1 ≡ true) → o ≡ None → IsDecided problem facts
none_picked problem facts o h e = subst (λ q. MatchOption q (IsDecided problem facts) (λ p. may_branch problem facts p.0 p.1 ≡ true)) e h

pub some_picked : (problem : Problem) (facts : Facts) (o : Option (ℕ × ℕ)) (f g : ℕ) → MatchOption o (IsDecided problem facts) (λ p. may_branch problem facts p.0 p.1 ≡ true) → o ≡ Some (f, g) → may_branch problem facts f g ≡ true
some_picked problem facts o f g h e = subst (λ q. MatchOption q (IsDecided problem facts) (λ p. may_branch problem facts p.0 p.1 ≡ true)) e h

pub ok_both : {A E : Type 0} (r : Result A E) (P Q : A → Type 0) → IfOk r P → IfOk r Q → IfOk r (λ x. P x × Q x)
ok_both (Ok x) P Q p q = (p, q)
ok_both (Err e) P Q p q = tt
