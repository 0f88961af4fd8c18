-- What a search keeps true: the records so far, the facts of the subtrees that are still to come, and three numbers.
use Rattle.std.proofs.Common.{◌≡◌, ℕ, zero, suc, ◌+◌, ◌*◌, ◌^◌, ◌<◌, ◌≤◌, List, [], ◌∷◌, ◌++◌, length, Bool, true, false, not, ◌&&◌, ◌⊎◌, inl, inr, refl, sym, ap, ap₂, ◌∙◌, subst, arith, ⊎_elim, append_assoc, append-nil, min}
use Rattle.std.specs.Prelude.{nat_lt}
use Rattle.std.specs.List.{AllByRecursion}
use Rattle.std.proofs.lemmas.Bool.{and_parts, and_from, true≢false, le-leb, lt-ltb, ltb-true, cases_lt}
use Rattle.std.proofs.lemmas.List.Sums.{sum_by-cons, fold-append}
use Rattle.std.proofs.Math.Nat.{mul-le-mul_left, pow-suc}
use Rattle.arr_law.specs.declared.charge.Charge.{Charge}
use Rattle.arr_law.specs.declared.fact.Fact.TheVariants.{Same, Apart, Before}
use Rattle.arr_law.specs.declared.record.Record.{Record}
use Rattle.arr_law.specs.declared.record.Record.TheVariants.{Flush, Plan, Cost, Bound, Step, Branch, Dead, Worth, End}
use Rattle.arr_law.specs.declared.reject.Reject.TheVariants.{BadBranch, BadLeaf, WeakLeaf}
use Rattle.arr_law.specs.Problem.{Problem, is_op}
use Rattle.arr_law.specs.Facts.{Facts, with_fact, root_facts}
use Rattle.arr_law.specs.Leaves.{is_leaf, worth}
use Rattle.arr_law.specs.Trees.{unless, or_else, go_on, may_branch, walk}
use Rattle.arr_law.specs.Floor.{Within, IsSymmetric, IsClosed, Follows, floor, kept_apart}
use Rattle.arr_state.specs.Went.{CanGoOn}
use Rattle.arr_state.proofs.Basics.{with_within}
use Rattle.arr_state.proofs.Spelled.{symmetric-with, with_here}
use Rattle.arr_search.specs.Counts.{is_open, open_pairs, fusible_pairs}
use Rattle.arr_search.specs.Found.{units_of, least_of, lower, are_low, node_most, IsFound}
use Rattle.arr_search.specs.Steps.{Pays, IsPlain}
use Rattle.arr_search.specs.Running.{size, load, loads, IsAmple, IsReady, Running}
use Rattle.arr_search.proofs.Counts.{floor-le, open-le, open-less, open-root, missing-most}
use Rattle.arr_search.proofs.Stepped.{Stepped, units-append, plain-with, root_plain, more_left}

pub size-le : (p q : ℕ) → p ≤ q → size p ≤ size q
size-le zero zero l = omega arith
size-le zero (suc q) l = omega (arith, size-le zero q (omega arith))
size-le (suc p) zero l = absurd (omega arith)
size-le (suc p) (suc q) l = omega (arith, size-le p q (omega arith))

pub size-is : (q : ℕ) → size q + 1 ≡ 2 ^ (q + 1)
size-is zero = refl
size-is (suc q) = omega (arith, size-is q, pow-suc 2 (q + 1), ap (λ k. 2 ^ k) (let e : suc q + 1 ≡ suc (q + 1) = omega arith in e))

pub load-le : (problem : Problem) (less more : Facts) → Within less more → load problem more ≤ load problem less
load-le problem less more w =
    omega (arith, mul-le-mul_left (node_most problem) (size-le (open_pairs problem more) (open_pairs problem less) (open-le problem less more w)))

pub load-least : (problem : Problem) (facts : Facts) → node_most problem ≤ load problem facts
load-least problem facts = omega (arith, mul-le-mul_left (node_most problem) (size-le zero (open_pairs problem facts) (omega arith)))

-- the two children of a node count less than it does
pub load-split : (problem : Problem) (facts a b : Facts) → open_pairs problem a + 1 ≤ open_pairs problem facts → open_pairs problem b + 1 ≤ open_pairs problem facts → load problem a + load problem b + node_most problem ≤ load problem facts
load-split problem facts a b la lb = go (open_pairs problem facts) la lb
  where
    go : (q : ℕ) → open_pairs problem a + 1 ≤ q → open_pairs problem b + 1 ≤ q → load problem a + load problem b + node_most problem ≤ size q * node_most problem
    go zero la lb = absurd (omega arith)
    go (suc q) la lb =
        omega (arith, mul-le-mul_left (node_most problem) (size-le (open_pairs problem a) q (omega arith)), mul-le-mul_left (node_most problem) (size-le (open_pairs problem b) q (omega arith)))

shut : (a b c : Bool) → ((a ≡ true) ⊎ (b ≡ true)) → (c && (not a && not b)) ≡ false
shut true b true h = refl
shut false true true h = refl
shut false false true h = absurd (⊎_elim (λ e. true≢false (sym e)) (λ e. true≢false (sym e)) h)
shut a b false h = refl

-- a branch decides its pair on both sides
module _ (problem : Problem) (facts : Facts) (f g : ℕ) (of : is_op problem f ≡ true) (og : is_op problem g ≡ true) (undecided : is_open facts f g ≡ true) where
  pub fewer_same : open_pairs problem (with_fact (Same f g) facts) + 1 ≤ open_pairs problem facts
  fewer_same = open-less problem facts (with_fact (Same f g) facts) (with_within facts (Same f g)) f g of og undecided (shut (with_fact (Same f g) facts (Same f g)) (with_fact (Same f g) facts (Apart f g)) (nat_lt f g) (inl (with_here facts (Same f g))))

  pub fewer_apart : open_pairs problem (with_fact (Apart f g) facts) + 1 ≤ open_pairs problem facts
  fewer_apart = open-less problem facts (with_fact (Apart f g) facts) (with_within facts (Apart f g)) f g of og undecided (shut (with_fact (Apart f g) facts (Same f g)) (with_fact (Apart f g) facts (Apart f g)) (nat_lt f g) (inr (with_here facts (Apart f g))))

module _ (problem : Problem) (greedy budget : ℕ) where
  abbrev Keeps : List Facts → List Record → ℕ → ℕ → ℕ → Type 0
  Keeps pending tree units least cost = Running problem greedy budget pending tree units least cost

  root_follows : Follows problem (root_facts problem)
  root_follows other r s c = r

  kept_within : Within (kept_apart problem) (root_facts problem)
  kept_within (Same f g) e = absurd (true≢false (sym e))
  kept_within (Apart f g) e = e
  kept_within (Before f g) e = absurd (true≢false (sym e))

  kept_follows : Follows problem (kept_apart problem)
  kept_follows other r s c x e = r x (kept_within x e)

  pub started : IsSymmetric (root_facts problem) → Pays problem greedy → Keeps (root_facts problem ∷ []) [] 0 greedy greedy
  started fair pays =
      record {
        trees = λ bound l more. refl;
        lows = λ more. refl;
        least_is = refl;
        cheaper = omega arith;
        pays = pays;
        units_are = refl;
        within = omega arith;
        spent = λ l. absurd (omega arith);
        roots = ((λ x e. e), tt);
        symmetric = (fair, tt);
        plain = (root_plain problem, tt);
        ready = λ a. inr (refl, refl);
        over_floor = pays (kept_apart problem) kept_follows;
        over_closure = λ facts f a. pays facts f;
        idle = λ e. refl;
        enough = omega (arith, sum_by-cons (load problem) (root_facts problem) []);
      }

  least_min : (a b : ℕ) (tree : List Record) → least_of problem (min a b) tree ≡ min a (least_of problem b tree)
  least_min a b [] = refl
  least_min a b (Worth charges ∷ tree) = ap (λ l. least_of problem l tree) (min_min (worth problem charges)) ∙ least_min a (min b (worth problem charges)) tree
    where
      min_min : (w : ℕ) → min (min a b) w ≡ min a (min b w)
      min_min w = omega arith
  least_min a b (Step n f g h ∷ tree) = least_min a b tree
  least_min a b (Branch f g ∷ tree) = least_min a b tree
  least_min a b (Dead f g ∷ tree) = least_min a b tree
  least_min a b (End ∷ tree) = least_min a b tree
  least_min a b (Flush n c v ∷ tree) = least_min a b tree
  least_min a b (Plan ps ∷ tree) = least_min a b tree
  least_min a b (Cost c ∷ tree) = least_min a b tree
  least_min a b (Bound c ∷ tree) = least_min a b tree

  pub finished : (tree : List Record) (units least cost : ℕ) → Keeps [] tree units least cost → IsFound problem greedy budget cost (min cost least) units tree
  finished tree units least cost r =
      record {
        accepted = ap (walk problem 2 (min cost least) (root_facts problem ∷ [])) (sym (append-nil tree)) ∙ r.trees (min cost least) (omega arith) [];
        bound_is = ap (λ l. min cost l) r.least_is ∙ (sym (least_min cost greedy tree) ∙ ap (λ l. least_of problem l tree) (let e : min cost greedy ≡ cost = omega (arith, r.cheaper) in e));
        cheaper = r.cheaper;
        units_are = r.units_are;
        within = r.within;
        spent = λ l. r.spent (omega arith);
        over_floor = omega (arith, r.over_floor, r.pays (kept_apart problem) kept_follows);
        over_closure = λ facts c a. omega (arith, r.over_closure facts c.least a, r.pays facts c.least);
        low = ap (are_low problem greedy (root_facts problem ∷ [])) (sym (append-nil tree)) ∙ r.lows [];
        idle = r.idle;
        enough = λ l. ⊎_elim (λ (lt : least < cost). absurd (omega (arith, r.spent lt, few l))) (λ (ge : cost ≤ least). omega arith) (cases_lt least cost);
      }
    where
      few : 2 ^ (fusible_pairs problem + 1) * node_most problem ≤ budget → units + 1 ≤ budget
      few l =
          omega (arith, l, r.enough, mul-le-mul_left (node_most problem) (size-le (open_pairs problem (root_facts problem)) (fusible_pairs problem) (open-root problem)), ap (λ s. s * node_most problem) (size-is (fusible_pairs problem)))

  pub cheapened : (pending : List Facts) (tree : List Record) (units least cost less : ℕ) → Keeps pending tree units least cost → less ≤ cost → Pays problem less → Keeps pending tree units least less
  cheapened pending tree units least cost less r l pays =
      record {
        trees = r.trees;
        lows = r.lows;
        least_is = r.least_is;
        cheaper = omega (arith, l, r.cheaper);
        pays = pays;
        units_are = r.units_are;
        within = r.within;
        spent = λ low. r.spent (omega (arith, low, l));
        roots = r.roots;
        symmetric = r.symmetric;
        plain = r.plain;
        ready = r.ready;
        over_floor = r.over_floor;
        over_closure = r.over_closure;
        idle = r.idle;
        enough = r.enough;
      }

  no_more : (F : Facts) (P : List Facts) → F ∷ P ≡ root_facts problem ∷ [] → P ≡ []
  no_more F [] e = refl
  no_more F (G ∷ P) e = absurd (omega (arith, ap length e))

  -- a node whose steps are done, before the record that ends it
  module _ (F F' : Facts) (P : List Facts) (tree S : List Record) (units least cost : ℕ) (r : Keeps (F ∷ P) tree units least cost) (s : Stepped problem F F' S) where
    flat : (last : Record) (more : List Record) → ((tree ++ S) ++ last ∷ []) ++ more ≡ tree ++ (S ++ (last ∷ more))
    flat last more = append_assoc (tree ++ S) (last ∷ []) more ∙ append_assoc tree S (last ∷ more)

    at_trees : (bound : ℕ) → bound ≤ least → (last : Record) (more : List Record) → walk problem 2 bound (root_facts problem ∷ []) (((tree ++ S) ++ last ∷ []) ++ more) ≡ walk problem 2 bound (F' ∷ P) (last ∷ more)
    at_trees bound l last more = ap (walk problem 2 bound (root_facts problem ∷ [])) (flat last more) ∙ (r.trees bound l (S ++ (last ∷ more)) ∙ s.trees bound P (last ∷ more))

    at_lows : (last : Record) (more : List Record) → are_low problem greedy (root_facts problem ∷ []) (((tree ++ S) ++ last ∷ []) ++ more) ≡ are_low problem greedy (F' ∷ P) (last ∷ more)
    at_lows last more = ap (are_low problem greedy (root_facts problem ∷ [])) (flat last more) ∙ (r.lows (S ++ (last ∷ more)) ∙ s.lows greedy P (last ∷ more))

    at_least : (last : Record) → least_of problem greedy ((tree ++ S) ++ last ∷ []) ≡ lower problem least last
    at_least last =
        fold-append (lower problem) greedy (tree ++ S) (last ∷ [])
        ∙ ap (λ l. lower problem l last) (fold-append (lower problem) greedy tree S ∙ (s.least (least_of problem greedy tree) ∙ sym r.least_is))

    at_units : (last : Record) → units_of ((tree ++ S) ++ last ∷ []) ≡ units + length S + units_of (last ∷ [])
    at_units last = omega (arith, units-append (tree ++ S) (last ∷ []), units-append tree S, s.units, r.units_are)

    at_roots : Within (root_facts problem) F'
    at_roots x e = s.grows x (r.roots.0 x e)

    at_symmetric : IsSymmetric F'
    at_symmetric = s.symmetric r.symmetric.0

    at_plain : IsPlain F'
    at_plain = s.plain r.plain.0

    pub at_ready : IsClosed problem F' → IsReady problem F'
    at_ready closed some follows = follows F' at_roots at_symmetric closed

    at_enough : units + length S + 2 + loads problem P + load problem F' ≤ load problem (root_facts problem) + node_most problem
    at_enough = omega (arith, r.enough, sum_by-cons (load problem) F P, load-le problem F F' s.grows, s.lost, missing-most problem F)

    others_ready : IsAmple problem budget → AllByRecursion (IsReady problem) P
    others_ready a = ⊎_elim (λ h. h.1) (λ h. subst (AllByRecursion (IsReady problem)) (sym (no_more F P h.1)) tt) (r.ready a)

    floor_here : floor problem (kept_apart problem) ≤ floor problem F
    floor_here = floor-le problem (kept_apart problem) F (λ x e. r.roots.0 x (kept_within x e))

    floor_there : floor problem F ≤ floor problem F'
    floor_there = floor-le problem F F' s.grows

    pub branched : (f g : ℕ) → is_op problem f ≡ true → is_op problem g ≡ true → is_open F' f g ≡ true → (IsAmple problem budget → IsReady problem F') → floor problem F' < cost → units + length S + 1 ≤ budget → Keeps (with_fact (Same f g) F' ∷ with_fact (Apart f g) F' ∷ P) ((tree ++ S) ++ Branch f g ∷ []) (units + length S + 1) least cost
    branched f g of og undecided all_known low room =
        record {
          trees = λ bound l more. at_trees bound l (Branch f g) more ∙ ap (λ b. go_on (unless b BadBranch) (Branch f g ∷ more) (walk problem 2 bound (with_fact (Same f g) F' ∷ with_fact (Apart f g) F' ∷ P) more)) is_right_here;
          lows = λ more. at_lows (Branch f g) more ∙ ap (λ b. b && are_low problem greedy (with_fact (Same f g) F' ∷ with_fact (Apart f g) F' ∷ P) more) (lt-ltb (floor problem F') greedy (omega (arith, low, r.cheaper)));
          least_is = sym (at_least (Branch f g));
          cheaper = r.cheaper;
          pays = r.pays;
          units_are = sym (at_units (Branch f g));
          within = room;
          spent = λ l. absurd (omega (arith, r.spent l, room));
          roots = (λ x e. with_within F' (Same f g) x (at_roots x e), (λ x e. with_within F' (Apart f g) x (at_roots x e), r.roots.1));
          symmetric = (symmetric-with F' (Same f g) at_symmetric, (symmetric-with F' (Apart f g) at_symmetric, r.symmetric.1));
          plain = (at_plain, (plain-with F' f g (λ same. let l : f < g = ltb-true f g parts.0 in absurd (omega arith)) at_plain, r.plain.1));
          ready = λ a. inl (λ some fo x e. with_within F' (Same f g) x (all_known a some fo x e), (λ some fo x e. with_within F' (Apart f g) x (all_known a some fo x e), others_ready a));
          over_floor = r.over_floor;
          over_closure = r.over_closure;
          idle = λ e. absurd (omega (arith, e, floor_here, floor_there, low, r.cheaper));
          enough = omega (arith, at_enough, sum_by-cons (load problem) (with_fact (Same f g) F') (with_fact (Apart f g) F' ∷ P), sum_by-cons (load problem) (with_fact (Apart f g) F') P, load-split problem F' (with_fact (Same f g) F') (with_fact (Apart f g) F') (fewer_same problem F' f g of og undecided) (fewer_apart problem F' f g of og undecided));
        }
      where
        parts : (nat_lt f g ≡ true) × ((not (F' (Same f g)) && not (F' (Apart f g))) ≡ true)
        parts = and_parts (nat_lt f g) (not (F' (Same f g)) && not (F' (Apart f g))) undecided

        is_right_here : may_branch problem F' f g ≡ true
        is_right_here = and_from ((is_op problem f && is_op problem g) && nat_lt f g) (not (F' (Same f g)) && not (F' (Apart f g))) (and_from (is_op problem f && is_op problem g) (nat_lt f g) (and_from (is_op problem f) (is_op problem g) of og) parts.0) parts.1

    -- a leaf stands without steps, or where the floor was low
    abbrev pub IsOpened : Type 0
    IsOpened = (length S ≡ 0) ⊎ (floor problem F < cost)

    idle_here : IsOpened → floor problem (kept_apart problem) ≡ greedy → units + length S ≡ 0
    idle_here o e = ⊎_elim (λ (z : length S ≡ 0). omega (arith, r.idle e, z)) (λ (l : floor problem F < cost). absurd (omega (arith, e, l, floor_here, r.cheaper))) o

    pub ended : (f g : ℕ) → nat_lt f g ≡ true → F' (Same f g) ≡ true → F' (Apart f g) ≡ true → IsOpened → units + length S ≤ budget → Keeps P ((tree ++ S) ++ Dead f g ∷ []) (units + length S) least cost
    ended f g l same apart opened room =
        record {
          trees = λ bound lb more. at_trees bound lb (Dead f g) more ∙ ap (λ b. go_on (unless b BadLeaf) (Dead f g ∷ more) (walk problem 2 bound P more)) (and_from (nat_lt f g) (F' (Same f g) && F' (Apart f g)) l (and_from (F' (Same f g)) (F' (Apart f g)) same apart));
          lows = λ more. at_lows (Dead f g) more;
          least_is = sym (at_least (Dead f g));
          cheaper = r.cheaper;
          pays = r.pays;
          units_are = omega (arith, at_units (Dead f g));
          within = room;
          spent = λ low. omega (arith, r.spent low, room);
          roots = r.roots.1;
          symmetric = r.symmetric.1;
          plain = r.plain.1;
          ready = λ a. inl (others_ready a);
          over_floor = r.over_floor;
          over_closure = r.over_closure;
          idle = idle_here opened;
          enough = omega (arith, at_enough, load-least problem F');
        }

    pub leafed : (charges : List Charge) (w cost' : ℕ) → is_leaf problem F' charges ≡ true → w ≡ worth problem charges → floor problem F' ≤ w → cost' ≤ cost → Pays problem cost' → IsOpened → units + length S ≤ budget → (w < cost' → units + length S ≡ budget) → (IsClosed problem F' ⊎ ((cost ≤ w) ⊎ ((units + length S ≡ budget) × CanGoOn problem F'))) → Keeps P ((tree ++ S) ++ Worth charges ∷ []) (units + length S) (min least w) cost'
    leafed charges w cost' leaf is over cheaper pays opened room spent why =
        record {
          trees = λ bound lb more. at_trees bound (omega arith) (Worth charges) more ∙ ap₂ (λ a b. go_on (or_else (unless a BadLeaf) (unless b WeakLeaf)) (Worth charges ∷ more) (walk problem 2 bound P more)) leaf (le-leb bound (worth problem charges) (omega (arith, is, lb)));
          lows = λ more. at_lows (Worth charges) more;
          least_is = sym (at_least (Worth charges) ∙ ap (min least) (sym is));
          cheaper = omega (arith, cheaper, r.cheaper);
          pays = pays;
          units_are = omega (arith, at_units (Worth charges));
          within = room;
          spent = λ low. ⊎_elim (λ (l : least < cost'). omega (arith, r.spent (omega (arith, l, cheaper)), room)) (λ (l : cost' ≤ least). spent (omega arith)) (cases_lt least cost');
          roots = r.roots.1;
          symmetric = r.symmetric.1;
          plain = r.plain.1;
          ready = λ a. inl (others_ready a);
          over_floor = omega (arith, r.over_floor, over, floor_here, floor_there);
          over_closure = λ facts fo a. omega (arith, r.over_closure facts fo a, over_leaf facts fo a);
          idle = idle_here opened;
          enough = omega (arith, at_enough, load-least problem F');
        }
      where
        over_leaf : (facts : Facts) → Follows problem facts → IsAmple problem budget → floor problem facts ≤ w
        over_leaf facts fo a =
            ⊎_elim
            (λ (closed : IsClosed problem F'). omega (arith, over, floor-le problem facts F' (at_ready closed facts fo)))
            (λ h. ⊎_elim
            (λ (high : cost ≤ w). omega (arith, high, r.pays facts fo))
            (λ (k : (units + length S ≡ budget) × CanGoOn problem F'). ⊎_elim
            (λ (all : AllByRecursion (IsReady problem) (F ∷ P)). omega (arith, over, floor-le problem facts F' (λ x e. s.grows x (all.0 facts fo x e))))
            (λ (z : (units ≡ 0) × (F ∷ P ≡ root_facts problem ∷ [])). absurd (omega (arith, z.0, k.0, more_left problem F' k.1, a, s.lost, missing-most problem F)))
            (r.ready a)) h) why
