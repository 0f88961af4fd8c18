-- A certificate of a legal plan by its places: nothing is wrong with the plan, its price is its cost, and the bound holds.
use Rattle.std.proofs.Common.{◌≡◌, ℕ, zero, suc, ◌+◌, ◌-◌, ◌<◌, ◌≤◌, List, [], ◌∷◌, length, get_or, map, Bool, true, cond, not, ◌&&◌, ◌||◌, Option, Some, None, inl, inr, refl, sym, ap, ap₂, ◌∙◌, arith, max}
use Rattle.std.specs.Prelude.{◌==◌, nat_le, IsTrue}
use Rattle.std.specs.List.{list_all, list_any, fold, range_with_len}
use Rattle.std.proofs.lemmas.Bool.{and_parts, and_from, or_left, or_right, true≢false, eqb-true, eq-eqb, le-leb, leb-true, eqb-false}
use Rattle.std.proofs.lemmas.List.FromFn.{length-map-range_with_len}
use Rattle.arr_view.specs.Views.{has}
use Rattle.arr_ops.specs.declared.op.Op.{Op}
use Rattle.arr_ops.specs.Ops.{freed, makes_base}
use Rattle.arr_ops.specs.Formed.{is_formed}
use Rattle.arr_ops.specs.Plans.{is_legal, not_empty, place}
use Rattle.arr_ops.specs.Costs.{cost}
use Rattle.arr_ops.specs.Order.{In, least_of}
use Rattle.arr_ops.proofs.Members.{has_least, all_in}
use Rattle.arr_ops.proofs.Legality.{IsPartition, legal_partition}
use Rattle.arr_law.specs.declared.reject.Reject.TheVariants.{BadPlan, NotFusible, Backward}
use Rattle.arr_law.specs.Problem.{Problem, is_op, is_pair, operations, sum_below}
use Rattle.arr_law.specs.Plans.{are_places, is_together, is_forward, greatest, outside_at, charged_at, cost_at, place_in, price}
use Rattle.arr_law.specs.ProblemOf.{problem_of}
use Rattle.arr_law.specs.Trees.{unless, or_else}
use Rattle.arr_law.specs.Verdict.{plan_fault}
use Rattle.arr_law.proofs.Agrees.{agrees, stands_at, holders_place}
use Rattle.arr_law.proofs.Members.{op_range, pair_ops, ops_are}
use Rattle.arr_law.proofs.Proper.{first_passes}
use Rattle.arr_law.proofs.Sums.{sum_below-same}
use Rattle.arr_state.proofs.Basics.{by_bool}
use Rattle.arr_search.specs.Best.{places_of}

-- ---- tests of a range

all_range : (p : ℕ → Bool) (a n : ℕ) → ((f : ℕ) → a ≤ f → f < a + n → p f ≡ true) → list_all p (range_with_len a n) ≡ true
all_range p a zero h = refl
all_range p a (suc n) h = and_from (p a) (list_all p (range_with_len (a + 1) n)) (h a (omega arith) (omega arith)) (all_range p (a + 1) n (λ f l u. h f (omega arith) (omega arith)))

all_mapped : (p : ℕ → Bool) (h : ℕ → ℕ) (a n : ℕ) → ((f : ℕ) → a ≤ f → f < a + n → p (h f) ≡ true) → list_all p (map h (range_with_len a n)) ≡ true
all_mapped p h a zero k = refl
all_mapped p h a (suc n) k = and_from (p (h a)) (list_all p (map h (range_with_len (a + 1) n))) (k a (omega arith) (omega arith)) (all_mapped p h (a + 1) n (λ f l u. k f (omega arith) (omega arith)))

any_mapped : (p : ℕ → Bool) (h : ℕ → ℕ) (a n f : ℕ) → a ≤ f → f < a + n → p (h f) ≡ true → list_any p (map h (range_with_len a n)) ≡ true
any_mapped p h a zero f l u e = absurd (omega arith)
any_mapped p h a (suc n) f l u e =
    by_bool (a == f) (λ s. or_left (p (h a)) (list_any p (map h (range_with_len (a + 1) n))) (ap (λ k. p (h k)) (eqb-true a f s) ∙ e)) (λ s.
    or_right (p (h a)) (list_any p (map h (range_with_len (a + 1) n))) (any_mapped p h (a + 1) n f (above (eqb-false a f s) l) (omega arith) e))
  where
    above : (a ≡ f → ⊥) → a ≤ f → a + 1 ≤ f
    above ne le = omega arith

at_mapped : (h : ℕ → ℕ) (a n i : ℕ) → i < n → get_or (map h (range_with_len a n)) i 0 ≡ h (a + i)
at_mapped h a zero i l = absurd (omega arith)
at_mapped h a (suc n) zero l = ap h (let e : a ≡ a + 0 = omega arith in e)
at_mapped h a (suc n) (suc i) l = at_mapped h (a + 1) n i (omega arith) ∙ ap h (let e : a + 1 + i ≡ a + suc i = omega arith in e)

max_most : (a m : ℕ) (xs : List ℕ) → a ≤ m → list_all (λ x. nat_le x m) xs ≡ true → fold max a xs ≤ m
max_most a m [] l h = l
max_most a m (x ∷ xs) l h =
    let p = and_parts (nat_le x m) (list_all (λ x. nat_le x m) xs) h in
    let k : x ≤ m = leb-true x m p.0 in
    max_most (max a x) m xs (omega arith) p.1

max_above : (a b : ℕ) (xs : List ℕ) → b ≤ a → b ≤ fold max a xs
max_above a b [] l = l
max_above a b (x ∷ xs) l = max_above (max a x) b xs (omega arith)

max_least : (a b : ℕ) (xs : List ℕ) → list_any (λ x. b == x) xs ≡ true → b ≤ fold max a xs
max_least a b [] h = absurd (true≢false (sym h))
max_least a b (x ∷ xs) h =
    by_bool (b == x) (λ e. let s : b ≡ x = eqb-true b x e in max_above (max a x) b xs (omega arith))
    (λ e. max_least (max a x) b xs (sym (ap (λ t. t || list_any (λ x. b == x) xs) e) ∙ h))

-- ---- places that agree on the operations of the list cost the same

any_same : (p q : ℕ → Bool) (xs : List ℕ) → ((x : ℕ) → has xs x ≡ true → p x ≡ q x) → list_any p xs ≡ list_any q xs
any_same p q [] h = refl
any_same p q (x ∷ xs) h = ap₂ (λ a b. a || b) (h x (or_left (x == x) (has xs x) (eq-eqb x x refl))) (any_same p q xs (λ y k. h y (or_right (y == x) (has xs y) k)))

module _ (list : List Op) (at to : ℕ → ℕ) (same : (f : ℕ) → is_op (problem_of list) f ≡ true → at f ≡ to f) where
  outside_same : (k : ℕ) (o : Option ℕ) → ((g : ℕ) → o ≡ Some g → is_op (problem_of list) g ≡ true) → outside_at at k o ≡ outside_at to k o
  outside_same k None h = refl
  outside_same k (Some g) h = ap (λ m. not (m == k)) (same g (h g refl))

  charged_same : (k c : ℕ) → charged_at (problem_of list) at k c ≡ charged_at (problem_of list) to k c
  charged_same k c =
      let P : Problem = problem_of list in
      ap₂ (λ a b. a || b)
      (ap₂ (λ a b. a && b)
      (any_same (λ f. (at f == k) && P.reads f c) (λ f. (to f == k) && P.reads f c) (operations P) (λ f h. ap (λ m. (m == k) && P.reads f c) (same f (ops_are P f h))))
      (outside_same k (P.creator (P.base c)) (λ g e. (first_passes (λ op. makes_base op (P.base c)) list g e).0)))
      (ap₂ (λ a b. a && b)
      (any_same (λ f. (at f == k) && P.writes f c) (λ f. (to f == k) && P.writes f c) (operations P) (λ f h. ap (λ m. (m == k) && P.writes f c) (same f (ops_are P f h))))
      (outside_same k (P.freer (P.base c)) (λ g e. (first_passes (λ op. has (freed op) (P.base c)) list g e).0)))

  cost_same : (blocks : ℕ) → cost_at (problem_of list) at blocks ≡ cost_at (problem_of list) to blocks
  cost_same blocks =
      let P : Problem = problem_of list in
      sum_below-same (λ k. sum_below (λ c. cond (charged_at P at k c) (P.weight c) 0) P.classes) (λ k. sum_below (λ c. cond (charged_at P to k c) (P.weight c) 0) P.classes) blocks
      (λ k l. sum_below-same (λ c. cond (charged_at P at k c) (P.weight c) 0) (λ c. cond (charged_at P to k c) (P.weight c) 0) P.classes
      (λ c m. ap (λ b. cond b (P.weight c) 0) (charged_same k c)))

-- ---- the places of a legal plan

module _ (list : List Op) (plan : List (List ℕ)) (formed : IsTrue (is_formed list)) (legal : IsTrue (is_legal list plan)) where
  abbrev P : Problem
  P = problem_of list

  abbrev n : ℕ
  n = length list

  abbrev places : List ℕ
  places = places_of list plan

  parts : IsPartition n plan
  parts = (legal_partition list plan legal).0

  pub place_of : (f : ℕ) → is_op P f ≡ true → place_in places f ≡ suc (place plan f)
  place_of f of =
      let r : (1 ≤ f) × (f ≤ n) = op_range P f of in
      at_mapped (λ f. suc (place plan f)) 1 n (f - 1) (omega (arith, r.0, r.1)) ∙ ap (λ k. suc (place plan k)) (let e : 1 + (f - 1) ≡ f = omega (arith, r.0) in e)

  -- each place of the plan is that of an operation
  used : (k : ℕ) → k < length plan → (f : ℕ) × (1 ≤ f) × (f ≤ n) × (place plan f ≡ k)
  used k l =
      let b : List ℕ = get_or plan k [] in
      let i : In b plan = at_in plan k l in
      let h : has b (least_of b) ≡ true = has_least b (all_in (λ b. not_empty b ≡ true) plan parts.some b i) in
      let r = parts.within b i (least_of b) h in
      (least_of b, (let one : 1 ≤ least_of b = omega (arith, r.0) in one), r.1, eqb-true _ _ (sym (stands_at plan (least_of b) k (parts.once (least_of b) r.0 r.1)) ∙ h))
    where
      at_in : (xs : List (List ℕ)) (k : ℕ) → k < length xs → In (get_or xs k []) xs
      at_in [] k l = absurd (omega arith)
      at_in (x ∷ xs) zero l = inl refl
      at_in (x ∷ xs) (suc k) l = inr (at_in xs k (omega arith))

  listed : are_places P places ≡ true
  listed =
      and_from (length places == n) _ (eq-eqb (length places) n (length-map-range_with_len (λ f. suc (place plan f)) 1 n))
      (all_mapped (λ p. nat_le 1 p && ((p == 1) || list_any (λ q. q + 1 == p) places)) (λ f. suc (place plan f)) 1 n (λ f l u.
      and_from (nat_le 1 (suc (place plan f))) _ (le-leb 1 (suc (place plan f)) (omega arith)) (follows (place plan f) (holders_place plan f (parts.once f (omega arith) (omega arith))))))
    where
      follows : (k : ℕ) → k < length plan → ((suc k == 1) || list_any (λ q. q + 1 == suc k) places) ≡ true
      follows zero l = refl
      follows (suc k) l =
          let u = used k (omega arith) in
          or_right (suc (suc k) == 1) _ (any_mapped (λ q. q + 1 == suc (suc k)) (λ f. suc (place plan f)) 1 n u.0 u.1 (omega (arith, u.2)) (eq-eqb _ _ (omega (arith, u.3))))

  together : is_together P places ≡ true
  together =
      all_range _ 1 n (λ f lf uf. all_range _ 1 n (λ g lg ug.
      by_bool (is_pair P f g) (λ pair. or_right (not (is_pair P f g)) _ (
      let o = pair_ops P f g pair in
      by_bool (place_in places f == place_in places g)
      (λ e. or_right (not (place_in places f == place_in places g)) (P.fusible f g) ((agrees list plan formed legal).legal.together f g pair (let s : place_in places f ≡ place_in places g = eqb-true _ _ e in omega (arith, s, place_of f o.0, place_of g o.1))))
      (λ e. or_left (not (place_in places f == place_in places g)) (P.fusible f g) (ap not e))))
      (λ nay. or_left (not (is_pair P f g)) _ (ap not nay))))

  forward : is_forward P places ≡ true
  forward =
      all_range _ 1 n (λ f lf uf. all_range _ 1 n (λ g lg ug.
      by_bool (is_pair P f g) (λ pair. or_right (not (is_pair P f g)) _ (
      let o = pair_ops P f g pair in
      by_bool (P.dep f g)
      (λ e. or_right (not (P.dep f g)) (nat_le (place_in places f) (place_in places g)) (le-leb _ _ (let s : place plan f ≤ place plan g = (agrees list plan formed legal).legal.forward f g pair e in omega (arith, s, place_of f o.0, place_of g o.1))))
      (λ e. or_left (not (P.dep f g)) (nat_le (place_in places f) (place_in places g)) (ap not e))))
      (λ nay. or_left (not (is_pair P f g)) _ (ap not nay))))

  pub no_fault : plan_fault P places ≡ None
  no_fault =
      ap (λ b. or_else (unless b BadPlan) (or_else (unless (is_together P places) NotFusible) (unless (is_forward P places) Backward))) listed
      ∙ (ap (λ b. or_else (unless b NotFusible) (unless (is_forward P places) Backward)) together ∙ ap (λ b. unless b Backward) forward)

  greatest_is : greatest places ≡ length plan
  greatest_is = omega (arith, most, least (length plan) refl)
    where
      most : greatest places ≤ length plan
      most =
          max_most 0 (length plan) places (omega arith)
          (all_mapped (λ x. nat_le x (length plan)) (λ f. suc (place plan f)) 1 n (λ f l u. le-leb (suc (place plan f)) (length plan) (let p : place plan f < length plan = holders_place plan f (parts.once f (omega arith) (omega arith)) in omega (arith, p))))

      least : (m : ℕ) → length plan ≡ m → length plan ≤ greatest places
      least zero e = omega (arith, e)
      least (suc m) e =
          let u = used m (omega (arith, e)) in
          let k : suc m ≤ greatest places = max_least 0 (suc m) places (any_mapped (λ x. suc m == x) (λ f. suc (place plan f)) 1 n u.0 u.1 (omega (arith, u.2)) (eq-eqb _ _ (omega (arith, u.3)))) in
          omega (arith, k, e)

  pub price_is : price P places ≡ cost list plan
  price_is =
      cost_same list (λ f. place_in places f - 1) (place plan) (λ f of. omega (arith, place_of f of)) (greatest places)
      ∙ (ap (cost_at P (place plan)) greatest_is ∙ (agrees list plan formed legal).costs)
