-- What is picked of a class is a lawful group, and worth as much as the floor and as a plan of which all is known.
use Rattle.std.proofs.Common.{◌≡◌, ℕ, zero, suc, ◌+◌, ◌*◌, ◌<◌, ◌≤◌, List, [], ◌∷◌, ◌++◌, length, Bool, true, false, cond, not, ◌&&◌, ◌||◌, ◌⊎◌, inl, inr, Option, Some, None, refl, sym, ap, ◌∙◌, subst, arith, ⊎_elim}
use Rattle.std.specs.Prelude.{nat_lt, ◌==◌, unwrap_or}
use Rattle.std.specs.List.{list_all, list_any, AllByRecursion}
use Rattle.std.proofs.lemmas.Bool.{and_parts, and_from, or_left, or_right, not-true, eqb-true, eqb-false, eq-eqb, ne_eqb, true≢false, false≢true, false_from_ne_true, cases_eq, cases_lt, lt-ltb, ltb-true}
use Rattle.std.proofs.lemmas.List.Sums.{sum_by-append, sum_by-cons}
use Rattle.std.proofs.lemmas.List.Folds.{list_all-append}
use Rattle.std.proofs.Math.Nat.{mul-le-mul_left}
use Rattle.arr_view.specs.Views.{has}
use Rattle.arr_ops.specs.Formed.{all_pairs}
use Rattle.arr_ops.proofs.Tests.{or_cases}
use Rattle.arr_law.specs.declared.charge.Charge.{Charge}
use Rattle.arr_law.specs.declared.fact.Fact.TheVariants.{Same, Apart, Before}
use Rattle.arr_law.specs.Problem.{Problem, is_op, operations, sum_below}
use Rattle.arr_law.specs.Facts.{Facts, Meets}
use Rattle.arr_law.specs.Plans.{outside_at, charged_at, cost_at}
use Rattle.arr_law.specs.Leaves.{is_apart, surely_charges, class_of, is_group, is_leaf, worth}
use Rattle.arr_law.specs.Floor.{is_paid, is_paid_twice, floor_of_class}
use Rattle.arr_law.proofs.Members.{any_witness, ops_are}
use Rattle.arr_law.proofs.Pays.{leaf_pays}
use Rattle.arr_law.proofs.Sums.{sum_below-swap}
use Rattle.arr_bound.specs.Picks.{IsPick}
use Rattle.arr_bound.specs.Worth.{Decides, KeepsApart, LeafBelow, IsLargeLeaf, Joined, paid}

-- ---- sums

-- a sum of terms of at most w, one of them left out
sum_but : (h : ℕ → ℕ) (a n w : ℕ) → ((k : ℕ) → k < n → h k ≤ w) → sum_below h n ≤ cond (nat_lt a n) w 0 + sum_below (λ k. cond (k == a) 0 (h k)) n
sum_but h a zero w small = omega arith
sum_but h a (suc n) w small = ⊎_elim (λ (e : n ≡ a). here (sum_but h a n w (λ k l. small k (omega arith))) e) (λ (ne : n ≡ a → ⊥). there (sum_but h a n w (λ k l. small k (omega arith))) ne) (cases_eq n a)
  where
    here : sum_below h n ≤ cond (nat_lt a n) w 0 + sum_below (λ k. cond (k == a) 0 (h k)) n → n ≡ a → sum_below h (suc n) ≤ cond (nat_lt a (suc n)) w 0 + sum_below (λ k. cond (k == a) 0 (h k)) (suc n)
    here ih e =
        omega (arith, ih, small n (omega arith), ap (λ b. cond b w 0) (lt-ltb a (suc n) (omega arith)), ap (λ b. cond b w 0) (false_from_ne_true (nat_lt a n) (λ t. let l : a < n = ltb-true a n t in absurd (omega arith))), ap (λ b. cond b 0 (h n)) (eq-eqb n a e))

    there : sum_below h n ≤ cond (nat_lt a n) w 0 + sum_below (λ k. cond (k == a) 0 (h k)) n → (n ≡ a → ⊥) → sum_below h (suc n) ≤ cond (nat_lt a (suc n)) w 0 + sum_below (λ k. cond (k == a) 0 (h k)) (suc n)
    there ih ne = omega (arith, ih, ap (λ b. cond b w 0) (same ne), ap (λ b. cond b 0 (h n)) (ne_eqb n a ne))
      where
        same : (n ≡ a → ⊥) → nat_lt a n ≡ nat_lt a (suc n)
        same ne = ⊎_elim (λ (l : a < n). lt-ltb a n l ∙ sym (lt-ltb a (suc n) (omega arith)))
            (λ (l : n ≤ a). false_from_ne_true (nat_lt a n) (λ t. let k : a < n = ltb-true a n t in absurd (omega arith)) ∙ sym (false_from_ne_true (nat_lt a (suc n)) (λ t. let k : a < suc n = ltb-true a (suc n) t in absurd (ne (omega arith)))))
            (cases_lt a n)

cond_most : (b : Bool) (w : ℕ) → cond b w 0 ≤ w
cond_most true w = omega arith
cond_most false w = omega arith

cond_least : (b : Bool) (x w : ℕ) → x ≤ w → cond b 0 x ≤ w
cond_least true x w l = omega arith
cond_least false x w l = l

all_zero : (h : ℕ → ℕ) (n : ℕ) → ((k : ℕ) → k < n → h k ≡ 0) → sum_below h n ≡ 0
all_zero h zero z = refl
all_zero h (suc n) z = omega (arith, all_zero h n (λ k l. z k (omega arith)), z n (omega arith))

-- a sum of terms of at most w, each of them 0 but where an element of the list stands
sum_covered : (at h : ℕ → ℕ) (n w : ℕ) (xs : List ℕ) → ((k : ℕ) → k < n → h k ≤ w) → ((k : ℕ) → k < n → 0 < h k → (x : ℕ) × (has xs x ≡ true) × (at x ≡ k)) → sum_below h n ≤ w * length xs
sum_covered at h n w [] small covers =
    omega (arith, all_zero h n (λ k l. ⊎_elim (λ (e : h k ≡ 0). e) (λ (ne : h k ≡ 0 → ⊥). absurd (false≢true (covers k l (omega arith)).1)) (cases_eq (h k) 0)))
sum_covered at h n w (x ∷ xs) small covers =
    omega (
      arith,
      sum_but h (at x) n w small,
      cond_most (nat_lt (at x) n) w,
      sum_covered at (λ k. cond (k == at x) 0 (h k)) n w xs (λ k l. cond_least (k == at x) (h k) w (small k l))
          (λ k l pos. ⊎_elim
          (λ (e : k ≡ at x). absurd (omega (arith, pos, ap (λ b. cond b 0 (h k)) (eq-eqb k (at x) e))))
          (λ (ne : k ≡ at x → ⊥).
          let c = covers k l (omega (arith, pos, ap (λ b. cond b 0 (h k)) (ne_eqb k (at x) ne))) in
          or_cases (c.0 == x) (has xs c.0) c.1 (λ e. absurd (ne (sym c.2 ∙ ap at (eqb-true c.0 x e)))) (λ e. (c.0, e, c.2)))
          (cases_eq k (at x))),
    )

-- ---- lists

pairs_same : (s t : ℕ → ℕ → Bool) (xs : List ℕ) → ((x y : ℕ) → has xs x ≡ true → has xs y ≡ true → s x y ≡ true → t x y ≡ true) → all_pairs s xs ≡ true → all_pairs t xs ≡ true
pairs_same s t [] step e = refl
pairs_same s t (x ∷ xs) step e =
    let h = and_parts (list_all (s x) xs) (all_pairs s xs) e in
    and_from (list_all (t x) xs) (all_pairs t xs)
    (rows xs (λ y k. step x y (or_left (x == x) (has xs x) (eq-eqb x x refl)) (or_right (y == x) (has xs y) k)) h.0)
    (pairs_same s t xs (λ y z k l. step y z (or_right (y == x) (has xs y) k) (or_right (z == x) (has xs z) l)) h.1)
  where
    rows : (ys : List ℕ) → ((y : ℕ) → has ys y ≡ true → s x y ≡ true → t x y ≡ true) → list_all (s x) ys ≡ true → list_all (t x) ys ≡ true
    rows [] step e = refl
    rows (y ∷ ys) step e =
        let h = and_parts (s x y) (list_all (s x) ys) e in
        and_from (t x y) (list_all (t x) ys) (step y (or_left (y == y) (has ys y) (eq-eqb y y refl)) h.0) (rows ys (λ z k. step z (or_right (z == y) (has ys z) k)) h.1)

all_has : (t : ℕ → Bool) (xs : List ℕ) → ((x : ℕ) → has xs x ≡ true → t x ≡ true) → list_all t xs ≡ true
all_has t [] h = refl
all_has t (x ∷ xs) h = and_from (t x) (list_all t xs) (h x (or_left (x == x) (has xs x) (eq-eqb x x refl))) (all_has t xs (λ y k. h y (or_right (y == x) (has xs y) k)))

-- a list with two different elements is no shorter than 2
two_long : (xs : List ℕ) (x y : ℕ) → has xs x ≡ true → has xs y ≡ true → (x ≡ y → ⊥) → 2 ≤ length xs
two_long [] x y h k ne = absurd (false≢true h)
two_long (a ∷ []) x y h k ne =
    or_cases (x == a) false h (λ e. or_cases (y == a) false k (λ f. absurd (ne (eqb-true x a e ∙ sym (eqb-true y a f)))) (λ f. absurd (false≢true f))) (λ e. absurd (false≢true e))
two_long (a ∷ b ∷ xs) x y h k ne = omega arith

one_long : (xs : List ℕ) (x : ℕ) → has xs x ≡ true → 1 ≤ length xs
one_long [] x h = absurd (false≢true h)
one_long (a ∷ xs) x h = omega arith

-- ---- one class

module _ (problem : Problem) (facts : Facts) (c : ℕ) (apart : ℕ → ℕ → Bool) (members : ℕ → Bool) (picks : List ℕ)
    (ops : (b f : ℕ) → (problem.creator b ≡ Some f) ⊎ (problem.freer b ≡ Some f) → is_op problem f ≡ true)
    (told : (f g : ℕ) → is_op problem f ≡ true → is_op problem g ≡ true → apart f g ≡ facts (Apart f g))
    (uneven : (f : ℕ) → is_op problem f ≡ true → apart f f ≡ false)
    (pays : (g : ℕ) → members g ≡ (is_op problem g && surely_charges problem facts g c))
    (pick : IsPick apart members picks) where
  pick_parts : (x : ℕ) → has picks x ≡ true → (is_op problem x ≡ true) × (surely_charges problem facts x c ≡ true)
  pick_parts x h = and_parts (is_op problem x) (surely_charges problem facts x c) (sym (pays x) ∙ pick.from x h)

  member : (f : ℕ) → is_op problem f ≡ true → surely_charges problem facts f c ≡ true → members f ≡ true
  member f o s = pays f ∙ and_from (is_op problem f) (surely_charges problem facts f c) o s

  -- one that is picked is not known to stand apart from a member
  near : (f : ℕ) → members f ≡ true → (x : ℕ) × (has picks x ≡ true) × (((f == x) || not (apart x f)) ≡ true)
  near f m = let w = any_witness (λ x. (f == x) || not (apart x f)) picks (pick.covered f m) in (w.0, w.1, w.2)

  group_ops : list_all (is_op problem) picks ≡ true
  group_ops = all_has (is_op problem) picks (λ x h. (pick_parts x h).0)

  pub lawful : (k f : ℕ) (fs : List ℕ) → picks ≡ f ∷ fs → problem.view f k ≡ Some c → c < problem.classes
      → (class_of problem (record { operand = k; ops = picks }) ≡ c) × (is_group problem facts (record { operand = k; ops = picks }) ≡ true)
  lawful k f fs e v l = (class, subst (λ d. ((nat_lt d problem.classes && list_all (is_op problem) picks) && ((all_pairs nat_lt picks && all_pairs (λ f g. facts (Apart f g)) picks) && list_all (λ f. surely_charges problem facts f d) picks)) ≡ true) (sym class) all)
    where
      class : class_of problem (record { operand = k; ops = picks }) ≡ c
      class =
          ap (λ ps. class_of problem (record { operand = k; ops = ps })) e
          ∙ ap (λ o. unwrap_or o problem.classes) v

      all : ((nat_lt c problem.classes && list_all (is_op problem) picks) && ((all_pairs nat_lt picks && all_pairs (λ f g. facts (Apart f g)) picks) && list_all (λ f. surely_charges problem facts f c) picks)) ≡ true
      all =
          and_from _ _ (and_from (nat_lt c problem.classes) _ (lt-ltb c problem.classes l) group_ops)
          (and_from _ _ (and_from (all_pairs nat_lt picks) _ pick.ascending (pairs_same apart (λ f g. facts (Apart f g)) picks (λ x y h k s. sym (told x y (pick_parts x h).0 (pick_parts y k).0) ∙ s) pick.pairwise))
          (all_has (λ f. surely_charges problem facts f c) picks (λ x h. (pick_parts x h).1)))

  -- ---- the floor

  one_picked : is_paid problem facts c ≡ true → 1 ≤ length picks
  one_picked e =
      let w = any_witness (λ f. surely_charges problem facts f c) (operations problem) e in
      let n = near w.0 (member w.0 (ops_are problem w.0 w.1) w.2) in
      one_long picks n.0 n.1

  two_picked : is_paid_twice problem facts c ≡ true → 2 ≤ length picks
  two_picked e =
      let w = any_witness (λ f. surely_charges problem facts f c && list_any (λ g. surely_charges problem facts g c && facts (Apart f g)) (operations problem)) (operations problem) e in
      let p = and_parts (surely_charges problem facts w.0 c) (list_any (λ g. surely_charges problem facts g c && facts (Apart w.0 g)) (operations problem)) w.2 in
      let v = any_witness (λ g. surely_charges problem facts g c && facts (Apart w.0 g)) (operations problem) p.1 in
      let q = and_parts (surely_charges problem facts v.0 c) (facts (Apart w.0 v.0)) v.2 in
      let of = ops_are problem w.0 w.1 in
      let og = ops_are problem v.0 v.1 in
      ⊎_elim
      (λ none. absurd (false≢true (sym (none w.0 v.0 (member w.0 of p.0) (member v.0 og q.0)) ∙ (told w.0 v.0 of og ∙ q.1))))
      (λ (some : (x : ℕ) × (p : ℕ) × (has picks x ≡ true) × (members p ≡ true) × (apart x p ≡ true)).
      let n = near some.1 some.3 in
      let op : is_op problem some.1 ≡ true = (and_parts (is_op problem some.1) (surely_charges problem facts some.1 c) (sym (pays some.1) ∙ some.3)).0 in
      two_long picks some.0 n.0 some.2 n.1 (λ same.
      or_cases (some.1 == n.0) (not (apart n.0 some.1)) n.2
      (λ k. let here : some.0 ≡ some.1 = same ∙ sym (eqb-true some.1 n.0 k) in
      absurd (false≢true (sym (uneven some.1 op) ∙ subst (λ y. apart y some.1 ≡ true) here some.4)))
      (λ k. absurd (true≢false (sym some.4 ∙ (ap (λ y. apart y some.1) same ∙ not-true _ k))))))
      pick.two

  pub over_class : floor_of_class problem facts c ≤ problem.weight c * length picks
  over_class = go (is_paid_twice problem facts c) (is_paid problem facts c) two_picked one_picked
    where
      go : (a b : Bool) → (a ≡ true → 2 ≤ length picks) → (b ≡ true → 1 ≤ length picks) → cond a (2 * problem.weight c) (cond b (problem.weight c) 0) ≤ problem.weight c * length picks
      go true b two one = omega (arith, mul-le-mul_left (problem.weight c) (two refl))
      go false true two one = omega (arith, mul-le-mul_left (problem.weight c) (one refl))
      go false false two one = omega arith

  -- ---- a plan

  module _ (at : ℕ → ℕ) (decides : Decides problem facts at) where
    apart_from : (f k : ℕ) (o : Option ℕ) → is_op problem f ≡ true → at f ≡ k → ((g : ℕ) → o ≡ Some g → is_op problem g ≡ true) → outside_at at k o ≡ true → is_apart facts f o ≡ true
    apart_from f k None op here makes e = refl
    apart_from f k (Some g) op here makes e = decides f g op (makes g refl) (λ same. eqb-false _ _ (not-true _ e) (sym same ∙ here))

    -- a charged block has an operation that surely charges
    charger : (k : ℕ) → charged_at problem at k c ≡ true → (f : ℕ) × (is_op problem f ≡ true) × (at f ≡ k) × (surely_charges problem facts f c ≡ true)
    charger k e =
        or_cases
        (list_any (λ f. (at f == k) && problem.reads f c) (operations problem) && outside_at at k (problem.creator (problem.base c)))
        (list_any (λ f. (at f == k) && problem.writes f c) (operations problem) && outside_at at k (problem.freer (problem.base c)))
        e
        (λ r. let h = and_parts (list_any (λ f. (at f == k) && problem.reads f c) (operations problem)) (outside_at at k (problem.creator (problem.base c))) r in
        let x = any_witness (λ f. (at f == k) && problem.reads f c) (operations problem) h.0 in
        let y = and_parts (at x.0 == k) (problem.reads x.0 c) x.2 in
        (x.0, ops_are problem x.0 x.1, eqb-true _ _ y.0, or_left _ _ (and_from _ _ y.1 (apart_from x.0 k (problem.creator (problem.base c)) (ops_are problem x.0 x.1) (eqb-true _ _ y.0) (λ g s. ops (problem.base c) g (inl s)) h.1))))
        (λ r. let h = and_parts (list_any (λ f. (at f == k) && problem.writes f c) (operations problem)) (outside_at at k (problem.freer (problem.base c))) r in
        let x = any_witness (λ f. (at f == k) && problem.writes f c) (operations problem) h.0 in
        let y = and_parts (at x.0 == k) (problem.writes x.0 c) x.2 in
        (x.0, ops_are problem x.0 x.1, eqb-true _ _ y.0, or_right _ _ (and_from _ _ y.1 (apart_from x.0 k (problem.freer (problem.base c)) (ops_are problem x.0 x.1) (eqb-true _ _ y.0) (λ g s. ops (problem.base c) g (inr s)) h.1))))

    -- one that is picked stands with each member
    stands_with : (f : ℕ) → is_op problem f ≡ true → members f ≡ true → (x : ℕ) × (has picks x ≡ true) × (at x ≡ at f)
    stands_with f op m =
        let n = near f m in (
          n.0,
          n.1,
          or_cases (f == n.0) (not (apart n.0 f)) n.2 (λ e. ap at (sym (eqb-true f n.0 e)))
              (λ e. ⊎_elim (λ same. same) (λ (other : at n.0 ≡ at f → ⊥).
              absurd (false≢true (sym (sym (told n.0 f (pick_parts n.0 n.1).0 op) ∙ not-true _ e) ∙ decides n.0 f (pick_parts n.0 n.1).0 op other))) (cases_eq (at n.0) (at f))),
        )

    pub over_paid : (blocks : ℕ) → paid problem at blocks c ≤ problem.weight c * length picks
    over_paid blocks =
        sum_covered at (λ k. cond (charged_at problem at k c) (problem.weight c) 0) blocks (problem.weight c) picks
        (λ k l. cond_most (charged_at problem at k c) (problem.weight c))
        (λ k l pos.
        let e : charged_at problem at k c ≡ true = positive (charged_at problem at k c) pos in
        let f = charger k e in
        let x = stands_with f.0 f.1 (member f.0 f.1 f.3) in
        (x.0, x.1, x.2 ∙ f.2))
      where
        positive : (b : Bool) → 0 < cond b (problem.weight c) 0 → b ≡ true
        positive true l = refl
        positive false l = absurd (omega arith)

  -- ---- one class more

  apart_last : (charges : List Charge) (a : Charge) → AllByRecursion (λ (b : Charge). class_of problem b < c) charges → class_of problem a ≡ c
      → all_pairs (λ (a b : Charge). not (class_of problem a == class_of problem b)) charges ≡ true → all_pairs (λ (a b : Charge). not (class_of problem a == class_of problem b)) (charges ++ a ∷ []) ≡ true
  apart_last [] a below e h = refl
  apart_last (b ∷ charges) a below e h =
      let k = and_parts (list_all (λ (d : Charge). not (class_of problem b == class_of problem d)) charges) _ h in
      and_from (list_all (λ (d : Charge). not (class_of problem b == class_of problem d)) (charges ++ a ∷ [])) _
      (list_all-append (λ (d : Charge). not (class_of problem b == class_of problem d)) charges (a ∷ []) ∙ and_from _ _ k.0 (and_from _ true (ap not (ne_eqb (class_of problem b) (class_of problem a) (λ same. let l : class_of problem b < c = below.0 in absurd (omega (arith, l, same, e))))) refl))
      (apart_last charges a below.1 e k.1)

  below_more : (charges : List Charge) → AllByRecursion (λ (b : Charge). class_of problem b < c) charges → AllByRecursion (λ (b : Charge). class_of problem b < c + 1) charges
  below_more [] below = tt
  below_more (b ∷ charges) below = (omega (arith, below.0), below_more charges below.1)

  below_last : (charges : List Charge) (a : Charge) → class_of problem a ≡ c → AllByRecursion (λ (b : Charge). class_of problem b < c) charges → AllByRecursion (λ (b : Charge). class_of problem b < c + 1) (charges ++ a ∷ [])
  below_last [] a e below = (omega (arith, e), tt)
  below_last (b ∷ charges) a e below = (omega (arith, below.0), below_last charges a e below.1)

  pub leaf_more : (value now : ℕ) (charges new : List Charge) → LeafBelow problem facts c value charges → Joined problem c picks charges new → c < problem.classes → now ≡ value + problem.weight c * length picks → LeafBelow problem facts (c + 1) now new
  leaf_more value now charges new l joined small e = go picks refl
    where
      step : (h : ℕ → ℕ) → sum_below h (c + 1) ≡ sum_below h c + h c
      step h = ap (sum_below h) (let z : c + 1 ≡ suc c = omega arith in z)

      floors : sum_below (floor_of_class problem facts) (c + 1) ≤ now
      floors = omega (arith, step (floor_of_class problem facts), l.over_floor, over_class, e)

      plans : (at : ℕ → ℕ) (blocks : ℕ) → Decides problem facts at → sum_below (paid problem at blocks) (c + 1) ≤ now
      plans at blocks d = omega (arith, step (paid problem at blocks), l.over_plan at blocks d, over_paid at d blocks, e)

      go : (ps : List ℕ) → picks ≡ ps → LeafBelow problem facts (c + 1) now new
      go [] none =
          let same : new ≡ charges = joined.none none in
          record {
            leaf = subst (λ cs. is_leaf problem facts cs ≡ true) (sym same) l.leaf;
            below = subst (AllByRecursion (λ (b : Charge). class_of problem b < c + 1)) (sym same) (below_more charges l.below);
            worth_is = omega (arith, e, l.worth_is, ap (λ ps. problem.weight c * length ps) none, ap (worth problem) same);
            over_floor = floors;
            over_plan = plans;
          }
      go (f ∷ fs) some =
          let j = joined.some f fs some in
          let a : Charge = record { operand = j.0; ops = picks } in
          let g = lawful j.0 f fs some j.2 small in
          let parts = and_parts (list_all (is_group problem facts) charges) (all_pairs (λ (a b : Charge). not (class_of problem a == class_of problem b)) charges) l.leaf in
          record {
            leaf = subst (λ cs. is_leaf problem facts cs ≡ true) (sym j.1)
                (and_from (list_all (is_group problem facts) (charges ++ a ∷ [])) _
                (list_all-append (is_group problem facts) charges (a ∷ []) ∙ and_from _ _ parts.0 (and_from (is_group problem facts a) true g.1 refl))
                (apart_last charges a l.below g.0 parts.1));
            below = subst (AllByRecursion (λ (b : Charge). class_of problem b < c + 1)) (sym j.1) (below_last charges a g.0 l.below);
            worth_is =
                omega (
                  arith,
                  e,
                  l.worth_is,
                  ap (worth problem) j.1,
                  sum_by-append (λ (b : Charge). problem.weight (class_of problem b) * length b.ops) charges (a ∷ []),
                  sum_by-cons (λ (b : Charge). problem.weight (class_of problem b) * length b.ops) a [],
                  ap (λ d. problem.weight d * length picks) g.0,
                );
            over_floor = floors;
            over_plan = plans;
          }

-- what the facts tell of operations that stand apart, and no more
abbrev apart_only : Facts → Facts
apart_only facts (Apart f g) = facts (Apart f g)
apart_only facts _ = false

apart_met : (facts : Facts) (at : ℕ → ℕ) → KeepsApart facts at → Meets at (apart_only facts)
apart_met facts at keeps (Apart f g) e = keeps f g e
apart_met facts at keeps (Same f g) e = absurd (false≢true e)
apart_met facts at keeps (Before f g) e = absurd (false≢true e)

pub leaf_whole : (problem : Problem) (facts : Facts) (limit value : ℕ) (charges : List Charge) → limit ≡ problem.classes → LeafBelow problem facts limit value charges → IsLargeLeaf problem facts value charges
leaf_whole problem facts limit value charges e l =
    record {
      leaf = l.leaf;
      worth_is = l.worth_is;
      over_floor = subst (λ n. sum_below (floor_of_class problem facts) n ≤ value) e l.over_floor;
      plan_costs = λ at blocks legal keeps d.
          let most : cost_at problem at blocks ≤ value =
          subst (λ s. s ≤ value) (sym (sum_below-swap (λ k c. cond (charged_at problem at k c) (problem.weight c) 0) blocks problem.classes)) (subst (λ n. sum_below (paid problem at blocks) n ≤ value) e (l.over_plan at blocks d)) in
          omega (arith, most, l.worth_is, leaf_pays problem at blocks legal (apart_only facts) (apart_met facts at keeps) charges l.leaf);
    }

pub leaf_none : (problem : Problem) (facts : Facts) (charges : List Charge) → charges ≡ [] → LeafBelow problem facts 0 0 charges
leaf_none problem facts charges e =
    subst (LeafBelow problem facts 0 0) (sym e) (record { leaf = refl; below = tt; worth_is = refl; over_floor = omega arith; over_plan = λ at blocks d. omega arith })
