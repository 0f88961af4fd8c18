-- Where nay rule gives a new fact and each pair is decided, the blocks that are known are a legal plan that costs what the leaf is worth.
use Rattle.std.proofs.Common.{◌≡◌, ◌≢◌, ℕ, zero, suc, ◌+◌, ◌-◌, ◌<◌, ◌≤◌, List, [], ◌∷◌, length, get_or, map, Bool, true, false, cond, not, ◌&&◌, ◌||◌, Some, None, refl, sym, ap, ap₂, ◌∙◌, subst, arith, ⊎_elim}
use Rattle.std.specs.Prelude.{◌==◌, nat_lt, is_some, IsTrue}
use Rattle.std.specs.List.{list_all, position_or_len, range_with_len, AllByRecursion}
use Rattle.std.proofs.lemmas.Bool.{and_from, or_left, or_right, true≢false, not-true, eqb-true, eqb-false, eq-eqb, ne_eqb, cases_eq, cases_lt, lt-ltb, false_from_ne_true}
use Rattle.std.proofs.lemmas.List.FromFn.{length-map-range_with_len}
use Rattle.arr_view.specs.Views.{has}
use Rattle.arr_view.proofs.Known.{same_tests}
use Rattle.arr_ops.specs.declared.op.Op.{Op}
use Rattle.arr_ops.specs.Ops.{dep}
use Rattle.arr_ops.specs.Plans.{not_empty, place, numbered}
use Rattle.arr_ops.specs.Costs.{cost}
use Rattle.arr_ops.specs.Formed.{all_pairs, is_formed}
use Rattle.arr_ops.specs.Order.{In, ordered, least_of}
use Rattle.arr_ops.proofs.Tests.{or_cases}
use Rattle.arr_ops.proofs.Members.{has_least, all_in}
use Rattle.arr_ops.proofs.Ordering.{Ranked, ordered_there}
use Rattle.arr_ops.proofs.Legality.{IsPartition, leads_to, distinct_of}
use Rattle.arr_ops.proofs.Pairs.{Pairs_weaker}
use Rattle.arr_heur.proofs.OrderedBlocks.{Told, all_told}
use Rattle.arr_deps.specs.Graph.{op_at, nothing}
use Rattle.arr_law.specs.declared.charge.Charge.{Charge}
use Rattle.arr_law.specs.declared.fact.Fact.TheVariants.{Same, Apart, Before}
use Rattle.arr_law.specs.Problem.{Problem, is_op, is_pair, operations, sum_below}
use Rattle.arr_law.specs.Facts.{Facts}
use Rattle.arr_law.specs.Rules.{Rule, rule_named}
use Rattle.arr_law.specs.Plans.{is_together, place_in}
use Rattle.arr_law.specs.ProblemOf.{problem_of}
use Rattle.arr_law.proofs.Agrees.{agrees}
use Rattle.arr_law.proofs.Members.{op_range, op_from, pair_from, pair_ops}
use Rattle.arr_bound.specs.Worth.{IsLargeLeaf, KeepsApart, Decides}
use Rattle.arr_state.proofs.Basics.{by_bool}
use Rattle.arr_search.specs.Counts.{bit}
use Rattle.arr_search.specs.Nodes.{IsSettledNode, IsDecided, IsPlanOf}
use Rattle.arr_search.specs.Parts.{label_of, labels_of, with_label, parts, plan_by}
use Rattle.arr_search.proofs.Base.{bit-le, sum_below-less}
use Rattle.arr_search.proofs.Partitions.{AreLabels, has_label, label_range, part_of, parts_partition, plan_legal, plan_shares}

-- ---- positions in a range

position_same : (p q : ℕ → Bool) (xs : List ℕ) → AllByRecursion (λ x. p x ≡ q x) xs → position_or_len p xs ≡ position_or_len q xs
position_same p q [] h = refl
position_same p q (x ∷ xs) h = ap₂ (λ b n. cond (not b) (1 + n) 0) h.0 (position_same p q xs h.1)

-- what stands at the position passes
position_range : (p : ℕ → Bool) (a n : ℕ) → position_or_len p (range_with_len a n) < n → p (a + position_or_len p (range_with_len a n)) ≡ true
position_range p a zero l = absurd (omega arith)
position_range p a (suc n) l = go (p a) refl l (λ k. position_range p (a + 1) n k)
  where
    go : (b : Bool) → p a ≡ b → cond (not b) (1 + position_or_len p (range_with_len (a + 1) n)) 0 < suc n → (position_or_len p (range_with_len (a + 1) n) < n → p (a + 1 + position_or_len p (range_with_len (a + 1) n)) ≡ true) → p (a + cond (not b) (1 + position_or_len p (range_with_len (a + 1) n)) 0) ≡ true
    go true e k ih = ap p (let z : a + 0 ≡ a = omega arith in z) ∙ e
    go false e k ih = ap p (let z : a + (1 + position_or_len p (range_with_len (a + 1) n)) ≡ a + 1 + position_or_len p (range_with_len (a + 1) n) = omega arith in z) ∙ ih (omega arith)

position_below : (p : ℕ → Bool) (a n f : ℕ) → a ≤ f → f < a + n → p f ≡ true → position_or_len p (range_with_len a n) < n
position_below p a zero f l u e = absurd (omega arith)
position_below p a (suc n) f l u e = go (p a) refl (λ k. position_below p (a + 1) n f k (omega arith) e)
  where
    above : p a ≡ false → a + 1 ≤ f
    above nay = next (λ same. true≢false (sym (ap p same ∙ e) ∙ nay)) l
      where
        next : (a ≡ f → ⊥) → a ≤ f → a + 1 ≤ f
        next ne le = omega arith

    go : (b : Bool) → p a ≡ b → (a + 1 ≤ f → position_or_len p (range_with_len (a + 1) n) < n) → cond (not b) (1 + position_or_len p (range_with_len (a + 1) n)) 0 < suc n
    go true t ih = omega arith
    go false t ih = let k : position_or_len p (range_with_len (a + 1) n) < n = ih (above t) in omega arith

module _ (list : List Op) (facts : Facts) (node : IsSettledNode (problem_of list) facts) (decided : IsDecided (problem_of list) facts) where
  abbrev P : Problem
  P = problem_of list

  abbrev Is : ℕ → Type 0
  Is f = is_op P f ≡ true

  turn_same : (f g : ℕ) → facts (Same f g) ≡ true → facts (Same g f) ≡ true
  turn_same f g e = node.node.even (Same f g) (Same g f) (or_right ((f == g) && (g == f)) ((f == f) && (g == g)) (and_from (f == f) (g == g) (eq-eqb f f refl) (eq-eqb g g refl))) e

  turn_apart : (f g : ℕ) → facts (Apart f g) ≡ true → facts (Apart g f) ≡ true
  turn_apart f g e = node.node.even (Apart f g) (Apart g f) (or_right ((f == g) && (g == f)) ((f == f) && (g == g)) (and_from (f == f) (g == g) (eq-eqb f f refl) (eq-eqb g g refl))) e

  -- ---- what the rules say of closed facts

  -- a rule whose premises are known has given its fact
  given_known : (n f g h : ℕ) (rule : Rule) → rule_named P 2 n f g h ≡ Some rule → (list_all (is_op P) rule.operations && all_pairs (λ f g. not (f == g)) rule.operations) ≡ true
      → list_all facts rule.premises ≡ true → facts rule.gives ≡ true
  given_known n f g h rule is ops known =
      by_bool (facts rule.gives) (λ t. t) (λ nay.
      absurd (true≢false (sym (and_from _ (list_all facts rule.premises && not (facts rule.gives)) ops (and_from (list_all facts rule.premises) (not (facts rule.gives)) known (ap not nay))) ∙ node.closed n f g h rule is)))

  two : (f g : ℕ) → Is f → Is g → f ≢ g → (list_all (is_op P) (f ∷ g ∷ []) && all_pairs (λ f g. not (f == g)) (f ∷ g ∷ [])) ≡ true
  two f g of og ne = ap₂ (λ a b. (a && (b && true)) && ((not (f == g) && true) && (true && true))) of og ∙ ap (λ b. (true && (true && true)) && ((not b && true) && (true && true))) (ne_eqb f g ne)

  three : (f g h : ℕ) → Is f → Is g → Is h → f ≢ g → f ≢ h → g ≢ h → (list_all (is_op P) (f ∷ g ∷ h ∷ []) && all_pairs (λ f g. not (f == g)) (f ∷ g ∷ h ∷ [])) ≡ true
  three f g h of og oh fg fh gh =
      and_from (list_all (is_op P) (f ∷ g ∷ h ∷ [])) _ (and_from (is_op P f) _ of (and_from (is_op P g) _ og (and_from (is_op P h) true oh refl)))
      (and_from (list_all (λ k. not (f == k)) (g ∷ h ∷ [])) _ (and_from (not (f == g)) _ (ap not (ne_eqb f g fg)) (and_from (not (f == h)) true (ap not (ne_eqb f h fh)) refl))
      (and_from (list_all (λ k. not (g == k)) (h ∷ [])) _ (and_from (not (g == h)) true (ap not (ne_eqb g h gh)) refl) refl))

  same_before : (f g : ℕ) → Is f → Is g → f ≢ g → facts (Same f g) ≡ true → facts (Before f g) ≡ true
  same_before f g of og ne e = given_known 3 f g 0 (record { operations = f ∷ g ∷ []; premises = Same f g ∷ []; gives = Before f g }) refl (two f g of og ne) (and_from (facts (Same f g)) true e refl)

  before_before : (f g h : ℕ) → Is f → Is g → Is h → f ≢ g → f ≢ h → g ≢ h → facts (Before f g) ≡ true → facts (Before g h) ≡ true → facts (Before f h) ≡ true
  before_before f g h of og oh fg fh gh a b =
      given_known 4 f g h (record { operations = f ∷ g ∷ h ∷ []; premises = Before f g ∷ Before g h ∷ []; gives = Before f h }) refl (three f g h of og oh fg fh gh) (and_from (facts (Before f g)) _ a (and_from (facts (Before g h)) true b refl))

  both_same : (f g : ℕ) → Is f → Is g → f ≢ g → facts (Before f g) ≡ true → facts (Before g f) ≡ true → facts (Same f g) ≡ true
  both_same f g of og ne a b =
      given_known 5 f g 0 (record { operations = f ∷ g ∷ []; premises = Before f g ∷ Before g f ∷ []; gives = Same f g }) refl (two f g of og ne) (and_from (facts (Before f g)) _ a (and_from (facts (Before g f)) true b refl))

  -- ---- sharing a block

  abbrev shares : ℕ → ℕ → Bool
  shares h f = (h == f) || facts (Same h f)

  same_same : (f g h : ℕ) → Is f → Is g → Is h → f ≢ g → f ≢ h → g ≢ h → facts (Same f g) ≡ true → facts (Same g h) ≡ true → facts (Same f h) ≡ true
  same_same f g h of og oh fg fh gh a b =
      both_same f h of oh fh
      (before_before f g h of og oh fg fh gh (same_before f g of og fg a) (same_before g h og oh gh b))
      (before_before h g f oh og of (λ e. gh (sym e)) (λ e. fh (sym e)) (λ e. fg (sym e)) (same_before h g oh og (λ e. gh (sym e)) (turn_same g h b)) (same_before g f og of (λ e. fg (sym e)) (turn_same f g a)))

  shares_turned : (f g : ℕ) → shares f g ≡ true → shares g f ≡ true
  shares_turned f g e = or_cases (f == g) (facts (Same f g)) e (λ s. or_left (g == f) (facts (Same g f)) (eq-eqb g f (sym (eqb-true f g s)))) (λ s. or_right (g == f) (facts (Same g f)) (turn_same f g s))

  shares_then : (f g h : ℕ) → Is f → Is g → Is h → shares f g ≡ true → shares g h ≡ true → shares f h ≡ true
  shares_then f g h of og oh a b =
      or_cases (f == g) (facts (Same f g)) a (λ s. subst (λ k. shares k h ≡ true) (sym (eqb-true f g s)) b) (λ s.
      or_cases (g == h) (facts (Same g h)) b (λ t. subst (λ k. shares f k ≡ true) (eqb-true g h t) a) (λ t.
      ⊎_elim (λ (e : f ≡ h). or_left (f == h) (facts (Same f h)) (eq-eqb f h e)) (λ (fh : f ≢ h).
      ⊎_elim (λ (e : f ≡ g). subst (λ k. shares k h ≡ true) (sym e) b) (λ (fg : f ≢ g).
      ⊎_elim (λ (e : g ≡ h). subst (λ k. shares f k ≡ true) e a) (λ (gh : g ≢ h). or_right (f == h) (facts (Same f h)) (same_same f g h of og oh fg fh gh s t)) (cases_eq g h)) (cases_eq f g)) (cases_eq f h)))

  -- ---- labels

  abbrev n : ℕ
  n = length list

  label_below : (f : ℕ) → 1 ≤ f → f ≤ n → label_of P facts f < n
  label_below f l u = position_below (λ h. shares h f) 1 n f l (omega arith) (or_left (f == f) (facts (Same f f)) (eq-eqb f f refl))

  -- the operation that a label names shares the block
  label_shares : (f : ℕ) → 1 ≤ f → f ≤ n → shares (1 + label_of P facts f) f ≡ true
  label_shares f l u = position_range (λ h. shares h f) 1 n (label_below f l u)

  label_op : (f : ℕ) → 1 ≤ f → f ≤ n → Is (1 + label_of P facts f)
  label_op f l u = op_from P (1 + label_of P facts f) (omega arith) (omega (arith, label_below f l u))

  label_alike : (f g : ℕ) → Is f → Is g → shares f g ≡ true → label_of P facts f ≡ label_of P facts g
  label_alike f g of og e = position_same (λ h. shares h f) (λ h. shares h g) (operations P) (every 1 n (omega arith) (omega arith))
    where
      every : (a k : ℕ) → 1 ≤ a → a + k ≤ 1 + n → AllByRecursion (λ h. shares h f ≡ shares h g) (range_with_len a k)
      every a zero l u = tt
      every a (suc k) l u = (
        let oa : Is a = op_from P a l (omega arith) in
            same_tests (shares a f) (shares a g) (λ s. shares_then a f g oa of og s e) (λ s. shares_then a g f oa og of s (shares_turned f g e)),
        every (a + 1) k (omega arith) (omega arith),
      )

  label_tells : (f g : ℕ) → Is f → Is g → label_of P facts f ≡ label_of P facts g → shares f g ≡ true
  label_tells f g of og e =
      let rf : (1 ≤ f) × (f ≤ n) = op_range P f of in
      let rg : (1 ≤ g) × (g ≤ n) = op_range P g og in
      let k : ℕ = 1 + label_of P facts f in
      shares_then f k g of (label_op f rf.0 rf.1) og (shares_turned k f (label_shares f rf.0 rf.1)) (subst (λ m. shares (1 + m) g ≡ true) (sym e) (label_shares g rg.0 rg.1))

  pub labels_long : length (labels_of P facts) ≡ n
  labels_long = length-map-range_with_len (label_of P facts) 1 n

  label_at : (f : ℕ) → 1 ≤ f → f ≤ n → place_in (labels_of P facts) f ≡ label_of P facts f
  label_at f l u = map_range (label_of P facts) 1 n (f - 1) (omega arith) ∙ ap (label_of P facts) (let e : 1 + (f - 1) ≡ f = omega arith in e)
    where
      map_range : (h : ℕ → ℕ) (a m i : ℕ) → i < m → get_or (map h (range_with_len a m)) i 0 ≡ h (a + i)
      map_range h a zero i l = absurd (omega arith)
      map_range h a (suc m) zero l = ap h (let e : a ≡ a + 0 = omega arith in e)
      map_range h a (suc m) (suc i) l = map_range h (a + 1) m i (omega arith) ∙ ap h (let e : a + 1 + i ≡ a + suc i = omega arith in e)

  labels_are : AreLabels (labels_of P facts)
  labels_are = record { below = λ f l u. let m : f ≤ n = omega (arith, u, labels_long) in omega (arith, label_at f l m, label_below f l m, labels_long) }

  -- labels are the same exactly where a block is shared
  label_share : (f g : ℕ) → Is f → Is g → (place_in (labels_of P facts) f == place_in (labels_of P facts) g) ≡ shares f g
  label_share f g of og =
      let rf : (1 ≤ f) × (f ≤ n) = op_range P f of in
      let rg : (1 ≤ g) × (g ≤ n) = op_range P g og in
      ap₂ (λ a b. a == b) (label_at f rf.0 rf.1) (label_at g rg.0 rg.1)
      ∙ same_tests (label_of P facts f == label_of P facts g) (shares f g) (λ e. label_tells f g of og (eqb-true _ _ e)) (λ e. eq-eqb _ _ (label_alike f g of og e))

  -- ---- the parts fuse

  clash_free : (f g : ℕ) → f ≢ g → facts (Same f g) ≡ true → facts (Apart f g) ≡ true → ⊥
  clash_free f g ne s a =
      ⊎_elim (λ (l : f < g). node.consistent f g (record { rising = lt-ltb f g l; same = s; apart = a }))
      (λ (l : g ≤ f). node.consistent g f (record { rising = lt-ltb g f (less l (λ e. ne (sym e))); same = turn_same f g s; apart = turn_apart f g a })) (cases_lt f g)
    where
      less : g ≤ f → (g ≡ f → ⊥) → g < f
      less l d = omega arith

  fuses : (f g : ℕ) → is_pair P f g ≡ true → shares f g ≡ true → P.fusible f g ≡ true
  fuses f g pair e =
      let p = pair_ops P f g pair in
      let ne : f ≢ g = eqb-false f g (not-true _ p.2) in
      or_cases (f == g) (facts (Same f g)) e (λ s. absurd (ne (eqb-true f g s))) (λ s.
      by_bool (P.fusible f g) (λ t. t) (λ nay. absurd (clash_free f g ne s (node.node.roots (Apart f g) (and_from (is_pair P f g) (not (P.fusible f g)) pair (ap not nay))))))

  together : is_together P (labels_of P facts) ≡ true
  together = every_op (λ f. list_all (λ g. not (is_pair P f g) || (not (place_in (labels_of P facts) f == place_in (labels_of P facts) g) || P.fusible f g)) (operations P)) (λ f of.
      every_op (λ g. not (is_pair P f g) || (not (place_in (labels_of P facts) f == place_in (labels_of P facts) g) || P.fusible f g)) (λ g og.
      by_bool (is_pair P f g) (λ pair.
      or_right (not (is_pair P f g)) _ (by_bool (shares f g) (λ s. or_right (not (place_in (labels_of P facts) f == place_in (labels_of P facts) g)) (P.fusible f g) (fuses f g pair s)) (λ nay. or_left (not (place_in (labels_of P facts) f == place_in (labels_of P facts) g)) (P.fusible f g) (ap not (label_share f g of og ∙ nay)))))
      (λ nay. or_left (not (is_pair P f g)) _ (ap not nay))))
    where
      every_from : (p : ℕ → Bool) → ((f : ℕ) → Is f → p f ≡ true) → (a k : ℕ) → 1 ≤ a → a + k ≤ 1 + n → list_all p (range_with_len a k) ≡ true
      every_from p h a zero l u = refl
      every_from p h a (suc k) l u = and_from (p a) (list_all p (range_with_len (a + 1) k)) (h a (op_from P a l (omega arith))) (every_from p h (a + 1) k (omega arith) (omega arith))

      every_op : (p : ℕ → Bool) → ((f : ℕ) → Is f → p f ≡ true) → list_all p (operations P) ≡ true
      every_op p h = every_from p h 1 n (omega arith) (omega arith)

  -- ---- the parts have an order: a part ranks by how many operations stand before it

  abbrev stands : ℕ → ℕ → Bool
  stands h f = (h == f) || facts (Before h f)

  rank : ℕ → ℕ
  rank f = sum_below (λ i. bit (stands (suc i) f)) n

  stands_then : (h f g : ℕ) → Is h → Is f → Is g → stands h f ≡ true → facts (Before f g) ≡ true → f ≢ g → facts (Same f g) ≡ false → stands h g ≡ true
  stands_then h f g oh of og s b ne nay =
      or_cases (h == f) (facts (Before h f)) s (λ e. or_right (h == g) (facts (Before h g)) (subst (λ k. facts (Before k g) ≡ true) (sym (eqb-true h f e)) b)) (λ e.
      ⊎_elim (λ (same : h ≡ g). or_left (h == g) (facts (Before h g)) (eq-eqb h g same)) (λ (hg : h ≢ g).
      ⊎_elim (λ (same : h ≡ f). or_right (h == g) (facts (Before h g)) (subst (λ k. facts (Before k g) ≡ true) (sym same) b)) (λ (hf : h ≢ f).
      or_right (h == g) (facts (Before h g)) (before_before h f g oh of og hf hg ne e b)) (cases_eq h f)) (cases_eq h g))

  not_behind : (f g : ℕ) → Is f → Is g → f ≢ g → facts (Before f g) ≡ true → facts (Same f g) ≡ false → stands g f ≡ false
  not_behind f g of og ne b nay =
      false_from_ne_true (stands g f) (λ s. or_cases (g == f) (facts (Before g f)) s (λ e. ne (sym (eqb-true g f e))) (λ e. true≢false (sym (both_same f g of og ne b e) ∙ nay)))

  ranks : (f g : ℕ) → Is f → Is g → f ≢ g → facts (Before f g) ≡ true → facts (Same f g) ≡ false → rank f < rank g
  unfolding rank
  ranks f g of og ne b nay =
      let rg : (1 ≤ g) × (g ≤ n) = op_range P g og in
      let less : rank f + 1 ≤ rank g =
      sum_below-less (λ i. bit (stands (suc i) f)) (λ i. bit (stands (suc i) g)) n (g - 1) (omega (arith, rg.0, rg.1))
      (λ j l. bit-le (stands (suc j) f) (stands (suc j) g) (λ s. stands_then (suc j) f g (op_from P (suc j) (omega arith) (omega arith)) of og s b ne nay))
      (here g rg.0 (not_behind f g of og ne b nay)) in
      omega (arith, less)
    where
      here : (g : ℕ) → 1 ≤ g → stands g f ≡ false → bit (stands (suc (g - 1)) f) + 1 ≤ bit (stands (suc (g - 1)) g)
      here zero l e = absurd (omega arith)
      here (suc k) l e =
          let k1 : suc (suc k - 1) ≡ suc k = omega arith in
          let first : bit (stands (suc (suc k - 1)) f) ≡ 0 = ap (λ m. bit (stands m f)) k1 ∙ ap bit e in
          let second : bit (stands (suc (suc k - 1)) (suc k)) ≡ 1 = ap (λ m. bit (stands m (suc k))) k1 ∙ ap bit (or_left (suc k == suc k) (facts (Before (suc k) (suc k))) (eq-eqb (suc k) (suc k) refl)) in
          omega (arith, first, second)

  rank_alike : (f g : ℕ) → Is f → Is g → shares f g ≡ true → rank f ≡ rank g
  unfolding rank
  rank_alike f g of og e = sum_same n (omega arith)
    where
      through : (a b : ℕ) → Is a → Is b → shares a b ≡ true → (h : ℕ) → Is h → stands h a ≡ true → stands h b ≡ true
      through a b oa ob s h oh t =
          or_cases (a == b) (facts (Same a b)) s (λ same. subst (λ k. stands h k ≡ true) (eqb-true a b same) t) (λ same.
          ⊎_elim (λ (ab : a ≡ b). subst (λ k. stands h k ≡ true) ab t) (λ (ab : a ≢ b).
          let bab : facts (Before a b) ≡ true = same_before a b oa ob ab same in
          or_cases (h == a) (facts (Before h a)) t (λ ha. or_right (h == b) (facts (Before h b)) (subst (λ k. facts (Before k b) ≡ true) (sym (eqb-true h a ha)) bab)) (λ ha.
          ⊎_elim (λ (hb : h ≡ b). or_left (h == b) (facts (Before h b)) (eq-eqb h b hb)) (λ (hb : h ≢ b).
          ⊎_elim (λ (hh : h ≡ a). or_right (h == b) (facts (Before h b)) (subst (λ k. facts (Before k b) ≡ true) (sym hh) bab)) (λ (hh : h ≢ a).
          or_right (h == b) (facts (Before h b)) (before_before h a b oh oa ob hh hb ab ha bab)) (cases_eq h a)) (cases_eq h b))) (cases_eq a b))

      sum_same : (m : ℕ) → m ≤ n → sum_below (λ i. bit (stands (suc i) f)) m ≡ sum_below (λ i. bit (stands (suc i) g)) m
      sum_same zero l = refl
      sum_same (suc m) l =
          let om : Is (suc m) = op_from P (suc m) (omega arith) (omega arith) in
          ap₂ (λ a b. a + bit b) (sum_same m (omega arith)) (same_tests (stands (suc m) f) (stands (suc m) g) (through f g of og e (suc m) om) (through g f og of (shares_turned f g e) (suc m) om))

  abbrev ls : List ℕ
  ls = labels_of P facts

  -- two members of one part share a block
  part_shares : (b : List ℕ) → In b (parts ls) → (f g : ℕ) → has b f ≡ true → has b g ≡ true → (Is f) × (Is g) × (shares f g ≡ true)
  part_shares b i f g hf hg =
      let p = part_of ls b i in
      let kf : has (with_label ls p.0) f ≡ true = subst (λ c. has c f ≡ true) p.1 hf in
      let kg : has (with_label ls p.0) g ≡ true = subst (λ c. has c g ≡ true) p.1 hg in
      let rf : (1 ≤ f) × (f ≤ length ls) = label_range ls p.0 f kf in
      let rg : (1 ≤ g) × (g ≤ length ls) = label_range ls p.0 g kg in
      let of : Is f = op_from P f rf.0 (omega (arith, rf.1, labels_long)) in
      let og : Is g = op_from P g rg.0 (omega (arith, rg.1, labels_long)) in
      let ef : place_in ls f ≡ p.0 = eqb-true _ _ (sym (has_label ls p.0 f rf.0 rf.1) ∙ kf) in
      let eg : place_in ls g ≡ p.0 = eqb-true _ _ (sym (has_label ls p.0 g rg.0 rg.1) ∙ kg) in
      (of, og, sym (label_share f g of og) ∙ eq-eqb _ _ (ef ∙ sym eg))

  partition : IsPartition n (parts ls)
  partition = subst (λ m. IsPartition m (parts ls)) labels_long (parts_partition ls labels_are)

  part_least : (b : List ℕ) → In b (parts ls) → has b (least_of b) ≡ true
  part_least b i = has_least b (all_in (λ b. not_empty b ≡ true) (parts ls) partition.some b i)

  numbered_at : (f : ℕ) → op_at list (suc f) ≡ get_or list f nothing
  numbered_at f = ap (λ (k : ℕ). get_or list k nothing) (let e : suc f - 1 ≡ f = omega arith in e)

  law_dep : (f g : ℕ) (a b : Op) → a ≡ op_at list f → b ≡ op_at list g → 1 ≤ f → f < g → dep a b ≡ true → P.dep f g ≡ true
  law_dep zero g a b ea eb l lt e = absurd (omega arith)
  law_dep (suc f) zero a b ea eb l lt e = absurd (omega arith)
  law_dep (suc f) (suc g) a b ea eb l lt e =
      and_from (nat_lt (suc f) (suc g)) (dep (get_or list f nothing) (get_or list g nothing)) (lt-ltb (suc f) (suc g) lt) (sym (ap₂ dep (ea ∙ numbered_at f) (eb ∙ numbered_at g)) ∙ e)

  ranked : Ranked (λ b. rank (least_of b)) (numbered list) (parts ls)
  ranked a b ia ib differ e =
      leads_to (rank (least_of a) < rank (least_of b)) a b (numbered list) e
      (Pairs_weaker (Told list) (λ x y. has a x.0 ≡ true → has b y.0 ≡ true → dep x.1 y.1 ≡ true → rank (least_of a) < rank (least_of b)) (λ x y told hx hy d.
      let pa = part_shares a ia x.0 (least_of a) hx (part_least a ia) in
      let pb = part_shares b ib y.0 (least_of b) hy (part_least b ib) in
      let lt : x.0 < y.0 = told.rises in
      let ne : x.0 ≢ y.0 = λ same. absurd (omega (arith, lt, same)) in
      let pair : is_pair P x.0 y.0 ≡ true = pair_from P x.0 y.0 pa.0 pb.0 (ap not (ne_eqb x.0 y.0 ne)) in
      let before : facts (Before x.0 y.0) ≡ true = node.node.roots (Before x.0 y.0) (and_from (is_pair P x.0 y.0) (P.dep x.0 y.0) pair (law_dep x.0 y.0 x.1 y.1 told.first told.second (op_range P x.0 pa.0).0 lt d)) in
      let nay : facts (Same x.0 y.0) ≡ false = false_from_ne_true (facts (Same x.0 y.0)) (λ s. differ (least_alike a b ia ib x.0 y.0 hx hy pa.0 pb.0 (or_right (x.0 == y.0) (facts (Same x.0 y.0)) s))) in
      let r : rank x.0 < rank y.0 = ranks x.0 y.0 pa.0 pb.0 ne before nay in
      omega (arith, r, rank_alike x.0 (least_of a) pa.0 pa.1 pa.2, rank_alike y.0 (least_of b) pb.0 pb.1 pb.2)) (numbered list) (all_told list))
    where
      -- parts with operations that share a block are one
      least_alike : (a b : List ℕ) → In a (parts ls) → In b (parts ls) → (f g : ℕ) → has a f ≡ true → has b g ≡ true → Is f → Is g → shares f g ≡ true → least_of a ≡ least_of b
      least_alike a b ia ib f g hf hg of og s =
          let p = part_of ls a ia in
          let q = part_of ls b ib in
          let rf : (1 ≤ f) × (f ≤ length ls) = label_range ls p.0 f (subst (λ c. has c f ≡ true) p.1 hf) in
          let rg : (1 ≤ g) × (g ≤ length ls) = label_range ls q.0 g (subst (λ c. has c g ≡ true) q.1 hg) in
          let ef : place_in ls f ≡ p.0 = eqb-true _ _ (sym (has_label ls p.0 f rf.0 rf.1) ∙ subst (λ c. has c f ≡ true) p.1 hf) in
          let eg : place_in ls g ≡ q.0 = eqb-true _ _ (sym (has_label ls q.0 g rg.0 rg.1) ∙ subst (λ c. has c g ≡ true) q.1 hg) in
          let same : p.0 ≡ q.0 = sym ef ∙ (eqb-true _ _ (label_share f g of og ∙ s) ∙ eg) in
          ap least_of (p.1 ∙ (ap (with_label ls) same ∙ sym q.1))

  -- the plan is there
  pub plan_there : is_some (plan_by list ls) ≡ true
  plan_there =
      ap (λ t. is_some (cond t (ordered list (parts ls)) None)) together
      ∙ ordered_there (length (parts ls)) (numbered list) (parts ls) (λ b. rank (least_of b)) refl (distinct_of n (parts ls) partition) ranked

  pub plan_is : (plan : List (List ℕ)) → plan_by list ls ≡ Some plan → IsPlanOf list facts plan
  plan_is plan e =
      let p = plan_legal list ls labels_long labels_are plan e in
      record {
        legal = p.1;
        shared = λ f g pair.
            let o = pair_ops P f g pair in
            let rf : (1 ≤ f) × (f ≤ n) = op_range P f o.0 in
            let rg : (1 ≤ g) × (g ≤ n) = op_range P g o.1 in
            plan_shares list ls labels_long labels_are plan p.0 f g rf.0 rf.1 rg.0 rg.1 ∙ (label_share f g o.0 o.1 ∙ ap (λ b. b || facts (Same f g)) (ne_eqb f g (eqb-false f g (not-true _ o.2))));
      }

  -- and costs what the leaf is worth
  pub plan_costs : IsTrue (is_formed list) → (plan : List (List ℕ)) → IsPlanOf list facts plan → (value : ℕ) (charges : List Charge) → IsLargeLeaf P facts value charges → value ≡ cost list plan
  plan_costs formed plan is value charges leaf =
      let agree = agrees list plan formed is.legal in
      sym (leaf.plan_costs (place plan) (length plan) agree.legal keeps decides) ∙ agree.costs
    where
      pair_is : (f g : ℕ) → Is f → Is g → f ≢ g → is_pair P f g ≡ true
      pair_is f g of og ne = pair_from P f g of og (ap not (ne_eqb f g ne))

      keeps : KeepsApart facts (place plan)
      keeps f g a same =
          let o = node.about (Apart f g) a in
          ⊎_elim (λ (e : f ≡ g). true≢false (sym (subst (λ k. facts (Apart f k) ≡ true) (sym e) a) ∙ node.node.plain f)) (λ (ne : f ≢ g).
          clash_free f g ne (sym (is.shared f g (pair_is f g o.left o.right ne)) ∙ eq-eqb _ _ same) a) (cases_eq f g)

      decides : Decides P facts (place plan)
      decides f g of og differ =
          let ne : f ≢ g = λ e. differ (ap (place plan) e) in
          let nay : facts (Same f g) ≡ false = sym (is.shared f g (pair_is f g of og ne)) ∙ ne_eqb _ _ differ in
          ⊎_elim (λ (l : f < g). known f g of og l nay)
          (λ (l : g ≤ f). turn_apart g f (known g f og of (less f g l (λ e. ne (sym e))) (false_from_ne_true (facts (Same g f)) (λ s. true≢false (sym (turn_same g f s) ∙ nay))))) (cases_lt f g)
        where
          less : (f g : ℕ) → g ≤ f → (g ≡ f → ⊥) → g < f
          less f g l d = omega arith

          known : (f g : ℕ) → Is f → Is g → f < g → facts (Same f g) ≡ false → facts (Apart f g) ≡ true
          known f g of og l nay =
              by_bool (facts (Apart f g)) (λ t. t) (λ a.
              absurd (true≢false (sym (and_from ((is_op P f && is_op P g) && nat_lt f g) (not (facts (Same f g)) && not (facts (Apart f g))) (and_from (is_op P f && is_op P g) (nat_lt f g) (and_from (is_op P f) (is_op P g) of og) (lt-ltb f g l)) (and_from (not (facts (Same f g))) (not (facts (Apart f g))) (ap not nay) (ap not a))) ∙ decided f g)))
