-- What a search appends to a tree can be written: a line has few numbers, and they are small.
use Rattle.std.proofs.Common.{◌≡◌, ◌≢◌, ℕ, zero, suc, ◌+◌, ◌*◌, ◌<◌, ◌≤◌, List, [], ◌∷◌, ◌++◌, length, get_or, drop, Bool, true, false, cond, not, ◌&&◌, ◌||◌, Option, Some, None, refl, sym, ap, ◌∙◌, subst, arith, ⊎_elim, length-append}
use Rattle.std.specs.Prelude.{◌==◌, nat_le, nat_lt, codes, decimal, slice_get, unwrap_or}
use Rattle.std.specs.List.{list_all, list_any, flat_map, position_or_len, sum_by, AllByRecursion}
use Rattle.std.specs.Option.{option_map, option_to_list, option_and_then}
use Rattle.std.proofs.lemmas.Bool.{and_parts, and_from, or_left, or_right, true≢false, not-true, eqb-false, eq-eqb, leb-true, le-leb, ltb-true, ne_eqb, cases_eq, cases_lt}
use Rattle.std.proofs.lemmas.Fmt.{length-decimal-le}
use Rattle.std.proofs.lemmas.List.Sums.{sum_by-cons}
use Rattle.arr_view.specs.Strided.{Strided}
use Rattle.arr_view.specs.Views.{identical}
use Rattle.arr_ops.specs.declared.op.Op.{Op}
use Rattle.arr_ops.specs.Ops.{inputs, outputs, views, view_of, array_of}
use Rattle.arr_ops.specs.Formed.{all_pairs}
use Rattle.arr_ops.proofs.Pairs.{Pairs, Pairs_weaker, All_weaker}
use Rattle.arr_ops.proofs.Tests.{all_of, pairs_of, or_cases}
use Rattle.arr_ops.proofs.Alike.{identical_symm, identical_trans}
use Rattle.arr_ops.proofs.Merged.{distinct_apart}
use Rattle.arr_law.specs.declared.charge.Charge.{Charge}
use Rattle.arr_law.specs.declared.fact.Fact.{Fact}
use Rattle.arr_law.specs.declared.fact.Fact.TheVariants.{Same, Apart, Before}
use Rattle.arr_law.specs.declared.record.Record.{Record}
use Rattle.arr_law.specs.declared.record.Record.TheVariants.{Flush, Plan, Cost, Bound, Step, Branch, Dead, Worth, End}
use Rattle.arr_law.specs.Problem.{Problem, ends_base_of, is_op, sum_below}
use Rattle.arr_law.specs.Facts.{Facts, with_fact}
use Rattle.arr_law.specs.Rules.{Rule, free_rule, rule_named}
use Rattle.arr_law.specs.Leaves.{is_apart, surely_charges, class_of, is_group, is_leaf}
use Rattle.arr_law.specs.ProblemOf.{no_view, op_at, problem_of, view_at, views_of}
use Rattle.arr_law.specs.Trees.{may_branch}
use Rattle.arr_law.proofs.Members.{op_range}
use Rattle.arr_law.proofs.Sums.{sum_below-le, sum_below-swap, sum_below-front, sum_by-const, all_both, sum_distinct}
use Rattle.arr_cert.specs.Texts.{spaced, behind, first_text, group_text, takes_two, is_group_spelled, is_spelled, is_short}
use Rattle.arr_state.specs.Steps.{given, third, Steps}
use Rattle.arr_state.proofs.Basics.{by_bool}
use Rattle.arr_state.proofs.Gives.{given-some, given_none}
use Rattle.arr_search.specs.Counts.{bit}
use Rattle.arr_search.specs.Nodes.{is_written}

-- ---- numbers

pub small_decimal : (n : ℕ) → n ≤ 256 → length (decimal n) ≤ 3
small_decimal n l = length-decimal-le 3 n (omega arith) (omega arith) (omega arith)

pub behind_short : (sign : ℕ) (ns : List ℕ) → AllByRecursion (λ n. n ≤ 256) ns → length (behind sign ns) ≤ 4 * length ns
behind_short sign [] s = omega arith
behind_short sign (n ∷ ns) s = omega (arith, length-append (sign ∷ decimal n) (behind sign ns), small_decimal n s.0, behind_short sign ns s.1)

line_short : (word ns : List ℕ) → length word ≤ 7 → AllByRecursion (λ n. n ≤ 256) ns → length ns ≤ 4 → nat_le (length (word ++ spaced ns)) 65536 ≡ true
line_short word ns w s l = le-leb (length (word ++ spaced ns)) 65536 (omega (arith, length-append word (spaced ns), behind_short 32 ns s, w, l))

module _ (list : List Op) (few : length list ≤ 256) where
  abbrev P : Problem
  P = problem_of list

  small_op : (f : ℕ) → is_op P f ≡ true → f ≤ 256
  small_op f of = let r : (1 ≤ f) × (f ≤ length list) = op_range P f of in omega (arith, r.1, few)

  pub dead_written : (f g : ℕ) → is_op P f ≡ true → is_op P g ≡ true → is_written (Dead f g) ≡ true
  dead_written f g of og = ap (λ b. (true && b) && true) (line_short (codes "!dead") (f ∷ g ∷ []) (omega arith) (small_op f of, (small_op g og, tt)) (omega arith))

  pub branch_written : (facts : Facts) (f g : ℕ) → may_branch P facts f g ≡ true → is_written (Branch f g) ≡ true
  branch_written facts f g e =
      let p = and_parts ((is_op P f && is_op P g) && nat_lt f g) (not (facts (Same f g)) && not (facts (Apart f g))) e in
      let q = and_parts (is_op P f && is_op P g) (nat_lt f g) p.0 in
      let r = and_parts (is_op P f) (is_op P g) q.0 in
      ap (λ b. (true && b) && true) (line_short (codes "!branch") (f ∷ g ∷ []) (omega arith) (small_op f r.0, (small_op g r.1, tt)) (omega arith))

  -- ---- steps

  -- a rule that gives something is at operations of the list
  rule_ops : (facts : Facts) (rule : Rule) (x : Fact) → given P facts (Some rule) ≡ Some x → AllByRecursion (λ f. is_op P f ≡ true) rule.operations
  rule_ops facts rule x e =
      let p = given-some P facts (Some rule) x e in
      let same : rule ≡ p.0 = (let s = p.1 in cc) in
      let a = and_parts (list_all (is_op P) p.0.operations && all_pairs (λ f g. not (f == g)) p.0.operations) (list_all facts p.0.premises && not (facts p.0.gives)) p.2 in
      subst (λ (r : Rule). AllByRecursion (λ f. is_op P f ≡ true) r.operations) (sym same) (all_of (is_op P) p.0.operations (and_parts (list_all (is_op P) p.0.operations) (all_pairs (λ f g. not (f == g)) p.0.operations) a.0).0)

  step_written : (facts : Facts) (n f g h : ℕ) (x : Fact) → given P facts (rule_named P 2 n f g h) ≡ Some x → third n h ≡ h → is_written (Step n f g h) ≡ true
  step_written facts n f g h x e t =
      ⊎_elim (λ (k : n ≡ 3). at 3 k (λ e t. let o = rule_ops facts (record { operations = f ∷ g ∷ []; premises = Same f g ∷ []; gives = Before f g }) x e in two_at 3 f g h refl refl refl t o.0 o.1.0) e t) (λ n3.
      ⊎_elim (λ (k : n ≡ 4). at 4 k (λ e t. let o = rule_ops facts (record { operations = f ∷ g ∷ h ∷ []; premises = Before f g ∷ Before g h ∷ []; gives = Before f h }) x e in three_at 4 f g h refl refl o.0 o.1.0 o.1.1.0) e t) (λ n4.
      ⊎_elim (λ (k : n ≡ 5). at 5 k (λ e t. let o = rule_ops facts (record { operations = f ∷ g ∷ []; premises = Before f g ∷ Before g f ∷ []; gives = Same f g }) x e in two_at 5 f g h refl refl refl t o.0 o.1.0) e t) (λ n5.
      ⊎_elim (λ (k : n ≡ 6). at 6 k (λ e t. let o = rule_ops facts (record { operations = f ∷ g ∷ h ∷ []; premises = Same f g ∷ Apart g h ∷ []; gives = Apart f h }) x e in three_at 6 f g h refl refl o.0 o.1.0 o.1.1.0) e t) (λ n6.
      ⊎_elim (λ (k : n ≡ 7). at 7 k (λ e t. let o = rule_ops facts (record { operations = f ∷ g ∷ h ∷ []; premises = Before f g ∷ Before g h ∷ Apart f g ∷ []; gives = Apart f h }) x e in three_at 7 f g h refl refl o.0 o.1.0 o.1.1.0) e t) (λ n7.
      ⊎_elim (λ (k : n ≡ 8). at 8 k (λ e t. let o = rule_ops facts (record { operations = f ∷ g ∷ h ∷ []; premises = Before f g ∷ Before g h ∷ Apart g h ∷ []; gives = Apart f h }) x e in three_at 8 f g h refl refl o.0 o.1.0 o.1.1.0) e t) (λ n8.
      ⊎_elim (λ (k : n ≡ 9). at 9 k (λ e t. free_at e t) e t) (λ n9.
      absurd (never (given_none P facts n f g h n3 n4 n5 n6 n7 n8 n9 ∙ e))) (cases_eq n 9)) (cases_eq n 8)) (cases_eq n 7)) (cases_eq n 6)) (cases_eq n 5)) (cases_eq n 4)) (cases_eq n 3)
    where
      never : None ≡ Some x → ⊥
      never h = cc

      Given : ℕ → Type 0
      Given m = given P facts (rule_named P 2 m f g h) ≡ Some x

      at : (m : ℕ) → n ≡ m → (given P facts (rule_named P 2 m f g h) ≡ Some x → third m h ≡ h → is_written (Step m f g h) ≡ true) → given P facts (rule_named P 2 n f g h) ≡ Some x → third n h ≡ h → is_written (Step n f g h) ≡ true
      at m k made e t =
          subst (λ m. is_written (Step m f g h) ≡ true) (sym k) (made (subst (λ m. given P facts (rule_named P 2 m f g h) ≡ Some x) k e) (subst (λ m. third m h ≡ h) k t))

      written : (m : ℕ) (ns : List ℕ) → (nat_le 3 m && nat_le m 9) ≡ true → m ≤ 9 → AllByRecursion (λ n. n ≤ 256) ns → length ns ≤ 3 → nat_le (length (codes "!step" ++ spaced (m ∷ ns))) 65536 ≡ true
      written m ns r l s k = line_short (codes "!step") (m ∷ ns) (omega arith) (omega arith, s) (omega arith)

      two_at : (m f g h : ℕ) → (nat_le 3 m && nat_le m 9) ≡ true → takes_two m ≡ true → third m h ≡ 0 → third m h ≡ h → is_op P f ≡ true → is_op P g ≡ true → is_written (Step m f g h) ≡ true
      two_at m f g h r two z t of og =
          let zero_is : (h == 0) ≡ true = eq-eqb h 0 (sym t ∙ z) in
          let small : m ≤ 9 = leb-true m 9 (and_parts (nat_le 3 m) (nat_le m 9) r).1 in
          let spelled : is_spelled (Step m f g h) ≡ true = and_from (nat_le 3 m && nat_le m 9) (not (takes_two m) || (h == 0)) r (or_right (not (takes_two m)) (h == 0) zero_is) in
          let short : is_short (Step m f g h) ≡ true = ap (λ b. nat_le (length (codes "!step" ++ spaced (m ∷ f ∷ g ∷ cond b [] (h ∷ [])))) 65536) two ∙ written m (f ∷ g ∷ []) r small (small_op f of, (small_op g og, tt)) (omega arith) in
          and_from (is_spelled (Step m f g h) && is_short (Step m f g h)) true (and_from (is_spelled (Step m f g h)) (is_short (Step m f g h)) spelled short) refl

      three_at : (m f g h : ℕ) → (nat_le 3 m && nat_le m 9) ≡ true → takes_two m ≡ false → is_op P f ≡ true → is_op P g ≡ true → is_op P h ≡ true → is_written (Step m f g h) ≡ true
      three_at m f g h r two of og oh =
          let small : m ≤ 9 = leb-true m 9 (and_parts (nat_le 3 m) (nat_le m 9) r).1 in
          let spelled : is_spelled (Step m f g h) ≡ true = and_from (nat_le 3 m && nat_le m 9) (not (takes_two m) || (h == 0)) r (or_left (not (takes_two m)) (h == 0) (ap not two)) in
          let short : is_short (Step m f g h) ≡ true = ap (λ b. nat_le (length (codes "!step" ++ spaced (m ∷ f ∷ g ∷ cond b [] (h ∷ [])))) 65536) two ∙ written m (f ∷ g ∷ h ∷ []) r small (small_op f of, (small_op g og, (small_op h oh, tt))) (omega arith) in
          and_from (is_spelled (Step m f g h) && is_short (Step m f g h)) true (and_from (is_spelled (Step m f g h)) (is_short (Step m f g h)) spelled short) refl

      free_at : given P facts (rule_named P 2 9 f g h) ≡ Some x → third 9 h ≡ h → is_written (Step 9 f g h) ≡ true
      free_at e t = go (ends_base_of P f g) e
        where
          go : (b : Bool) → given P facts (cond b (Some (free_rule P f g)) None) ≡ Some x → is_written (Step 9 f g h) ≡ true
          go true s = let o = rule_ops facts (free_rule P f g) x s in two_at 9 f g h refl refl refl t o.0 o.1.0
          go false s = absurd (never s)

  pub steps_written : (facts : Facts) (steps : List Record) (gives : List Fact) → Steps P facts steps gives → list_all is_written steps ≡ true
  steps_written facts [] gives s = refl
  steps_written facts (Step n f g h ∷ steps) (x ∷ gives) s =
      and_from (is_written (Step n f g h)) (list_all is_written steps) (step_written facts n f g h x s.0 s.1) (steps_written (with_fact x facts) steps gives s.2)
  steps_written facts (Step n f g h ∷ steps) [] s = absurd s
  steps_written facts (Branch f g ∷ steps) gives s = absurd s
  steps_written facts (Dead f g ∷ steps) gives s = absurd s
  steps_written facts (Worth w ∷ steps) gives s = absurd s
  steps_written facts (End ∷ steps) gives s = absurd s
  steps_written facts (Flush n c v ∷ steps) gives s = absurd s
  steps_written facts (Plan ps ∷ steps) gives s = absurd s
  steps_written facts (Cost c ∷ steps) gives s = absurd s
  steps_written facts (Bound b ∷ steps) gives s = absurd s

  -- ---- leaves

  -- of views no two of which are identical, at most one is identical to another view
  none_like : (v x : Strided) (ds : List Strided) → identical x v ≡ true → AllByRecursion (λ y. identical y x ≡ false) ds → sum_below (λ c. bit (identical (get_or ds c no_view) v)) (length ds) ≡ 0
  none_like v x [] e a = refl
  none_like v x (y ∷ ds) e a =
      let nay : identical y v ≡ false = by_bool (identical y v) (λ t. absurd (true≢false (sym (identical_trans y v x t (identical_symm x v e)) ∙ a.0))) (λ f. f) in
      omega (arith, sum_below-front (λ c. bit (identical (get_or (y ∷ ds) c no_view) v)) (length ds), ap bit nay, none_like v x ds e a.1)

  one_like : (v : Strided) (ds : List Strided) → Pairs (λ x y. identical y x ≡ false) ds → sum_below (λ c. bit (identical (get_or ds c no_view) v)) (length ds) ≤ 1
  one_like v [] p = omega arith
  one_like v (x ∷ ds) p =
      by_bool (identical x v)
      (λ t. omega (arith, sum_below-front (λ c. bit (identical (get_or (x ∷ ds) c no_view) v)) (length ds), ap bit t, none_like v x ds t p.0))
      (λ f. omega (arith, sum_below-front (λ c. bit (identical (get_or (x ∷ ds) c no_view) v)) (length ds), ap bit f, one_like v ds p.1))

  sum_plus : (h k : ℕ → ℕ) (m : ℕ) → sum_below (λ c. h c + k c) m ≡ sum_below h m + sum_below k m
  sum_plus h k zero = refl
  sum_plus h k (suc m) = omega (arith, sum_plus h k m)

  or_bit : (a b : Bool) → bit (a || b) ≤ bit a + bit b
  or_bit true b = omega arith
  or_bit false b = omega arith

  zero_sum : (m : ℕ) → sum_below (λ c. 0) m ≡ 0
  zero_sum zero = refl
  zero_sum (suc m) = omega (arith, zero_sum m)

  -- each of some views counts at one class at most
  any_like : (vs : List Strided) → sum_below (λ c. bit (list_any (identical (view_at list c)) vs)) P.classes ≤ length vs
  any_like [] = omega (arith, zero_sum P.classes)
  any_like (v ∷ vs) =
      omega (
        arith,
        sum_below-le (λ c. bit (list_any (identical (view_at list c)) (v ∷ vs))) (λ c. bit (identical (view_at list c) v) + bit (list_any (identical (view_at list c)) vs)) P.classes (λ c l. or_bit (identical (view_at list c) v) (list_any (identical (view_at list c)) vs)),
        sum_plus (λ c. bit (identical (view_at list c) v)) (λ c. bit (list_any (identical (view_at list c)) vs)) P.classes,
        one_like v (views_of list) (distinct_apart identical identical_symm identical_trans (λ v. 0) (λ u v e. refl) (flat_map views list)),
        any_like vs,
      )

  abbrev touches : ℕ → ℕ → Bool
  touches f c = P.reads f c || P.writes f c

  option_short : {X : Type 0} (o : Option X) → length (option_to_list o) ≤ 1
  option_short None = omega arith
  option_short (Some x) = omega arith

  touches_few : (f : ℕ) → sum_below (λ c. bit (touches f c)) P.classes ≤ 3
  touches_few f =
      let op : Op = op_at list f in
      omega (
        arith,
        sum_below-le (λ c. bit (touches f c)) (λ c. bit (P.reads f c) + bit (P.writes f c)) P.classes (λ c l. or_bit (P.reads f c) (P.writes f c)),
        sum_plus (λ c. bit (P.reads f c)) (λ c. bit (P.writes f c)) P.classes,
        any_like (inputs op),
        any_like (outputs op),
        length-append (view_of op.first) (view_of op.second),
        option_short (array_of op.first),
        option_short (array_of op.second),
        option_short op.out,
      )

  module _ (facts : Facts) where
    -- the operations of a group touch its class
    group_few : (a : Charge) → is_group P facts a ≡ true → (class_of P a < P.classes) × (length a.ops ≤ sum_below (λ f. bit (touches f (class_of P a))) (length list + 1))
    group_few a e = (ltb-true _ _ q.0, subst (λ s. s ≤ sum_below (λ f. bit (touches f (class_of P a))) (length list + 1)) (sum_by-const 1 a.ops ∙ (let m : 1 * length a.ops ≡ length a.ops = omega arith in m)) counted)
      where
        p : ((nat_lt (class_of P a) P.classes && list_all (is_op P) a.ops) ≡ true) × (((all_pairs nat_lt a.ops && all_pairs (λ f g. facts (Apart f g)) a.ops) && list_all (λ f. surely_charges P facts f (class_of P a)) a.ops) ≡ true)
        p = and_parts (nat_lt (class_of P a) P.classes && list_all (is_op P) a.ops) ((all_pairs nat_lt a.ops && all_pairs (λ f g. facts (Apart f g)) a.ops) && list_all (λ f. surely_charges P facts f (class_of P a)) a.ops) e

        q : (nat_lt (class_of P a) P.classes ≡ true) × (list_all (is_op P) a.ops ≡ true)
        q = and_parts (nat_lt (class_of P a) P.classes) (list_all (is_op P) a.ops) p.0

        r : ((all_pairs nat_lt a.ops && all_pairs (λ f g. facts (Apart f g)) a.ops) ≡ true) × (list_all (λ f. surely_charges P facts f (class_of P a)) a.ops ≡ true)
        r = and_parts (all_pairs nat_lt a.ops && all_pairs (λ f g. facts (Apart f g)) a.ops) (list_all (λ f. surely_charges P facts f (class_of P a)) a.ops) p.1

        touching : (f : ℕ) → surely_charges P facts f (class_of P a) ≡ true → touches f (class_of P a) ≡ true
        touching f s =
            or_cases (P.reads f (class_of P a) && is_apart facts f (P.creator (P.base (class_of P a)))) (P.writes f (class_of P a) && is_apart facts f (P.freer (P.base (class_of P a)))) s
            (λ x. or_left (P.reads f (class_of P a)) (P.writes f (class_of P a)) (and_parts (P.reads f (class_of P a)) (is_apart facts f (P.creator (P.base (class_of P a)))) x).0)
            (λ x. or_right (P.reads f (class_of P a)) (P.writes f (class_of P a)) (and_parts (P.writes f (class_of P a)) (is_apart facts f (P.freer (P.base (class_of P a)))) x).0)

        one : (f : ℕ) → is_op P f ≡ true → surely_charges P facts f (class_of P a) ≡ true → (f < length list + 1) × (1 ≤ bit (touches f (class_of P a)))
        one f of s = let z : (1 ≤ f) × (f ≤ length list) = op_range P f of in (omega (arith, z.1), subst (λ b. 1 ≤ bit b) (sym (touching f s)) (omega arith))

        counted : sum_by (λ (f : ℕ). 1) a.ops ≤ sum_below (λ f. bit (touches f (class_of P a))) (length list + 1)
        counted =
            sum_distinct (λ (f : ℕ). 1) (λ f. f) (length list + 1) a.ops (λ f. bit (touches f (class_of P a)))
            (all_both (λ f. is_op P f ≡ true) (λ f. surely_charges P facts f (class_of P a) ≡ true) (λ f. (f < length list + 1) × (1 ≤ bit (touches f (class_of P a)))) a.ops one (all_of (is_op P) a.ops q.1) (all_of (λ f. surely_charges P facts f (class_of P a)) a.ops r.1))
            (Pairs_weaker (λ f g. nat_lt f g ≡ true) (λ f g. f ≢ g) (λ f g l same. let m : f < g = ltb-true f g l in absurd (omega (arith, m, same))) a.ops (pairs_of nat_lt a.ops (and_parts (all_pairs nat_lt a.ops) (all_pairs (λ f g. facts (Apart f g)) a.ops) r.0).0))

    groups_few : (groups : List Charge) → is_leaf P facts groups ≡ true → sum_by (λ (a : Charge). length a.ops) groups ≤ 771
    groups_few groups e =
        let h = and_parts (list_all (is_group P facts) groups) (all_pairs (λ (a b : Charge). not (class_of P a == class_of P b)) groups) e in
        let all : sum_by (λ (a : Charge). length a.ops) groups ≤ sum_below (λ c. sum_below (λ f. bit (touches f c)) (length list + 1)) P.classes =
        sum_distinct (λ (a : Charge). length a.ops) (class_of P) P.classes groups (λ c. sum_below (λ f. bit (touches f c)) (length list + 1))
        (All_weaker (λ a. is_group P facts a ≡ true) (λ a. (class_of P a < P.classes) × (length a.ops ≤ sum_below (λ f. bit (touches f (class_of P a))) (length list + 1))) group_few groups (all_of (is_group P facts) groups h.0))
        (Pairs_weaker (λ (a b : Charge). not (class_of P a == class_of P b) ≡ true) (λ (a b : Charge). class_of P a ≢ class_of P b) (λ a b k. eqb-false _ _ (not-true _ k)) groups (pairs_of (λ (a b : Charge). not (class_of P a == class_of P b)) groups h.1)) in
        let turned : sum_below (λ c. sum_below (λ f. bit (touches f c)) (length list + 1)) P.classes ≡ sum_below (λ f. sum_below (λ c. bit (touches f c)) P.classes) (length list + 1) = sum_below-swap (λ c f. bit (touches f c)) P.classes (length list + 1) in
        omega (arith, all, turned, most (length list + 1), few)
      where
        most : (m : ℕ) → sum_below (λ f. sum_below (λ c. bit (touches f c)) P.classes) m ≤ 3 * m
        most zero = omega arith
        most (suc m) = omega (arith, most m, touches_few m)

    -- a group names an operation, and one of its three views
    group_spelled : (a : Charge) → is_group P facts a ≡ true → (a.operand ≤ 2) × (1 ≤ length a.ops) × AllByRecursion (λ f. f ≤ 256) a.ops
    group_spelled a e = (operand a.ops refl, some a.ops refl, All_weaker (λ f. is_op P f ≡ true) (λ f. f ≤ 256) small_op a.ops (all_of (is_op P) a.ops q.1))
      where
        q : (nat_lt (class_of P a) P.classes ≡ true) × (list_all (is_op P) a.ops ≡ true)
        q = and_parts (nat_lt (class_of P a) P.classes) (list_all (is_op P) a.ops) (and_parts (nat_lt (class_of P a) P.classes && list_all (is_op P) a.ops) ((all_pairs nat_lt a.ops && all_pairs (λ f g. facts (Apart f g)) a.ops) && list_all (λ f. surely_charges P facts f (class_of P a)) a.ops) e).0

        below : class_of P a < P.classes
        below = ltb-true _ _ q.0

        some : (ops : List ℕ) → a.ops ≡ ops → 1 ≤ length a.ops
        some [] s = let none : class_of P a ≡ P.classes = ap (λ fs. unwrap_or (option_and_then (λ f. P.view f a.operand) (slice_get fs 0)) P.classes) s in absurd (omega (arith, below, none))
        some (f ∷ fs) s = omega (arith, ap length s)

        operand : (ops : List ℕ) → a.ops ≡ ops → a.operand ≤ 2
        operand [] s = let l : 1 ≤ length a.ops = some [] s in absurd (omega (arith, l, ap length s))
        operand (f ∷ fs) s =
            ⊎_elim (λ (l : a.operand < 3). omega arith) (λ (l : 3 ≤ a.operand).
            let none : class_of P a ≡ P.classes =
            ap (λ fs. unwrap_or (option_and_then (λ f. P.view f a.operand) (slice_get fs 0)) P.classes) s
            ∙ unnamed f a.operand (λ e. absurd (omega arith)) (λ e. absurd (omega arith)) (λ e. absurd (omega arith)) in
            absurd (omega (arith, below, none))) (cases_lt a.operand 3)
          where
            unnamed : (f k : ℕ) → (k ≡ 0 → ⊥) → (k ≡ 1 → ⊥) → (k ≡ 2 → ⊥) → unwrap_or (P.view f k) P.classes ≡ P.classes
            unnamed f k k0 k1 k2 =
                ap (λ (o : Option Strided). unwrap_or (option_map (λ v. position_or_len (identical v) (views_of list)) o) P.classes)
                (ap (λ b. cond b (op_at list f).out (cond (k == 1) (array_of (op_at list f).first) (cond (k == 2) (array_of (op_at list f).second) None))) (ne_eqb k 0 k0)
                ∙ (ap (λ b. cond b (array_of (op_at list f).first) (cond (k == 2) (array_of (op_at list f).second) None)) (ne_eqb k 1 k1)
                ∙ ap (λ b. cond b (array_of (op_at list f).second) None) (ne_eqb k 2 k2)))

    group_short : (a : Charge) → is_group P facts a ≡ true → length (group_text a) ≤ 8 * length a.ops
    group_short a e = let s = group_spelled a e in go a.ops refl s.0 s.2
      where
        go : (ops : List ℕ) → a.ops ≡ ops → a.operand ≤ 2 → AllByRecursion (λ f. f ≤ 256) a.ops → length (group_text a) ≤ 8 * length a.ops
        go [] s l small = let m = (group_spelled a e).1 in absurd (omega (arith, m, ap length s))
        go (f ∷ fs) s l small =
            let t : AllByRecursion (λ f. f ≤ 256) (f ∷ fs) = subst (AllByRecursion (λ f. f ≤ 256)) s small in
            subst (λ ops. length ((first_text ops ++ (46 ∷ decimal a.operand)) ++ behind 44 (drop 1 ops)) ≤ 8 * length ops) (sym s)
            (omega (
              arith,
              length-append ((32 ∷ decimal f) ++ (46 ∷ decimal a.operand)) (behind 44 fs),
              length-append (32 ∷ decimal f) (46 ∷ decimal a.operand),
              small_decimal f t.0,
              small_decimal a.operand (let k : a.operand ≤ 256 = omega arith in k),
              behind_short 44 fs t.1,
            ))

    groups_short : (groups : List Charge) → AllByRecursion (λ a. is_group P facts a ≡ true) groups → length (flat_map group_text groups) ≤ 8 * sum_by (λ (a : Charge). length a.ops) groups
    groups_short [] h = omega arith
    groups_short (a ∷ groups) h = omega (arith, length-append (group_text a) (flat_map group_text groups), group_short a h.0, groups_short groups h.1, sum_by-cons (λ (a : Charge). length a.ops) a groups)

    groups_spelled : (groups : List Charge) → AllByRecursion (λ a. is_group P facts a ≡ true) groups → list_all is_group_spelled groups ≡ true
    groups_spelled [] h = refl
    groups_spelled (a ∷ groups) h =
        let s = group_spelled a h.0 in
        and_from (is_group_spelled a) (list_all is_group_spelled groups) (and_from (nat_le a.operand 2) (nat_le 1 (length a.ops)) (le-leb a.operand 2 s.0) (le-leb 1 (length a.ops) s.1)) (groups_spelled groups h.1)

    pub leaf_written : (groups : List Charge) → is_leaf P facts groups ≡ true → is_written (Worth groups) ≡ true
    leaf_written groups e =
        let h = all_of (is_group P facts) groups (and_parts (list_all (is_group P facts) groups) (all_pairs (λ (a b : Charge). not (class_of P a == class_of P b)) groups) e).0 in
        and_from (is_spelled (Worth groups) && is_short (Worth groups)) true
        (and_from (list_all is_group_spelled groups) (is_short (Worth groups)) (groups_spelled groups h)
        (le-leb (length (codes "!worth" ++ flat_map group_text groups)) 65536 (omega (arith, length-append (codes "!worth") (flat_map group_text groups), groups_short groups h, groups_few groups e)))) refl
