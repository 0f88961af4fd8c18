-- The operations with each label are a partition, and a plan of them shares a block where labels are the same.
use Rattle.std.proofs.Common.{◌≡◌, ◌≢◌, ℕ, zero, suc, ◌+◌, ◌-◌, ◌<◌, ◌≤◌, List, [], ◌∷◌, length, get_or, map, Bool, true, false, cond, not, ◌&&◌, ◌||◌, inl, inr, Some, None, refl, sym, ap, ap₂, ◌∙◌, subst, arith, ⊎_elim}
use Rattle.std.specs.Prelude.{◌==◌}
use Rattle.std.specs.List.{All, filter, range_with_len}
use Rattle.std.proofs.lemmas.List.Elements.{All-from_recursion}
use Rattle.std.specs.List.Sorted.{IsPermutation}
use Rattle.std.proofs.lemmas.Bool.{true≢false, not-true, eqb-true, eq-eqb, ne_eqb, cases_eq, cases_lt, lt-ltb}
use Rattle.arr_view.specs.Views.{has}
use Rattle.arr_view.proofs.Known.{same_tests}
use Rattle.arr_ops.specs.declared.op.Op.{Op}
use Rattle.arr_ops.specs.Ops.{fusible}
use Rattle.arr_ops.specs.Plans.{ascends, holders, not_empty, place, numbered, is_legal}
use Rattle.arr_ops.specs.Order.{In, ordered, each_fusible}
use Rattle.arr_ops.proofs.Tests.{or_cases}
use Rattle.arr_ops.proofs.Members.{in_filter, in_permutation, in_all}
use Rattle.arr_ops.proofs.Legality.{IsPartition, Share, has_in, partition_permutation}
use Rattle.arr_ops.proofs.Orders.{each_whole, order_legal}
use Rattle.arr_greedy.proofs.GreedyBlocks.{filtered_ascends}
use Rattle.arr_heur.specs.Partitions.{block_in}
use Rattle.arr_heur.proofs.Merge.{in_map}
use Rattle.arr_heur.proofs.OrderedBlocks.{Told, all_told}
use Rattle.arr_heur.proofs.LinearPlan.{pairs_in}
use Rattle.arr_deps.specs.Graph.{op_at, nothing}
use Rattle.arr_law.specs.Problem.{Problem, is_pair}
use Rattle.arr_law.specs.Plans.{is_together, place_in}
use Rattle.arr_law.specs.ProblemOf.{problem_of}
use Rattle.arr_law.proofs.Members.{has_filter, filter_has, range_has, has_range, at_pair, op_from, pair_from}
use Rattle.arr_search.specs.Parts.{with_label, parts, plan_by}

-- ---- which label an operation has

-- each operation has a label below the length of the list
pub record AreLabels (labels : List ℕ) : Type 0 where
  pub below : (f : ℕ) → 1 ≤ f → f ≤ length labels → place_in labels f < length labels

pub has_label : (labels : List ℕ) (k f : ℕ) → 1 ≤ f → f ≤ length labels → has (with_label labels k) f ≡ (place_in labels f == k)
has_label labels k f a b =
    same_tests (has (with_label labels k) f) (place_in labels f == k) (λ e. (has_filter (λ f. place_in labels f == k) (range_with_len 1 (length labels)) f e).0)
    (λ e. filter_has (λ f. place_in labels f == k) (range_with_len 1 (length labels)) f (range_has 1 (length labels) f a (omega arith)) e)

pub label_range : (labels : List ℕ) (k f : ℕ) → has (with_label labels k) f ≡ true → (1 ≤ f) × (f ≤ length labels)
label_range labels k f e =
    let h : (1 ≤ f) × (f - 1 < length labels) = has_range 1 (length labels) f (has_filter (λ f. place_in labels f == k) (range_with_len 1 (length labels)) f e).1 in
    (h.0, omega (arith, h.0, h.1))

-- ---- how many of the parts hold an operation

-- empty blocks hold nothing
holders_some : (blocks : List (List ℕ)) (f : ℕ) → holders (filter not_empty blocks) f ≡ holders blocks f
holders_some [] f = refl
holders_some ([] ∷ blocks) f = holders_some blocks f
holders_some ((i ∷ is) ∷ blocks) f = ap (λ n. cond (has (i ∷ is) f) (suc n) n) (holders_some blocks f)

module _ (B : ℕ → List ℕ) (f p : ℕ) (own : (k : ℕ) → has (B k) f ≡ (p == k)) where
  held_below : (s m : ℕ) → p < s → holders (map B (range_with_len s m)) f ≡ 0
  held_below s zero l = refl
  held_below s (suc m) l =
      ap (λ b. cond b (suc (holders (map B (range_with_len (s + 1) m)) f)) (holders (map B (range_with_len (s + 1) m)) f)) (own s ∙ ne_eqb p s (λ e. absurd (omega arith)))
      ∙ held_below (s + 1) m (omega arith)

  held_once : (s m : ℕ) → s ≤ p → p < s + m → holders (map B (range_with_len s m)) f ≡ 1
  held_once s zero l h = absurd (omega arith)
  held_once s (suc m) l h = ⊎_elim here (there (λ a b. held_once (s + 1) m a b)) (cases_eq p s)
    where
      rest : List (List ℕ)
      rest = map B (range_with_len (s + 1) m)

      here : p ≡ s → holders (B s ∷ rest) f ≡ 1
      here e = ap (λ b. cond b (suc (holders rest f)) (holders rest f)) (own s ∙ eq-eqb p s e) ∙ ap suc (held_below (s + 1) m (omega arith))

      there : (s + 1 ≤ p → p < s + 1 + m → holders rest f ≡ 1) → (p ≡ s → ⊥) → holders (B s ∷ rest) f ≡ 1
      there ih ne =
          let above : s + 1 ≤ p = ⊎_elim (λ (lt : p < s + 1). absurd (ne (omega arith))) (λ ge. ge) (cases_lt p (s + 1)) in
          ap (λ b. cond b (suc (holders rest f)) (holders rest f)) (own s ∙ ne_eqb p s ne) ∙ ih above (omega arith)

-- ---- the parts

pub part_of : (labels : List ℕ) (b : List ℕ) → In b (parts labels) → (k : ℕ) × (b ≡ with_label labels k)
part_of labels b i =
    let m = in_map (with_label labels) (range_with_len 0 (length labels)) b (in_filter not_empty (map (with_label labels) (range_with_len 0 (length labels))) b i).0 in
    (m.0, m.2)

pub parts_partition : (labels : List ℕ) → AreLabels labels → IsPartition (length labels) (parts labels)
parts_partition labels a =
    record {
      some = in_all (λ b. not_empty b ≡ true) (parts labels) (λ b i. (in_filter not_empty (map (with_label labels) (range_with_len 0 (length labels))) b i).1);
      within = λ b i f e.
          let p = part_of labels b i in
          let r : (1 ≤ f) × (f ≤ length labels) = label_range labels p.0 f (subst (λ c. has c f ≡ true) p.1 e) in
          (omega (arith, r.0), r.1);
      once = λ f l u. holders_some (map (with_label labels) (range_with_len 0 (length labels))) f ∙ held_once (with_label labels) f (place_in labels f) (λ k. has_label labels k f (omega arith) u) 0 (length labels) (omega arith) (omega (arith, a.below f (omega arith) u));
    }

-- ---- a plan of the parts

-- the place of an operation tells its block, and no other
same_place : (plan : List (List ℕ)) (f g : ℕ) → ((b : List ℕ) → In b plan → has b f ≡ has b g) → place plan f ≡ place plan g
same_place [] f g h = refl
same_place (b ∷ plan) f g h = ap₂ (λ t n. cond t 0 (suc n)) (h b (inl refl)) (same_place plan f g (λ c i. h c (inr i)))

other_place : (plan : List (List ℕ)) (f g : ℕ) → 1 ≤ holders plan f → place plan f ≡ place plan g → (b : List ℕ) × In b plan × (has b f ≡ true) × (has b g ≡ true)
other_place [] f g l e = absurd (omega arith)
other_place (b ∷ plan) f g l e = go (has b f) (has b g) refl refl l e (λ m k. other_place plan f g m k)
  where
    go : (s t : Bool) → has b f ≡ s → has b g ≡ t → 1 ≤ cond s (suc (holders plan f)) (holders plan f) → cond s 0 (suc (place plan f)) ≡ cond t 0 (suc (place plan g))
        → (1 ≤ holders plan f → place plan f ≡ place plan g → (b : List ℕ) × In b plan × (has b f ≡ true) × (has b g ≡ true)) → (c : List ℕ) × In c (b ∷ plan) × (has c f ≡ true) × (has c g ≡ true)
    go true true x y l e ih = (b, inl refl, x, y)
    go true false x y l e ih = absurd (omega arith)
    go false true x y l e ih = absurd (omega arith)
    go false false x y l e ih = let r = ih l (omega arith) in (r.0, inr r.1, r.2, r.3)

module _ (list : List Op) (labels : List ℕ) (long : length labels ≡ length list) (are : AreLabels labels) where
  abbrev P : Problem
  P = problem_of list

  partition : IsPartition (length list) (parts labels)
  partition = subst (λ n. IsPartition n (parts labels)) long (parts_partition labels are)

  pub parts_fusible : is_together P labels ≡ true → each_fusible list (parts labels) ≡ true
  parts_fusible together =
      each_whole list (parts labels) (λ b i.
      let p = part_of labels b i in
      pairs_in (Told list) (Share b) (numbered list) (λ x y _ _ told hx hy.
      let rx : (1 ≤ x.0) × (x.0 ≤ length labels) = label_range labels p.0 x.0 (subst (λ c. has c x.0 ≡ true) p.1 hx) in
      let ry : (1 ≤ y.0) × (y.0 ≤ length labels) = label_range labels p.0 y.0 (subst (λ c. has c y.0 ≡ true) p.1 hy) in
      let ex : place_in labels x.0 ≡ p.0 = eqb-true _ _ (sym (has_label labels p.0 x.0 rx.0 rx.1) ∙ subst (λ c. has c x.0 ≡ true) p.1 hx) in
      let ey : place_in labels y.0 ≡ p.0 = eqb-true _ _ (sym (has_label labels p.0 y.0 ry.0 ry.1) ∙ subst (λ c. has c y.0 ≡ true) p.1 hy) in
      let lt : x.0 < y.0 = told.rises in
      let pair : is_pair P x.0 y.0 ≡ true = pair_from P x.0 y.0 (op_from P x.0 rx.0 (omega (arith, rx.1, long))) (op_from P y.0 ry.0 (omega (arith, ry.1, long))) (ap not (ne_eqb x.0 y.0 (λ e. absurd (omega (arith, lt, e))))) in
      fits x.0 y.0 x.1 y.1 told.first told.second rx.0 ry.0
      (or_cases (not (place_in labels x.0 == place_in labels y.0)) (P.fusible x.0 y.0) (at_pair P (λ f g. not (place_in labels f == place_in labels g) || P.fusible f g) together x.0 y.0 pair)
      (λ nay. absurd (true≢false (sym (eq-eqb _ _ (ex ∙ sym ey)) ∙ not-true _ nay))) (λ yes. yes))) (all_told list))
    where
      at : (f : ℕ) → op_at list (suc f) ≡ get_or list f nothing
      at f = ap (λ (k : ℕ). get_or list k nothing) (let e : suc f - 1 ≡ f = omega arith in e)

      fits : (f g : ℕ) (a b : Op) → a ≡ op_at list f → b ≡ op_at list g → 1 ≤ f → 1 ≤ g → P.fusible f g ≡ true → fusible a b ≡ true
      fits (suc f) (suc g) a b ea eb lf lg e = ap₂ fusible (ea ∙ at f) (eb ∙ at g) ∙ e
      fits zero g a b ea eb lf lg e = absurd (omega arith)
      fits (suc f) zero a b ea eb lf lg e = absurd (omega arith)

  -- a plan by labels is legal, and its blocks are the parts
  pub plan_legal : (plan : List (List ℕ)) → plan_by list labels ≡ Some plan → IsPermutation (parts labels) plan × (is_legal list plan ≡ true)
  plan_legal plan e = go (is_together P labels) refl e
    where
      go : (b : Bool) → is_together P labels ≡ b → cond b (ordered list (parts labels)) None ≡ Some plan → IsPermutation (parts labels) plan × (is_legal list plan ≡ true)
      go true t o = order_legal list (parts labels) plan partition (parts_fusible t) o
      go false t o = absurd (cc)

  pub plan_shares : (plan : List (List ℕ)) → IsPermutation (parts labels) plan → (f g : ℕ) → 1 ≤ f → f ≤ length list → 1 ≤ g → g ≤ length list → (place plan f == place plan g) ≡ (place_in labels f == place_in labels g)
  plan_shares plan perm f g lf uf lg ug = same_tests (place plan f == place plan g) (place_in labels f == place_in labels g) forth back
    where
      q : IsPartition (length list) plan
      q = partition_permutation (length list) (parts labels) plan perm partition

      own : (b : List ℕ) → In b plan → (k : ℕ) × (b ≡ with_label labels k)
      own b i = part_of labels b (in_permutation (parts labels) plan perm b i)

      forth : (place plan f == place plan g) ≡ true → (place_in labels f == place_in labels g) ≡ true
      forth e =
          let one : holders plan f ≡ 1 = q.once f (omega arith) uf in
          let r = other_place plan f g (omega arith) (eqb-true _ _ e) in
          let k = own r.0 r.1 in
          let ef : place_in labels f ≡ k.0 = eqb-true _ _ (sym (has_label labels k.0 f lf (omega arith)) ∙ subst (λ c. has c f ≡ true) k.1 r.2) in
          let eg : place_in labels g ≡ k.0 = eqb-true _ _ (sym (has_label labels k.0 g lg (omega arith)) ∙ subst (λ c. has c g ≡ true) k.1 r.3) in
          eq-eqb _ _ (ef ∙ sym eg)

      back : (place_in labels f == place_in labels g) ≡ true → (place plan f == place plan g) ≡ true
      back e =
          eq-eqb _ _ (same_place plan f g (λ b i.
          let k = own b i in
          subst (λ c. has c f ≡ has c g) (sym k.1) (has_label labels k.0 f lf (omega arith) ∙ (ap (λ n. n == k.0) (eqb-true _ _ e) ∙ sym (has_label labels k.0 g lg (omega arith))))))

-- ---- what `ordered` asks of the parts

part_at : (blocks : List (List ℕ)) (k : ℕ) → k < length blocks → In (block_in blocks k) blocks
part_at [] k l = absurd (omega arith)
part_at (b ∷ blocks) zero l = inl refl
part_at (b ∷ blocks) (suc k) l = inr (part_at blocks k (omega arith))

pub parts_ascend : (labels : List ℕ) (k : ℕ) → k < length (parts labels) → ascends (block_in (parts labels) k) ≡ true
parts_ascend labels k l =
    let p = part_of labels (block_in (parts labels) k) (part_at (parts labels) k l) in
    ap ascends p.1 ∙ filtered_ascends (λ f. place_in labels f == p.0) 1 (length labels)

pub parts_inside : (labels : List ℕ) (n k : ℕ) → length labels ≡ n → k < length (parts labels) → All (λ i. (0 < i) × (i ≤ n)) (block_in (parts labels) k)
parts_inside labels n k e l =
    let p = part_of labels (block_in (parts labels) k) (part_at (parts labels) k l) in
    All-from_recursion (λ i. (0 < i) × (i ≤ n)) (block_in (parts labels) k) (in_all (λ i. (0 < i) × (i ≤ n)) (block_in (parts labels) k) (λ i m.
    let r : (1 ≤ i) × (i ≤ length labels) = label_range labels p.0 i (subst (λ b. has b i ≡ true) p.1 (has_in (block_in (parts labels) k) i m)) in
    (omega (arith, r.0), omega (arith, r.1, e))))

-- ---- two operations of one label

at_number : (list : List Op) (f : ℕ) → op_at list (suc f) ≡ get_or list f nothing
at_number list f = ap (λ (k : ℕ). get_or list k nothing) (let e : suc f - 1 ≡ f = omega arith in e)

fusible_at : (list : List Op) (f g : ℕ) → 1 ≤ f → 1 ≤ g → fusible (op_at list f) (op_at list g) ≡ (problem_of list).fusible f g
fusible_at list zero g lf lg = absurd (omega arith)
fusible_at list (suc f) zero lf lg = absurd (omega arith)
fusible_at list (suc f) (suc g) lf lg = ap₂ fusible (at_number list f) (at_number list g)

pub share_tells : (list : List Op) (labels : List ℕ) (f g : ℕ) → 1 ≤ f → f ≤ length list → 1 ≤ g → g ≤ length list → f ≢ g → place_in labels f ≡ place_in labels g
    → fusible (op_at list f) (op_at list g) ≡ (not (is_pair (problem_of list) f g) || (not (place_in labels f == place_in labels g) || (problem_of list).fusible f g))
share_tells list labels f g lf uf lg ug ne same =
    fusible_at list f g lf lg
    ∙ sym (ap₂ (λ a b. not a || (not b || (problem_of list).fusible f g)) (pair_from (problem_of list) f g (op_from (problem_of list) f lf uf) (op_from (problem_of list) g lg ug) (ap not (ne_eqb f g ne))) (eq-eqb _ _ same))
