-- Which two blocks may be merged, by what reaches what, and what reaches what then.
use Rattle.std.proofs.Common.{◌≡◌, ℕ, ◌+◌, ◌≤◌, ◌<◌, min, List, [], ◌∷◌, Bool, true, false, not, ◌||◌, ◌&&◌, refl, ap, ap₂, sym, subst, ◌∙◌, arith, length, inl, inr, Option, Some, None}
use Rattle.std.proofs.lemmas.Bool.{false≢true, both_ways, eq-eqb, ne_eqb, eqb-true, eqb-false, and_parts, or_cases, or_left, or_right, and_from}
use Rattle.std.specs.Prelude.{◌==◌, nat_eq, is_some}
use Rattle.std.specs.List.{AllByRecursion, list_all, list_any}
use Rattle.std.proofs.lemmas.List.Sorted.{IsPermutation-sym}
use Rattle.arr_view.specs.Views.{has}
use Rattle.arr_ops.specs.declared.op.Op.{Op}
use Rattle.arr_ops.specs.Ops.{dep, fusible}
use Rattle.arr_ops.specs.Formed.{all_pairs}
use Rattle.arr_ops.specs.Plans.{numbered, not_empty, ops_of}
use Rattle.arr_ops.specs.Order.{least_of, same_block, leads, ordered, each_fusible, is_orderable}
use Rattle.arr_ops.proofs.Pairs.{Pairs}
use Rattle.arr_heur.specs.Planners.{union, merge}
use Rattle.arr_ops.specs.Order.{In}
use Rattle.arr_greedy.specs.Ways.{Way, IsReach, reach_after, lies_between}
use Rattle.arr_ops.specs.Order.{is_partition}
use Rattle.arr_greedy.specs.Reach.{TellsReach, MergesByReach, ReachAfterMerge}
use Rattle.arr_ops.proofs.Members.{all_in, in_all, in_filter, filter_in, in_permutation, any_false, false_any, Apart, Distinct, others, has_least}
use Rattle.arr_ops.proofs.Ordering.{ordered_there}
use Rattle.arr_ops.proofs.Legality.{IsPartition, Share, fusible_parts, fusible_whole, partition_of, distinct_of, legal_partition, block_test}
use Rattle.arr_heur.proofs.LinearPlan.{between_enumerated}
use Rattle.arr_ops.proofs.Orders.{order_legal, each_parts, each_whole, ranked_legal, place_of}
use Rattle.arr_heur.proofs.Merge.{has_union, union_has, kept, after_merge, merge_partition, in_others}
use Rattle.arr_greedy.proofs.Ways.{Ranks, After, Joined, Free, joined_ranks, ranked_free, reach_joined}

-- ---- the least number

least_le : (b : List ℕ) (i : ℕ) → has b i ≡ true → least_of b ≤ i
least_le [] i e = absurd (false≢true e)
least_le (j ∷ []) i e = elim (or_cases (nat_eq i j) false e) as (λ _. j ≤ i) [ inl f ↦ (let g : i ≡ j = eqb-true i j f in omega arith) | inr f ↦ absurd (false≢true f) ]
least_le (j ∷ k ∷ ks) i e =
    elim (or_cases (nat_eq i j) (has (k ∷ ks) i) e) as (λ _. min j (least_of (k ∷ ks)) ≤ i) [
      | inl f ↦ (let g : i ≡ j = eqb-true i j f in omega arith)
      | inr f ↦ (let g : least_of (k ∷ ks) ≤ i = least_le (k ∷ ks) i f in omega arith)
    ]

not_empty_of : (b : List ℕ) (i : ℕ) → has b i ≡ true → not_empty b ≡ true
not_empty_of [] i e = absurd (false≢true e)
not_empty_of (j ∷ js) i e = refl

same_least : (blocks : List (List ℕ)) → Distinct blocks → (x y : List ℕ) → In x blocks → In y blocks → least_of x ≡ least_of y → x ≡ y
same_least [] d x y m n e = absurd m
same_least (c ∷ cs) d x y (inl f) (inl g) e = f ∙ sym g
same_least (c ∷ cs) d x y (inl f) (inr n) e = absurd (all_in (Apart c) cs d.0 y n (ap least_of (sym f) ∙ e))
same_least (c ∷ cs) d x y (inr m) (inl g) e = absurd (all_in (Apart c) cs d.0 x m (ap least_of (sym g) ∙ sym e))
same_least (c ∷ cs) d x y (inr m) (inr n) e = same_least cs d.1 x y m n e

-- ---- what the union leads, and what leads it

abbrev Unites : List ℕ → List ℕ → List ℕ → ℕ × Op → Type 0
Unites u a b x = has u x.0 ≡ (has a x.0 || has b x.0)

mix_out : (p q z s t : Bool) → (((p || q) && z) || (s || t)) ≡ (((p && z) || s) || ((q && z) || t))
mix_out true q true s t = refl
mix_out true true false s t = refl
mix_out true false false s t = refl
mix_out false true true true t = refl
mix_out false true true false t = refl
mix_out false true false s t = refl
mix_out false false z s t = refl

mix_back : (h p q s t : Bool) → ((h && (p || q)) || (s || t)) ≡ (((h && p) || s) || ((h && q) || t))
mix_back false p q s t = refl
mix_back true true q s t = refl
mix_back true false true true t = refl
mix_back true false true false t = refl
mix_back true false false s t = refl

mix_any : (p q d s t : Bool) → (((p || q) && d) || (s || t)) ≡ (((p && d) || s) || ((q && d) || t))
mix_any p q d s t = mix_out p q d s t

leads_out : (u a b y : List ℕ) (xs : List (ℕ × Op)) → AllByRecursion (Unites u a b) xs → leads xs u y ≡ (leads xs a y || leads xs b y)
leads_out u a b y [] h = refl
leads_out u a b y (x ∷ xs) h =
    ap₂ (λ s t. (s && list_any (λ (z : ℕ × Op). has y z.0 && dep x.1 z.1) xs) || t) h.0 (leads_out u a b y xs h.1)
    ∙ mix_out (has a x.0) (has b x.0) (list_any (λ (z : ℕ × Op). has y z.0 && dep x.1 z.1) xs) (leads xs a y) (leads xs b y)

any_back : (u a b : List ℕ) (f : Op) (xs : List (ℕ × Op)) → AllByRecursion (Unites u a b) xs
    → list_any (λ (z : ℕ × Op). has u z.0 && dep f z.1) xs ≡ (list_any (λ (z : ℕ × Op). has a z.0 && dep f z.1) xs || list_any (λ (z : ℕ × Op). has b z.0 && dep f z.1) xs)
any_back u a b f [] h = refl
any_back u a b f (x ∷ xs) h =
    ap₂ (λ s t. (s && dep f x.1) || t) h.0 (any_back u a b f xs h.1)
    ∙ mix_any (has a x.0) (has b x.0) (dep f x.1) (list_any (λ (z : ℕ × Op). has a z.0 && dep f z.1) xs) (list_any (λ (z : ℕ × Op). has b z.0 && dep f z.1) xs)

leads_back : (u a b y : List ℕ) (xs : List (ℕ × Op)) → AllByRecursion (Unites u a b) xs → leads xs y u ≡ (leads xs y a || leads xs y b)
leads_back u a b y [] h = refl
leads_back u a b y (x ∷ xs) h =
    ap₂ (λ s t. (has y x.0 && s) || t) (any_back u a b x.1 xs h.1) (leads_back u a b y xs h.1)
    ∙ mix_back (has y x.0) (list_any (λ (z : ℕ × Op). has a z.0 && dep x.1 z.1) xs) (list_any (λ (z : ℕ × Op). has b z.0 && dep x.1 z.1) xs) (leads xs y a) (leads xs y b)

unites : (list : List Op) (a b : List ℕ) → AllByRecursion (Unites (union (numbered list) a b) a b) (numbered list)
unites list a b =
    in_all (Unites (union (numbered list) a b) a b) (numbered list) (λ x i.
    let s = all_in (λ (x : ℕ × Op). (1 ≤ x.0) × (x.0 < 1 + length list)) (numbered list) (between_enumerated 1 list) x i in
    let low : 1 ≤ x.0 = s.0 in
    let high : x.0 < 1 + length list = s.1 in
    has_union list a b x.0 (omega arith) (omega arith))

abbrev pub Among : List (List ℕ) → List ℕ → Type 0
Among blocks c = In c blocks

pub joined : (list : List Op) (blocks : List (List ℕ)) (a b : List ℕ) → IsPartition (length list) blocks → In a blocks → In b blocks → least_of a < least_of b
    → Joined least_of (leads (numbered list)) (Among blocks) a b (union (numbered list) a b)
joined list blocks a b p m n l =
    let u : List ℕ = union (numbered list) a b in
    let ha : has a (least_of a) ≡ true = has_least a (all_in (λ b. not_empty b ≡ true) blocks p.some a m) in
    let w = p.within a m (least_of a) ha in
    let hu : has u (least_of a) ≡ true = has_union list a b (least_of a) w.0 w.1 ∙ or_left (has a (least_of a)) (has b (least_of a)) ha in
    let up : least_of u ≤ least_of a = least_le u (least_of a) hu in
    let down : least_of a ≤ least_of u =
    elim (or_cases (has a (least_of u)) (has b (least_of u)) (union_has (numbered list) a b (least_of u) (has_least u (not_empty_of u (least_of a) hu)))) as (λ _. least_of a ≤ least_of u) [
      | inl e ↦ least_le a (least_of u) e
      | inr e ↦ (let k : least_of b ≤ least_of u = least_le b (least_of u) e in omega arith)
    ] in
    record {
      one = m;
      two = n;
      apart = λ e. absurd (omega arith);
      same_key = omega arith;
      only = same_least blocks (distinct_of (length list) blocks p);
      out = λ y. leads_out u a b y (numbered list) (unites list a b);
      back = λ y. leads_back u a b y (numbered list) (unites list a b);
    }

-- ---- the blocks after

-- those of the merged partition are the union and those that stay
pub after_in : (xs : List (ℕ × Op)) (blocks : List (List ℕ)) (a b : List ℕ) → Distinct blocks → In a blocks → In b blocks → Apart a b → (c : List ℕ)
    → In c (merge xs a b blocks) → After least_of (leads xs) (Among blocks) a b (union xs a b) c
after_in xs blocks a b d m n h c i =
    elim (in_permutation (union xs a b ∷ kept a b blocks) (merge xs a b blocks) (IsPermutation-sym (merge xs a b blocks) (union xs a b ∷ kept a b blocks) (after_merge xs a b blocks d m n h)) c i) as (λ _. After least_of (leads xs) (Among blocks) a b (union xs a b) c) [
      | inl e ↦ inl e
      | inr k ↦
          let r = in_filter (λ d. not (same_block d a)) (others b blocks) c k in
          let s = in_filter (λ d. not (same_block d b)) blocks c r.0 in
          inr (s.0, (λ e. both_ways (not (same_block c a)) (ap not (eq-eqb (least_of c) (least_of a) e)) r.1), (λ e. both_ways (not (same_block c b)) (ap not (eq-eqb (least_of c) (least_of b) e)) s.1))
    ]

pub in_after : (xs : List (ℕ × Op)) (blocks : List (List ℕ)) (a b : List ℕ) → Distinct blocks → In a blocks → In b blocks → Apart a b → (c : List ℕ)
    → After least_of (leads xs) (Among blocks) a b (union xs a b) c → In c (merge xs a b blocks)
in_after xs blocks a b d m n h c i =
    in_permutation (merge xs a b blocks) (union xs a b ∷ kept a b blocks) (after_merge xs a b blocks d m n h) c
    (elim i as (λ _. In c (union xs a b ∷ kept a b blocks)) [
      | inl e ↦ inl e
      | inr s ↦ inr (filter_in (λ d. not (same_block d a)) (others b blocks) c (in_others c b blocks s.0 s.2) (ap not (ne_eqb (least_of c) (least_of a) s.1)))
    ])

way_map : (xs : List (ℕ × Op)) (M K : List ℕ → Type 0) → ((c : List ℕ) → M c → K c) → (x : List ℕ) (zs : List (List ℕ)) (y : List ℕ) → Way least_of (leads xs) M x zs y → Way least_of (leads xs) K x zs y
way_map xs M K f x [] y p = (f x p.0, f y p.1, p.2, p.3)
way_map xs M K f x (z ∷ zs) y p = ((f x p.0.0, f z p.0.1, p.0.2, p.0.3), way_map xs M K f z zs y p.1)

reach_map : (xs : List (ℕ × Op)) (M K : List ℕ → Type 0) (R : List ℕ → List ℕ → Bool) → ((c : List ℕ) → M c → K c) → ((c : List ℕ) → K c → M c) → IsReach least_of (leads xs) M R → IsReach least_of (leads xs) K R
reach_map xs M K R f g h x y mx my =
    let r = h x y (g x mx) (g y my) in
    (λ e. let p = r.0 e in (p.0, way_map xs M K f x p.0 y p.1), λ p. r.1 (p.0, way_map xs K M g x p.0 y p.1))

-- ---- ranks

some_of : {X : Type 0} (o : Option X) → is_some o ≡ true → (x : X) × (o ≡ Some x)
some_of None e = absurd (false≢true e)
some_of (Some x) e = (x, refl)

pub orderable_ranked : (list : List Op) (blocks : List (List ℕ)) → IsPartition (length list) blocks → is_orderable list blocks ≡ true → (r : List ℕ → ℕ) × Ranks least_of (leads (numbered list)) (Among blocks) r
orderable_ranked list blocks p e =
    let q = and_parts (each_fusible list blocks) (is_some (ordered list blocks)) e in
    let o = some_of (ordered list blocks) q.1 in
    let s = order_legal list blocks o.0 p q.0 o.1 in
    let t = legal_partition list o.0 s.1 in
    let back = IsPermutation-sym blocks o.0 s.0 in
    (place_of o.0, λ x y h. ranked_legal list o.0 t.0 t.1 x y (in_permutation o.0 blocks back x h.0) (in_permutation o.0 blocks back y h.1) h.2 h.3)

pub ranked_ordered : (list : List Op) (blocks : List (List ℕ)) → IsPartition (length list) blocks → (r : List ℕ → ℕ) → Ranks least_of (leads (numbered list)) (Among blocks) r → is_some (ordered list blocks) ≡ true
ranked_ordered list blocks p r h =
    ordered_there (length blocks) (numbered list) blocks r refl (distinct_of (length list) blocks p) (λ x y m n k e. h x y (m, n, k, e))

-- ---- by reach

same_bool : (s t : Bool) → (s ≡ true → t ≡ true) → (t ≡ true → s ≡ true) → s ≡ t
same_bool true true f g = refl
same_bool true false f g = absurd (false≢true (f refl))
same_bool false true f g = absurd (false≢true (g refl))
same_bool false false f g = refl

lies_not : (R : List ℕ → List ℕ → Bool) (a b c : List ℕ) (s t : Bool) → (least_of c == least_of a) ≡ s → (least_of c == least_of b) ≡ t
    → (s ≡ false → t ≡ false → (R a c ≡ true → R c b ≡ true → ⊥) × (R b c ≡ true → R c a ≡ true → ⊥))
    → (not (s || t) && ((R a c && R c b) || (R b c && R c a))) ≡ false
lies_not R a b c true t e f h = refl
lies_not R a b c false true e f h = refl
lies_not R a b c false false e f h = none (R a c) (R c b) (R b c) (R c a) (h refl refl)
  where
    none : (p q v w : Bool) → (p ≡ true → q ≡ true → ⊥) × (v ≡ true → w ≡ true → ⊥) → ((p && q) || (v && w)) ≡ false
    none true true v w k = absurd (k.0 refl refl)
    none true false true true k = absurd (k.1 refl refl)
    none true false true false k = refl
    none true false false w k = refl
    none false q true true k = absurd (k.1 refl refl)
    none false q true false k = refl
    none false q false w k = refl

lies_free : (R : List ℕ → List ℕ → Bool) (a b c : List ℕ) → lies_between least_of R a b c ≡ false → Apart c a → Apart c b → (R a c ≡ true → R c b ≡ true → ⊥) × (R b c ≡ true → R c a ≡ true → ⊥)
lies_free R a b c e f g =
    let h : ((R a c && R c b) || (R b c && R c a)) ≡ false =
    sym (ap₂ (λ s t. not (s || t) && ((R a c && R c b) || (R b c && R c a))) (ne_eqb (least_of c) (least_of a) f) (ne_eqb (least_of c) (least_of b) g)) ∙ e in (
      λ p q. both_ways ((R a c && R c b) || (R b c && R c a)) h (or_left (R a c && R c b) (R b c && R c a) (and_from (R a c) (R c b) p q)),
      λ p q. both_ways ((R a c && R c b) || (R b c && R c a)) h (or_right (R a c && R c b) (R b c && R c a) (and_from (R b c) (R c a) p q)),
    )

not_true_is : (t : Bool) → not t ≡ true → t ≡ false
not_true_is true e = absurd (false≢true e)
not_true_is false e = refl

apart_of : (list : List Op) (a b : List ℕ) → least_of a < least_of b → Apart a b
apart_of list a b l e = absurd (omega arith)

pub free_after : (list : List Op) (blocks : List (List ℕ)) (R : List ℕ → List ℕ → Bool) (a b : List ℕ) → IsPartition (length list) blocks → TellsReach list blocks R
    → In a blocks → In b blocks → least_of a < least_of b → is_orderable list (merge (numbered list) a b blocks) ≡ true
    → Free least_of (leads (numbered list)) (Among blocks) R a b (union (numbered list) a b)
free_after list blocks R a b p tells m n l e =
    let xs : List (ℕ × Op) = numbered list in
    let u : List ℕ = union xs a b in
    let d = distinct_of (length list) blocks p in
    let apart : Apart a b = apart_of list a b l in
    let j = joined list blocks a b p m n l in
    let r = orderable_ranked list (merge xs a b blocks) (merge_partition list a b blocks p m n apart) e in
    ranked_free least_of (leads xs) (Among blocks) R a b u j tells r.0 (λ x y h. r.1 x y (in_after xs blocks a b d m n apart x h.0, in_after xs blocks a b d m n apart y h.1, h.2, h.3))

pub parts_of : (list : List Op) (blocks : List (List ℕ)) → is_partition list blocks ≡ true → IsPartition (length list) blocks
parts_of list blocks e = let r = and_parts (list_all (block_test (length list)) blocks) _ e in partition_of list blocks r.0 r.1

pub merges_good : (list : List Op) (blocks : List (List ℕ)) (R : List ℕ → List ℕ → Bool) (a b : List ℕ) → IsPartition (length list) blocks → is_orderable list blocks ≡ true → TellsReach list blocks R
    → In a blocks → In b blocks → least_of a < least_of b
    → is_orderable list (merge (numbered list) a b blocks) ≡ (all_pairs fusible (ops_of (numbered list) (union (numbered list) a b)) && not (list_any (lies_between least_of R a b) blocks))
merges_good list blocks R a b p good tells m n l =
    let xs : List (ℕ × Op) = numbered list in
    let u : List ℕ = union xs a b in
    let d = distinct_of (length list) blocks p in
    let apart : Apart a b = apart_of list a b l in
    let j = joined list blocks a b p m n l in
    let after : List (List ℕ) = merge xs a b blocks in
    let q = merge_partition list a b blocks p m n apart in
    let fuses : Bool = all_pairs fusible (ops_of xs u) in
    let lies : Bool = list_any (lies_between least_of R a b) blocks in
    let forth : is_orderable list after ≡ true → (fuses && not lies) ≡ true = λ e.
    let free = free_after list blocks R a b p tells m n l e in
    ap₂ (λ s t. s && not t)
    (fusible_whole u xs (each_parts list after (and_parts (each_fusible list after) (is_some (ordered list after)) e).0 u (in_after xs blocks a b d m n apart u (inl refl))))
    (any_false (lies_between least_of R a b) blocks (λ c i. lies_not R a b c (least_of c == least_of a) (least_of c == least_of b) refl refl (λ s t. free c (i, eqb-false (least_of c) (least_of a) s, eqb-false (least_of c) (least_of b) t)))) in
    let back : (fuses && not lies) ≡ true → is_orderable list after ≡ true = λ e.
    let h = and_parts fuses (not lies) e in
    let none : lies ≡ false = not_true_is lies h.1 in
    let before = orderable_ranked list blocks p good in
    let ranks = joined_ranks least_of (leads xs) (Among blocks) R before.0 a b u j tells before.1 (λ c s. lies_free R a b c (false_any (lies_between least_of R a b) blocks none c s.0) s.1 s.2) in
    ap₂ (λ s t. s && t)
    (each_whole list after (λ c i. elim (after_in xs blocks a b d m n apart c i) as (λ _. Pairs (Share c) xs) [
      | inl f ↦ subst (λ k. Pairs (Share k) xs) (sym f) (fusible_parts u xs h.0)
      | inr s ↦ each_parts list blocks (and_parts (each_fusible list blocks) (is_some (ordered list blocks)) good).0 c s.0
    ]))
    (ranked_ordered list after q ranks.0 (λ x y k. ranks.1 x y (after_in xs blocks a b d m n apart x k.0, after_in xs blocks a b d m n apart y k.1, k.2, k.3))) in
    same_bool (is_orderable list after) (fuses && not lies) forth back

pub merges_by_reach : MergesByReach
merges_by_reach list blocks R a b good tells m n l =
    let parts = and_parts (is_partition list blocks) (is_orderable list blocks) good in
    merges_good list blocks R a b (parts_of list blocks parts.0) parts.1 tells m n l

pub reach_good : (list : List Op) (blocks : List (List ℕ)) (R : List ℕ → List ℕ → Bool) (a b : List ℕ) → IsPartition (length list) blocks → is_orderable list blocks ≡ true → TellsReach list blocks R
    → In a blocks → In b blocks → least_of a < least_of b → is_orderable list (merge (numbered list) a b blocks) ≡ true → TellsReach list (merge (numbered list) a b blocks) (reach_after least_of R a b)
reach_good list blocks R a b p good tells m n l e =
    let xs : List (ℕ × Op) = numbered list in
    let u : List ℕ = union xs a b in
    let d = distinct_of (length list) blocks p in
    let apart : Apart a b = apart_of list a b l in
    let before = orderable_ranked list blocks p good in
    reach_map xs (After least_of (leads xs) (Among blocks) a b u) (Among (merge xs a b blocks)) (reach_after least_of R a b)
    (in_after xs blocks a b d m n apart) (after_in xs blocks a b d m n apart)
    (reach_joined least_of (leads xs) (Among blocks) R before.0 a b u (joined list blocks a b p m n l) tells before.1 (free_after list blocks R a b p tells m n l e))

pub reach_after_merge : ReachAfterMerge
reach_after_merge list blocks R a b good tells m n l e =
    let parts = and_parts (is_partition list blocks) (is_orderable list blocks) good in
    reach_good list blocks R a b (parts_of list blocks parts.0) parts.1 tells m n l e
