-- Two blocks merged: what the partition is then.
use Rattle.std.proofs.Common.{◌≡◌, ℕ, ◌≤◌, ◌<◌, suc, List, [], ◌∷◌, Bool, true, false, cond, not, ◌||◌, ◌&&◌, refl, ap, ap₂, sym, subst, ◌∙◌, arith, length, inl, inr, map}
use Rattle.std.proofs.lemmas.Bool.{false≢true, eq-eqb, ne_eqb, eqb-true, or_left, or_cases, and_parts}
use Rattle.std.specs.Prelude.{nat_eq}
use Rattle.std.specs.List.{AllByRecursion, filter}
use Rattle.std.specs.List.Sorted.{IsPermutation}
use Rattle.std.proofs.lemmas.List.Sorted.{IsPermutation-sym, IsPermutation-trans, IsPermutation-cons, IsPermutation-map}
use Rattle.arr_view.specs.Views.{has}
use Rattle.arr_ops.specs.declared.op.Op.{Op}
use Rattle.arr_ops.specs.Plans.{numbered, holders, not_empty}
use Rattle.arr_ops.specs.Order.{least_of, same_block}
use Rattle.arr_heur.specs.Planners.{numbers, union, merge, pairs}
use Rattle.arr_ops.specs.Order.{In}
use Rattle.arr_ops.proofs.Members.{all_in, in_all, in_filter, filter_in, in_append, Apart, Distinct, others, takes, distinct_others, has_least}
use Rattle.arr_ops.proofs.Legality.{IsPartition, partition_permutation, distinct_of, at_number}
use Rattle.arr_heur.proofs.LinearPlan.{number_in}

pub in_map : {X Y : Type 0} (f : X → Y) (xs : List X) (y : Y) → In y (map f xs) → (x : X) × In x xs × (y ≡ f x)
in_map f [] y i = absurd i
in_map f (x ∷ xs) y (inl e) = (x, inl refl, e)
in_map f (x ∷ xs) y (inr i) = let r = in_map f xs y i in (r.0, inr r.1, r.2)

pub map_all : {X : Type 0} (f : X → X) (xs : List X) → AllByRecursion (λ x. f x ≡ x) xs → map f xs ≡ xs
map_all f [] h = refl
map_all f (x ∷ xs) h = ap₂ (λ y ys. y ∷ ys) h.0 (map_all f xs h.1)

pub has_filter : (p : ℕ → Bool) (xs : List ℕ) (i : ℕ) → has (filter p xs) i ≡ (p i && has xs i)
has_filter p [] i = none (p i)
  where
    none : (t : Bool) → false ≡ (t && false)
    none true = refl
    none false = refl
has_filter p (x ∷ xs) i =
    step (nat_eq i x) refl (p x) refl (has_filter p xs i)
  where
    step : (s : Bool) → nat_eq i x ≡ s → (t : Bool) → p x ≡ t → has (filter p xs) i ≡ (p i && has xs i) → has (cond t (x ∷ filter p xs) (filter p xs)) i ≡ (p i && (s || has xs i))
    step true e true f h = ap (λ t. t || has (filter p xs) i) e ∙ sym (ap (λ t. t && true) (ap p (eqb-true i x e) ∙ f))
    step false e true f h = ap (λ t. t || has (filter p xs) i) e ∙ h
    step true e false f h = h ∙ ap (λ t. t && has xs i) (ap p (eqb-true i x e) ∙ f) ∙ sym (ap (λ t. t && true) (ap p (eqb-true i x e) ∙ f))
    step false e false f h = h

pub number_there : (list : List Op) (i : ℕ) → 0 < i → i ≤ length list → has (numbers (numbered list)) i ≡ true
number_there list i l u =
    at_number (λ i. has (numbers (numbered list)) i ≡ true) 1 list (in_all (λ (x : ℕ × Op). has (numbers (numbered list)) x.0 ≡ true) (numbered list) (λ x m. number_in (numbered list) x m)) i (omega arith) (omega arith)

pub has_union : (list : List Op) (a b : List ℕ) (i : ℕ) → 0 < i → i ≤ length list → has (union (numbered list) a b) i ≡ (has a i || has b i)
has_union list a b i l u =
    has_filter (λ i. has a i || has b i) (numbers (numbered list)) i ∙ ap (λ t. (has a i || has b i) && t) (number_there list i l u) ∙ whole (has a i || has b i)
  where
    whole : (t : Bool) → (t && true) ≡ t
    whole true = refl
    whole false = refl

pub union_has : (xs : List (ℕ × Op)) (a b : List ℕ) (i : ℕ) → has (union xs a b) i ≡ true → (has a i || has b i) ≡ true
union_has xs a b i e = (and_parts (has a i || has b i) (has (numbers xs) i) (sym (has_filter (λ i. has a i || has b i) (numbers xs) i) ∙ e)).0

-- those that stay
abbrev pub kept : List ℕ → List ℕ → List (List ℕ) → List (List ℕ)
kept a b blocks = others a (others b blocks)

pub in_others : (a b : List ℕ) (blocks : List (List ℕ)) → In a blocks → Apart a b → In a (others b blocks)
in_others a b blocks m h = filter_in (λ c. not (same_block c b)) blocks a m (ap not (ne_eqb (least_of a) (least_of b) h))

pub before_merge : (a b : List ℕ) (blocks : List (List ℕ)) → Distinct blocks → In a blocks → In b blocks → Apart a b → IsPermutation blocks (b ∷ a ∷ kept a b blocks)
before_merge a b blocks d m n h =
    IsPermutation-trans blocks (b ∷ others b blocks) (b ∷ a ∷ kept a b blocks) (takes b blocks d n)
    (IsPermutation-cons b (others b blocks) (a ∷ kept a b blocks) (takes a (others b blocks) (distinct_others (λ c. not (same_block c b)) blocks d) (in_others a b blocks m h)))

pub after_merge : (xs : List (ℕ × Op)) (a b : List ℕ) (blocks : List (List ℕ)) → Distinct blocks → In a blocks → In b blocks → Apart a b
    → IsPermutation (merge xs a b blocks) (union xs a b ∷ kept a b blocks)
after_merge xs a b blocks d m n h =
    subst (λ l. IsPermutation (merge xs a b blocks) l)
    (ap₂ (λ u l. u ∷ l) (ap (λ t. cond t (union xs a b) a) (eq-eqb (least_of a) (least_of a) refl))
    (map_all f (kept a b blocks) (in_all (λ c. f c ≡ c) (kept a b blocks) (λ c i. ap (λ t. cond t (union xs a b) c) (not_true_is (same_block c a) (in_filter (λ c. not (same_block c a)) (others b blocks) c i).1)))))
    (IsPermutation-map f (others b blocks) (a ∷ kept a b blocks) (takes a (others b blocks) (distinct_others (λ c. not (same_block c b)) blocks d) (in_others a b blocks m h)))
  where
    f : List ℕ → List ℕ
    f c = cond (same_block c a) (union xs a b) c

    not_true_is : (t : Bool) → not t ≡ true → t ≡ false
    not_true_is true e = absurd (false≢true e)
    not_true_is false e = refl

holds_something : (b : List ℕ) (i : ℕ) → has b i ≡ true → not_empty b ≡ true
holds_something [] i e = absurd (false≢true e)
holds_something (j ∷ js) i e = refl

pub merge_partition : (list : List Op) (a b : List ℕ) (blocks : List (List ℕ)) → IsPartition (length list) blocks → In a blocks → In b blocks → Apart a b
    → IsPartition (length list) (merge (numbered list) a b blocks)
merge_partition list a b blocks p m n h =
    let xs : List (ℕ × Op) = numbered list in
    let d : Distinct blocks = distinct_of (length list) blocks p in
    let rest : List (List ℕ) = kept a b blocks in
    let q = partition_permutation (length list) blocks (b ∷ a ∷ rest) (before_merge a b blocks d m n h) p in
    let low = q.within a (inr (inl refl)) (least_of a) (has_least a q.some.1.0) in
    partition_permutation (length list) (union xs a b ∷ rest) (merge xs a b blocks)
    (IsPermutation-sym (merge xs a b blocks) (union xs a b ∷ rest) (after_merge xs a b blocks d m n h))
    (record {
      some = (holds_something (union xs a b) (least_of a) (has_union list a b (least_of a) low.0 low.1 ∙ or_left (has a (least_of a)) (has b (least_of a)) (has_least a q.some.1.0)), q.some.1.1);
      within = λ c i k e. elim i as (λ _. (0 < k) × (k ≤ length list)) [
        | inl f ↦ elim (or_cases (has a k) (has b k) (union_has xs a b k (ap (λ c. has c k) (sym f) ∙ e))) as (λ _. (0 < k) × (k ≤ length list)) [
          | inl g ↦ q.within a (inr (inl refl)) k g
          | inr g ↦ q.within b (inl refl) k g
        ]
        | inr j ↦ q.within c (inr (inr j)) k e
      ];
      once = λ i l u. ap (λ t. cond t (suc (holders rest i)) (holders rest i)) (has_union list a b i l u) ∙ counted (has a i) (has b i) (holders rest i) (q.once i l u);
    })
  where
    counted : (s t : Bool) (k : ℕ) → cond t (suc (cond s (suc k) k)) (cond s (suc k) k) ≡ 1 → cond (s || t) (suc k) k ≡ 1
    counted true true k e = absurd (omega arith)
    counted true false k e = e
    counted false true k e = e
    counted false false k e = e

pub in_pairs : (blocks : List (List ℕ)) → Distinct blocks → (p : List ℕ × List ℕ) → In p (pairs blocks) → In p.0 blocks × In p.1 blocks × Apart p.0 p.1
in_pairs [] d p i = absurd i
in_pairs (a ∷ bs) d p i =
    elim (in_append (map (λ b. (a, b)) bs) (pairs bs) p i) as (λ _. In p.0 (a ∷ bs) × In p.1 (a ∷ bs) × Apart p.0 p.1) [
      | inl j ↦
          let r = in_map (λ b. pair a b) bs p j in
          let u : p.0 ≡ a = ap (λ (q : List ℕ × List ℕ). q.0) r.2 in
          let v : p.1 ≡ r.0 = ap (λ (q : List ℕ × List ℕ). q.1) r.2 in
          (inl u, inr (subst (λ c. In c bs) (sym v) r.1), λ e. all_in (Apart a) bs d.0 r.0 r.1 (ap least_of (sym u) ∙ e ∙ ap least_of v))
      | inr j ↦ let r = in_pairs bs d.1 p j in (inr r.0, inr r.1, r.2)
    ]
  where
    pair : List ℕ → List ℕ → List ℕ × List ℕ
    pair a b = (a, b)
