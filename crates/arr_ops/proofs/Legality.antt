-- Legal plans, as partitions in which no block leads one before it.
use Rattle.std.proofs.Common.{◌≡◌, ℕ, ◌+◌, ◌≤◌, ◌<◌, suc, List, [], ◌∷◌, Bool, true, false, cond, not, ◌||◌, ◌&&◌, refl, ap, ap₂, sym, subst, ◌∙◌, arith, length, inl, inr}
use Rattle.std.proofs.lemmas.Bool.{false≢true, eqb-true, eqb-false, eq-eqb, both_ways, and_parts, or_cases, or_right, ltb-true, leb-true, le-leb, lt-ltb}
use Rattle.std.specs.Prelude.{◌==◌, nat_lt, nat_le, nat_eq}
use Rattle.std.specs.List.{AllByRecursion, list_any, list_all, enumerate_from}
use Rattle.std.specs.List.Sorted.{IsPermutation}
use Rattle.arr_view.specs.Views.{has}
use Rattle.arr_ops.specs.declared.op.Op.{Op}
use Rattle.arr_ops.specs.Ops.{dep, fusible}
use Rattle.arr_ops.specs.Formed.{all_pairs}
use Rattle.arr_ops.specs.Plans.{numbered, holders, place, ops_of, pair_legal, not_empty, is_legal}
use Rattle.arr_ops.specs.Order.{In, least_of, leads}
use Rattle.arr_ops.proofs.Pairs.{Pairs, All_weaker, Pairs_weaker}
use Rattle.arr_ops.proofs.Tests.{all_of, pairs_of, test_all}
use Rattle.arr_ops.proofs.Members.{all_in, in_all, in_permutation, Apart, Distinct, holder_of, held, has_least, holders_permutation}
use Rattle.arr_ops.proofs.Ordering.{Forward}

-- ---- tests on lists

pub any_found : {X : Type 0} (p : X → Bool) (xs : List X) → list_any p xs ≡ true → (x : X) × In x xs × (p x ≡ true)
any_found p [] e = absurd (false≢true e)
any_found p (x ∷ xs) e =
    elim (or_cases (p x) (list_any p xs) e) as (λ _. (y : _) × In y (x ∷ xs) × (p y ≡ true)) [
      | inl f ↦ (x, inl refl, f)
      | inr f ↦ let r = any_found p xs f in (r.0, inr r.1, r.2)
    ]

pub any_there : {X : Type 0} (p : X → Bool) (xs : List X) (x : X) → In x xs → p x ≡ true → list_any p xs ≡ true
any_there p [] x i e = absurd i
any_there p (y ∷ ys) x (inl f) e = ap (λ b. b || list_any p ys) (ap p (sym f) ∙ e)
any_there p (y ∷ ys) x (inr i) e = or_right (p y) (list_any p ys) (any_there p ys x i e)

pub pairs_test : {X : Type 0} (t : X → X → Bool) (xs : List X) → Pairs (λ x y. t x y ≡ true) xs → all_pairs t xs ≡ true
pairs_test t [] h = refl
pairs_test t (x ∷ xs) h = ap₂ (λ a b. a && b) (test_all (t x) xs h.0) (pairs_test t xs h.1)

-- ---- numbers of a list

pub at_number : {X : Type 0} (P : ℕ → Type 0) (k : ℕ) (list : List X) → AllByRecursion (λ (x : ℕ × X). P x.0) (enumerate_from k list) → (i : ℕ) → k ≤ i → i < k + length list → P i
at_number P k [] h i l u = absurd (omega arith)
at_number P k (x ∷ xs) h i l u =
    elim (nat_eq k i) as (λ t. nat_eq k i ≡ t → P i) [
      | true ↦ λ e. subst P (eqb-true k i e) h.0
      | false ↦ λ e.
          let ne : k ≡ i → ⊥ = eqb-false k i e in
          at_number P (k + 1) xs h.1 i (omega arith) (omega arith)
    ] refl

pub by_number : {X : Type 0} (P : ℕ → Type 0) (k : ℕ) (list : List X) → ((i : ℕ) → k ≤ i → i < k + length list → P i) → AllByRecursion (λ (x : ℕ × X). P x.0) (enumerate_from k list)
by_number P k [] f = tt
by_number P k (x ∷ xs) f = (f k (omega arith) (omega arith), by_number P (k + 1) xs (λ i l u. f i (omega arith) (omega arith)))

-- ---- the operations of a block

all_ops : (p : Op → Bool) (block : List ℕ) (xs : List (ℕ × Op)) → list_all p (ops_of xs block) ≡ true → AllByRecursion (λ (y : ℕ × Op). has block y.0 ≡ true → p y.1 ≡ true) xs
all_ops p block [] e = tt
all_ops p block (x ∷ xs) e =
    elim (has block x.0) as (λ t. has block x.0 ≡ t → list_all p (cond t (x.1 ∷ ops_of xs block) (ops_of xs block)) ≡ true → AllByRecursion (λ (y : ℕ × Op). has block y.0 ≡ true → p y.1 ≡ true) (x ∷ xs)) [
      | true ↦ λ f g. let r = and_parts (p x.1) (list_all p (ops_of xs block)) g in (λ _. r.0, all_ops p block xs r.1)
      | false ↦ λ f g. (λ h. absurd (both_ways (has block x.0) f h), all_ops p block xs g)
    ] refl e

ops_all : (p : Op → Bool) (block : List ℕ) (xs : List (ℕ × Op)) → AllByRecursion (λ (y : ℕ × Op). has block y.0 ≡ true → p y.1 ≡ true) xs → list_all p (ops_of xs block) ≡ true
ops_all p block [] h = refl
ops_all p block (x ∷ xs) h =
    elim (has block x.0) as (λ t. has block x.0 ≡ t → list_all p (cond t (x.1 ∷ ops_of xs block) (ops_of xs block)) ≡ true) [
      | true ↦ λ f. ap₂ (λ a b. a && b) (h.0 f) (ops_all p block xs h.1)
      | false ↦ λ f. ops_all p block xs h.1
    ] refl

-- two of the block
abbrev pub Share : List ℕ → ℕ × Op → ℕ × Op → Type 0
Share block x y = has block x.0 ≡ true → has block y.0 ≡ true → fusible x.1 y.1 ≡ true

pub fusible_parts : (block : List ℕ) (xs : List (ℕ × Op)) → all_pairs fusible (ops_of xs block) ≡ true → Pairs (Share block) xs
fusible_parts block [] e = tt
fusible_parts block (x ∷ xs) e =
    elim (has block x.0) as (λ t. has block x.0 ≡ t → all_pairs fusible (cond t (x.1 ∷ ops_of xs block) (ops_of xs block)) ≡ true → Pairs (Share block) (x ∷ xs)) [
      | true ↦ λ f g.
          let r = and_parts (list_all (fusible x.1) (ops_of xs block)) (all_pairs fusible (ops_of xs block)) g in
          (All_weaker (λ (y : ℕ × Op). has block y.0 ≡ true → fusible x.1 y.1 ≡ true) (Share block x) (λ y k _. k) xs (all_ops (fusible x.1) block xs r.0), fusible_parts block xs r.1)
      | false ↦ λ f g. (in_all (Share block x) xs (λ y i h. absurd (both_ways (has block x.0) f h)), fusible_parts block xs g)
    ] refl e

pub fusible_whole : (block : List ℕ) (xs : List (ℕ × Op)) → Pairs (Share block) xs → all_pairs fusible (ops_of xs block) ≡ true
fusible_whole block [] h = refl
fusible_whole block (x ∷ xs) h =
    elim (has block x.0) as (λ t. has block x.0 ≡ t → all_pairs fusible (cond t (x.1 ∷ ops_of xs block) (ops_of xs block)) ≡ true) [
      | true ↦ λ f. ap₂ (λ a b. a && b)
          (ops_all (fusible x.1) block xs (All_weaker (Share block x) (λ (y : ℕ × Op). has block y.0 ≡ true → fusible x.1 y.1 ≡ true) (λ y k. k f) xs h.0)) (fusible_whole block xs h.1)
      | false ↦ λ f. fusible_whole block xs h.1
    ] refl

-- ---- leading

abbrev pub Leading : List (ℕ × Op) → ℕ × Op → ℕ × Op → Type 0
Leading xs x y = (a b : List ℕ) → has a x.0 ≡ true → has b y.0 ≡ true → dep x.1 y.1 ≡ true → leads xs a b ≡ true

pub leads_from : (xs : List (ℕ × Op)) → Pairs (Leading xs) xs
leads_from [] = tt
leads_from (x ∷ xs) = (
  in_all (Leading (x ∷ xs) x) xs (λ y i a b h k d.
      ap (λ t. t || leads xs a b) (ap₂ (λ s t. s && t) h (any_there (λ (y : ℕ × Op). has b y.0 && dep x.1 y.1) xs y i (ap₂ (λ s t. s && t) k d)))),
  Pairs_weaker (Leading xs) (Leading (x ∷ xs)) (λ u v f a b h k d. or_right (has a x.0 && list_any (λ (y : ℕ × Op). has b y.0 && dep x.1 y.1) xs) (leads xs a b) (f a b h k d)) xs (leads_from xs),
)

pub leads_to : (Q : Type 0) (a b : List ℕ) (xs : List (ℕ × Op)) → leads xs a b ≡ true
    → Pairs (λ (x y : ℕ × Op). has a x.0 ≡ true → has b y.0 ≡ true → dep x.1 y.1 ≡ true → Q) xs → Q
leads_to Q a b [] e h = absurd (false≢true e)
leads_to Q a b (x ∷ xs) e h =
    elim (or_cases (has a x.0 && list_any (λ (y : ℕ × Op). has b y.0 && dep x.1 y.1) xs) (leads xs a b) e) as (λ _. Q) [
      | inl f ↦
          let p = and_parts (has a x.0) (list_any (λ (y : ℕ × Op). has b y.0 && dep x.1 y.1) xs) f in
          let q = any_found (λ (y : ℕ × Op). has b y.0 && dep x.1 y.1) xs p.1 in
          let r = and_parts (has b q.0.0) (dep x.1 q.0.1) q.2 in
          all_in (λ (y : ℕ × Op). has a x.0 ≡ true → has b y.0 ≡ true → dep x.1 y.1 ≡ true → Q) xs h.0 q.0 q.1 p.0 r.0 r.1
      | inr f ↦ leads_to Q a b xs f h.1
    ]

-- ---- pairs of a legal plan

-- for a pair that may or may not fuse, may or may not depend, and its two places
abbrev pub Lawful : Bool → Bool → ℕ → ℕ → Type 0
Lawful f d p q = (p ≡ q → f ≡ true) × (d ≡ true → p ≤ q)

abbrev pub LegalPair : List (List ℕ) → ℕ × Op → ℕ × Op → Type 0
LegalPair plan x y = Lawful (fusible x.1 y.1) (dep x.1 y.1) (place plan x.0) (place plan y.0)

lawful_test : (f d : Bool) (p q : ℕ) → Lawful f d p q → ((not (p == q) || f) && (not d || nat_le p q)) ≡ true
lawful_test f d p q h = ap₂ (λ a b. a && b) (first (p == q) refl) (second d h.1)
  where
    first : (t : Bool) → (p == q) ≡ t → (not t || f) ≡ true
    first true e = h.0 (eqb-true p q e)
    first false e = refl

    second : (t : Bool) → (t ≡ true → p ≤ q) → (not t || nat_le p q) ≡ true
    second true k = le-leb p q (k refl)
    second false k = refl

test_lawful : (f d : Bool) (p q : ℕ) → ((not (p == q) || f) && (not d || nat_le p q)) ≡ true → Lawful f d p q
test_lawful f d p q e =
    let r = and_parts (not (p == q) || f) (not d || nat_le p q) e in
    (λ k. first (p == q) (eq-eqb p q k) r.0, λ k. leb-true p q (first d k r.1))
  where
    first : (t : Bool) {g : Bool} → t ≡ true → (not t || g) ≡ true → g ≡ true
    first true k h = h
    first false k h = absurd (false≢true k)

both_places : (f d s t : Bool) (p q : ℕ) → (s ≡ true → t ≡ true → f ≡ true) → (s ≡ false → t ≡ true → d ≡ true → ⊥) → (s ≡ false → t ≡ false → Lawful f d p q)
    → Lawful f d (cond s 0 (suc p)) (cond t 0 (suc q))
both_places f d true true p q g b h = (λ e. g refl refl, λ e. omega arith)
both_places f d true false p q g b h = (λ e. absurd (omega arith), λ e. omega arith)
both_places f d false true p q g b h = (λ e. absurd (omega arith), λ e. absurd (b refl refl e))
both_places f d false false p q g b h = let r = h refl refl in (λ e. r.0 (omega arith), λ e. let k : p ≤ q = r.1 e in omega arith)

pub once_later : (b : Bool) (n : ℕ) → cond b (suc n) n ≡ 1 → b ≡ false → n ≡ 1
once_later true n h e = absurd (false≢true (sym e))
once_later false n h e = h

pub forward_legal : (xs : List (ℕ × Op)) (x y : ℕ × Op) (plan : List (List ℕ)) → ((a : List ℕ) → In a plan → Share a x y) → Leading xs x y → Forward xs plan
    → holders plan x.0 ≡ 1 → holders plan y.0 ≡ 1 → LegalPair plan x y
forward_legal xs x y [] share leading forward h k = absurd (omega arith)
forward_legal xs x y (a ∷ plan) share leading forward h k =
    both_places (fusible x.1 y.1) (dep x.1 y.1) (has a x.0) (has a y.0) (place plan x.0) (place plan y.0)
    (share a (inl refl))
    (λ e f d.
    let one : holders plan x.0 ≡ 1 = once_later (has a x.0) (holders plan x.0) h e in
    let c = holder_of plan x.0 (omega arith) in
    both_ways (leads xs c.0 a) (all_in (λ b. leads xs b a ≡ false) plan forward.0 c.0 c.1) (leading c.0 a c.2 f d))
    (λ e f. forward_legal xs x y plan (λ b i. share b (inr i)) leading forward.1 (once_later (has a x.0) (holders plan x.0) h e) (once_later (has a y.0) (holders plan y.0) k f))

-- ---- partitions

pub record IsPartition (n : ℕ) (blocks : List (List ℕ)) : Type 0 where
  pub some : AllByRecursion (λ b. not_empty b ≡ true) blocks
  pub within : (b : List ℕ) → In b blocks → (i : ℕ) → has b i ≡ true → (0 < i) × (i ≤ n)
  pub once : (i : ℕ) → 0 < i → i ≤ n → holders blocks i ≡ 1

pub has_in : (b : List ℕ) (i : ℕ) → In i b → has b i ≡ true
has_in b i m = any_there (nat_eq i) b i m (eq-eqb i i refl)

pub in_has : (b : List ℕ) (i : ℕ) → has b i ≡ true → In i b
in_has b i e = let r = any_found (nat_eq i) b e in subst (λ k. In k b) (sym (eqb-true i r.0 r.2)) r.1

abbrev pub block_test : ℕ → List ℕ → Bool
block_test n block = not_empty block && list_all (λ i. nat_lt 0 i && nat_le i n) block

abbrev pub partition_test : List Op → List (List ℕ) → Bool
partition_test list blocks = list_all (block_test (length list)) blocks && list_all (λ (x : ℕ × Op). holders blocks x.0 == 1) (numbered list)

pub partition_of : (list : List Op) (blocks : List (List ℕ)) → list_all (block_test (length list)) blocks ≡ true → list_all (λ (x : ℕ × Op). holders blocks x.0 == 1) (numbered list) ≡ true
    → IsPartition (length list) blocks
partition_of list blocks e f =
    let each = all_of (block_test (length list)) blocks e in
    record {
      some = All_weaker (λ b. block_test (length list) b ≡ true) (λ b. not_empty b ≡ true) (λ b h. (and_parts (not_empty b) _ h).0) blocks each;
      within = λ b m i h.
          let t = (and_parts (not_empty b) (list_all (λ i. nat_lt 0 i && nat_le i (length list)) b) (all_in (λ b. block_test (length list) b ≡ true) blocks each b m)).1 in
          let r = and_parts (nat_lt 0 i) (nat_le i (length list)) (all_in (λ i. (nat_lt 0 i && nat_le i (length list)) ≡ true) b (all_of (λ i. nat_lt 0 i && nat_le i (length list)) b t) i (in_has b i h)) in
          (ltb-true 0 i r.0, leb-true i (length list) r.1);
      once = λ i l u. eqb-true (holders blocks i) 1 (at_number (λ i. (holders blocks i == 1) ≡ true) 1 list (all_of (λ (x : ℕ × Op). holders blocks x.0 == 1) (numbered list) f) i (omega arith) (omega arith));
    }

pub partition_blocks : (list : List Op) (blocks : List (List ℕ)) → IsPartition (length list) blocks → list_all (block_test (length list)) blocks ≡ true
partition_blocks list blocks p =
    test_all (block_test (length list)) blocks (in_all (λ b. block_test (length list) b ≡ true) blocks (λ b m.
    ap₂ (λ s t. s && t) (all_in (λ b. not_empty b ≡ true) blocks p.some b m)
    (test_all (λ i. nat_lt 0 i && nat_le i (length list)) b (in_all (λ i. (nat_lt 0 i && nat_le i (length list)) ≡ true) b (λ i k.
    let r = p.within b m i (has_in b i k) in ap₂ (λ s t. s && t) (lt-ltb 0 i r.0) (le-leb i (length list) r.1))))))

pub partition_once : (list : List Op) (blocks : List (List ℕ)) → IsPartition (length list) blocks → AllByRecursion (λ (x : ℕ × Op). holders blocks x.0 ≡ 1) (numbered list)
partition_once list blocks p = by_number (λ i. holders blocks i ≡ 1) 1 list (λ i l u. p.once i (omega arith) (omega arith))

pub partition_permutation : (n : ℕ) (xs ys : List (List ℕ)) → IsPermutation xs ys → IsPartition n xs → IsPartition n ys
partition_permutation n xs ys h p =
    record {
      some = in_all (λ b. not_empty b ≡ true) ys (λ b i. all_in (λ b. not_empty b ≡ true) xs p.some b (in_permutation xs ys h b i));
      within = λ b i. p.within b (in_permutation xs ys h b i);
      once = λ i l u. holders_permutation xs ys h i ∙ p.once i l u;
    }

at_most_later : (t : Bool) (n : ℕ) → cond t (suc n) n ≤ 1 → n ≤ 1
at_most_later true n l = omega arith
at_most_later false n l = l

distinct_if : (blocks : List (List ℕ)) → AllByRecursion (λ b. not_empty b ≡ true) blocks → ((b : List ℕ) → In b blocks → holders blocks (least_of b) ≤ 1) → Distinct blocks
distinct_if [] s f = tt
distinct_if (c ∷ cs) s f = (
  in_all (Apart c) cs (λ b i e.
      let two : 1 ≤ holders cs (least_of c) = subst (λ k. 1 ≤ holders cs k) (sym e) (held cs b (least_of b) i (has_least b (all_in (λ b. not_empty b ≡ true) cs s.1 b i))) in
      let most : suc (holders cs (least_of c)) ≤ 1 = subst (λ t. cond t (suc (holders cs (least_of c))) (holders cs (least_of c)) ≤ 1) (has_least c s.0) (f c (inl refl)) in
      omega arith),
  distinct_if cs s.1 (λ b i. at_most_later (has c (least_of b)) (holders cs (least_of b)) (f b (inr i))),
)

pub distinct_of : (n : ℕ) (blocks : List (List ℕ)) → IsPartition n blocks → Distinct blocks
distinct_of n blocks p =
    distinct_if blocks p.some (λ b i.
    let r = p.within b i (least_of b) (has_least b (all_in (λ b. not_empty b ≡ true) blocks p.some b i)) in
    let o : holders blocks (least_of b) ≡ 1 = p.once (least_of b) r.0 r.1 in omega arith)

-- ---- a legal plan, in parts

pub legal_partition : (list : List Op) (plan : List (List ℕ)) → is_legal list plan ≡ true → IsPartition (length list) plan × Pairs (LegalPair plan) (numbered list)
legal_partition list plan e =
    let a = and_parts (list_all (block_test (length list)) plan) _ e in
    let b = and_parts (list_all (λ (x : ℕ × Op). holders plan x.0 == 1) (numbered list)) (all_pairs (pair_legal plan) (numbered list)) a.1 in (
      partition_of list plan a.0 b.0,
      Pairs_weaker (λ x y. pair_legal plan x y ≡ true) (LegalPair plan) (λ x y h. test_lawful (fusible x.1 y.1) (dep x.1 y.1) (place plan x.0) (place plan y.0) h) (numbered list) (pairs_of (pair_legal plan) (numbered list) b.1),
    )

pub legal_from : (list : List Op) (plan : List (List ℕ)) → IsPartition (length list) plan → Pairs (LegalPair plan) (numbered list) → is_legal list plan ≡ true
legal_from list plan p h =
    ap₂ (λ s t. s && t) (partition_blocks list plan p)
    (ap₂ (λ s t. s && t)
    (test_all (λ (x : ℕ × Op). holders plan x.0 == 1) (numbered list) (All_weaker (λ (x : ℕ × Op). holders plan x.0 ≡ 1) (λ (x : ℕ × Op). (holders plan x.0 == 1) ≡ true) (λ x e. eq-eqb (holders plan x.0) 1 e) (numbered list) (partition_once list plan p)))
    (pairs_test (pair_legal plan) (numbered list) (Pairs_weaker (LegalPair plan) (λ x y. pair_legal plan x y ≡ true) (λ x y k. lawful_test (fusible x.1 y.1) (dep x.1 y.1) (place plan x.0) (place plan y.0) k) (numbered list) h)))
