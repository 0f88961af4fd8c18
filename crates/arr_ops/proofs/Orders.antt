-- The order of a partition: a legal plan, found wherever there is one.
use Rattle.std.proofs.Common.{◌≡◌, ℕ, ◌≤◌, ◌<◌, suc, List, [], ◌∷◌, Bool, true, false, cond, ◌&&◌, refl, ap, ap₂, sym, ◌∙◌, arith, length, inl, inr, Some}
use Rattle.std.proofs.lemmas.Bool.{both_ways, and_parts}
use Rattle.std.specs.List.{list_all}
use Rattle.std.specs.List.Sorted.{IsPermutation}
use Rattle.std.proofs.lemmas.List.Sorted.{IsPermutation-sym}
use Rattle.arr_view.specs.Views.{has}
use Rattle.arr_ops.specs.declared.op.Op.{Op}
use Rattle.arr_ops.specs.Ops.{dep, fusible}
use Rattle.arr_ops.specs.Formed.{all_pairs}
use Rattle.arr_ops.specs.Plans.{numbered, holders, place, ops_of, not_empty, is_legal}
use Rattle.arr_ops.specs.Order.{In, least_of, each_fusible, ordered}
use Rattle.arr_ops.proofs.Pairs.{Pairs, Pairs_weaker, Pairs_All, Pairs_both}
use Rattle.arr_ops.proofs.Tests.{all_of, test_all}
use Rattle.arr_ops.specs.Laws.{OrdersAreLegal, OrdersAreFound}
use Rattle.arr_ops.proofs.Members.{all_in, in_all, in_permutation, held, has_least}
use Rattle.arr_ops.proofs.Ordering.{Forward, Ranked, ordered_sound, ordered_there}
use Rattle.arr_ops.proofs.Legality.{IsPartition, LegalPair, Share, Leading, leads_from, leads_to, fusible_parts, fusible_whole, forward_legal, partition_of, partition_blocks, partition_once, partition_permutation, distinct_of, legal_partition, legal_from, once_later, block_test}
use Rattle.std.proofs.lemmas.Bool.{eq-eqb}
use Rattle.std.specs.Prelude.{◌==◌}

-- ---- pairs with what a partition says of each of their numbers

pub pairs_shared : (xs : List (ℕ × Op)) (blocks : List (List ℕ)) → ((b : List ℕ) → In b blocks → Pairs (Share b) xs) → Pairs (λ x y. (b : List ℕ) → In b blocks → Share b x y) xs
pairs_shared [] blocks f = tt
pairs_shared (x ∷ xs) blocks f =
    (in_all (λ y. (b : List ℕ) → In b blocks → Share b x y) xs (λ y i b m. all_in (Share b x) xs (f b m).0 y i), pairs_shared xs blocks (λ b m. (f b m).1))

pub legal_order : (list : List Op) (blocks plan : List (List ℕ)) → IsPartition (length list) blocks → ((b : List ℕ) → In b blocks → Pairs (Share b) (numbered list))
    → IsPermutation blocks plan → Forward (numbered list) plan → is_legal list plan ≡ true
legal_order list blocks plan p share perm forward =
    let xs : List (ℕ × Op) = numbered list in
    let q = partition_permutation (length list) blocks plan perm p in
    legal_from list plan q
    (Pairs_All (λ (x : ℕ × Op). holders plan x.0 ≡ 1) (λ x y. Leading xs x y × ((b : List ℕ) → In b plan → Share b x y)) (LegalPair plan)
    (λ x y h k r. forward_legal xs x y plan r.1 r.0 forward h k) xs (partition_once list plan q)
    (Pairs_both (Leading xs) (λ x y. (b : List ℕ) → In b plan → Share b x y) xs (leads_from xs)
    (pairs_shared xs plan (λ b i. share b (in_permutation blocks plan perm b i)))))

pub each_parts : (list : List Op) (blocks : List (List ℕ)) → each_fusible list blocks ≡ true → (b : List ℕ) → In b blocks → Pairs (Share b) (numbered list)
each_parts list blocks e b i =
    fusible_parts b (numbered list) (all_in (λ b. all_pairs fusible (ops_of (numbered list) b) ≡ true) blocks (all_of (λ b. all_pairs fusible (ops_of (numbered list) b)) blocks e) b i)

pub each_whole : (list : List Op) (blocks : List (List ℕ)) → ((b : List ℕ) → In b blocks → Pairs (Share b) (numbered list)) → each_fusible list blocks ≡ true
each_whole list blocks f =
    test_all (λ b. all_pairs fusible (ops_of (numbered list) b)) blocks (in_all (λ b. all_pairs fusible (ops_of (numbered list) b) ≡ true) blocks (λ b i. fusible_whole b (numbered list) (f b i)))

pub order_legal : (list : List Op) (blocks plan : List (List ℕ)) → IsPartition (length list) blocks → each_fusible list blocks ≡ true → ordered list blocks ≡ Some plan
    → IsPermutation blocks plan × (is_legal list plan ≡ true)
order_legal list blocks plan p e o =
    let s = ordered_sound (length blocks) (numbered list) blocks plan refl (distinct_of (length list) blocks p) o in
    (s.0, legal_order list blocks plan p (each_parts list blocks e) s.0 s.1)

pub orders_legal : OrdersAreLegal
orders_legal list blocks plan p e o =
    let r = and_parts (list_all (block_test (length list)) blocks) _ p in
    order_legal list blocks plan (partition_of list blocks r.0 r.1) e o

-- ---- places

-- two of one block
place_same : (plan : List (List ℕ)) (b : List ℕ) (i j : ℕ) → In b plan → holders plan i ≡ 1 → holders plan j ≡ 1 → has b i ≡ true → has b j ≡ true → place plan i ≡ place plan j
place_same [] b i j m h k s t = absurd m
place_same (c ∷ cs) b i j (inl e) h k s t =
    ap₂ (λ p q. cond p 0 q) (ap (λ d. has d i) (sym e) ∙ s) refl ∙ sym (ap (λ p. cond p 0 (suc (place cs j))) (ap (λ d. has d j) (sym e) ∙ t))
place_same (c ∷ cs) b i j (inr m) h k s t =
    let out : (n : ℕ) → has b n ≡ true → cond (has c n) (suc (holders cs n)) (holders cs n) ≡ 1 → has c n ≡ false = λ n f g. none (has c n) (holders cs n) (held cs b n m f) g in
    ap (λ p. cond p 0 (suc (place cs i))) (out i s h) ∙ ap suc (place_same cs b i j m (once_later (has c i) (holders cs i) h (out i s h)) (once_later (has c j) (holders cs j) k (out j t k)) s t)
    ∙ sym (ap (λ p. cond p 0 (suc (place cs j))) (out j t k))
  where
    none : (t : Bool) (n : ℕ) → 1 ≤ n → cond t (suc n) n ≡ 1 → t ≡ false
    none true n l e = absurd (omega arith)
    none false n l e = refl

-- the block at a number's place
place_apart : (plan : List (List ℕ)) (a b : List ℕ) (i j : ℕ) → In a plan → In b plan → holders plan i ≡ 1 → holders plan j ≡ 1 → has a i ≡ true → has b j ≡ true
    → place plan i ≡ place plan j → a ≡ b
place_apart [] a b i j m n h k s t e = absurd m
place_apart (c ∷ cs) a b i j m n h k s t e =
    both (has c i) (has c j) refl refl e
    (λ m' n' u v w. place_apart cs a b i j m' n' (once_later (has c i) (holders cs i) h u) (once_later (has c j) (holders cs j) k v) s t w)
  where
    first : (d : List ℕ) (l : ℕ) → In d (c ∷ cs) → cond (has c l) (suc (holders cs l)) (holders cs l) ≡ 1 → has d l ≡ true → has c l ≡ true → d ≡ c
    first d l (inl f) o g u = f
    first d l (inr f) o g u =
        let v : suc (holders cs l) ≡ 1 = ap (λ p. cond p (suc (holders cs l)) (holders cs l)) (sym u) ∙ o in
        let w : 1 ≤ holders cs l = held cs d l f g in
        absurd (omega arith)

    later : (d : List ℕ) (l : ℕ) → In d (c ∷ cs) → has d l ≡ true → has c l ≡ false → In d cs
    later d l (inl f) g u = absurd (both_ways (has c l) u (ap (λ k. has k l) (sym f) ∙ g))
    later d l (inr f) g u = f

    both : (p q : Bool) → has c i ≡ p → has c j ≡ q → cond p 0 (suc (place cs i)) ≡ cond q 0 (suc (place cs j))
        → (In a cs → In b cs → has c i ≡ false → has c j ≡ false → place cs i ≡ place cs j → a ≡ b) → a ≡ b
    both true true u v w rec = first a i m h s u ∙ sym (first b j n k t v)
    both true false u v w rec = absurd (omega arith)
    both false true u v w rec = absurd (omega arith)
    both false false u v w rec = rec (later a i m s u) (later b j n t v) u v (omega arith)

-- ---- an order is found

abbrev pub place_of : List (List ℕ) → List ℕ → ℕ
place_of plan b = place plan (least_of b)

pub ranked_legal : (list : List Op) (plan : List (List ℕ)) → IsPartition (length list) plan → Pairs (LegalPair plan) (numbered list) → Ranked (place_of plan) (numbered list) plan
ranked_legal list plan p legal a b m n apart lead =
    leads_to (place_of plan a < place_of plan b) a b (numbered list) lead
    (Pairs_weaker (LegalPair plan) (λ (x y : ℕ × Op). has a x.0 ≡ true → has b y.0 ≡ true → dep x.1 y.1 ≡ true → place_of plan a < place_of plan b) (λ x y h s t d.
    let up : place plan x.0 ≤ place plan y.0 = h.1 d in
    let hx : holders plan x.0 ≡ 1 = one a x.0 m s in
    let hy : holders plan y.0 ≡ 1 = one b y.0 n t in
    let sa : place plan x.0 ≡ place_of plan a = place_same plan a x.0 (least_of a) m hx (one a (least_of a) m (full a m)) s (full a m) in
    let sb : place plan y.0 ≡ place_of plan b = place_same plan b y.0 (least_of b) n hy (one b (least_of b) n (full b n)) t (full b n) in
    let ne : place plan x.0 ≡ place plan y.0 → ⊥ = λ e. apart (ap least_of (place_apart plan a b x.0 y.0 m n hx hy s t e)) in
    omega arith) (numbered list) legal)
  where
    one : (c : List ℕ) (i : ℕ) → In c plan → has c i ≡ true → holders plan i ≡ 1
    one c i k h = let r = p.within c k i h in p.once i r.0 r.1

    full : (c : List ℕ) → In c plan → has c (least_of c) ≡ true
    full c k = has_least c (all_in (λ b. not_empty b ≡ true) plan p.some c k)

pub legal_share : (list : List Op) (plan : List (List ℕ)) → IsPartition (length list) plan → Pairs (LegalPair plan) (numbered list) → (b : List ℕ) → In b plan → Pairs (Share b) (numbered list)
legal_share list plan p legal b m =
    Pairs_weaker (LegalPair plan) (Share b) (λ x y h s t.
    let rx = p.within b m x.0 s in
    let ry = p.within b m y.0 t in
    h.0 (place_same plan b x.0 y.0 m (p.once x.0 rx.0 rx.1) (p.once y.0 ry.0 ry.1) s t)) (numbered list) legal

pub orders_found : OrdersAreFound
orders_found list blocks plan perm legal =
    let r = legal_partition list plan legal in
    let back = IsPermutation-sym blocks plan perm in
    let p = partition_permutation (length list) plan blocks back r.0 in
    let ranked = ranked_legal list plan r.0 r.1 in
    ap₂ (λ s t. s && t)
    (ap₂ (λ s t. s && t) (partition_blocks list blocks p) (test_all (λ (x : ℕ × Op). holders blocks x.0 == 1) (numbered list) (in_all (λ (x : ℕ × Op). (holders blocks x.0 == 1) ≡ true) (numbered list) (λ x i. eq-eqb (holders blocks x.0) 1 (all_in (λ (x : ℕ × Op). holders blocks x.0 ≡ 1) (numbered list) (partition_once list blocks p) x i)))))
    (ap₂ (λ s t. s && t)
    (each_whole list blocks (λ b i. legal_share list plan r.0 r.1 b (in_permutation plan blocks back b i)))
    (ordered_there (length blocks) (numbered list) blocks (place_of plan) refl (distinct_of (length list) blocks p)
    (λ a b m n. ranked a b (in_permutation plan blocks back a m) (in_permutation plan blocks back b n))))
