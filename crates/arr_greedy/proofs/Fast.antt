-- The fast body chooses the pair that greedy chooses, and what it keeps stays right.
use Rattle.std.proofs.Common.{◌≡◌, ℕ, ◌<◌, zero, suc, List, [], ◌∷◌, ◌++◌, Bool, true, false, cond, not, ◌||◌, ◌&&◌, refl, ap, ap₂, sym, subst, ◌∙◌, arith, length, ◌⊎◌, inl, inr, Option, Some, None, map}
use Rattle.std.proofs.lemmas.Bool.{false≢true, eq-eqb, ne_eqb, eqb-true, and_parts, or_cases, or_left, or_right, and_from}
use Rattle.std.specs.Prelude.{◌==◌, nat_lt, is_some}
use Rattle.std.specs.List.{list_any, filter}
use Rattle.std.specs.Option.{option_map}
use Rattle.arr_view.specs.Views.{has}
use Rattle.arr_ops.specs.declared.op.Op.{Op}
use Rattle.arr_ops.specs.Ops.{fusible}
use Rattle.arr_ops.specs.Formed.{all_pairs}
use Rattle.arr_ops.specs.Plans.{numbered, ops_of}
use Rattle.arr_ops.specs.Order.{least_of, same_block, is_orderable}
use Rattle.arr_ops.proofs.Pairs.{Pairs, Pairs_weaker, Pairs_both}
use Rattle.arr_ops.proofs.Tests.{any_map}
use Rattle.arr_heur.specs.Planners.{numbers, union, merge, pairs, saving, heaviest, mergeable, greedy_within}
use Rattle.arr_ops.specs.Order.{In}
use Rattle.arr_greedy.specs.Ways.{lies_between, reach_after}
use Rattle.arr_greedy.specs.Reach.{TellsReach}
use Rattle.arr_greedy.specs.Fast.{block_at, may_merge, next_pair, fuses_after}
use Rattle.arr_ops.proofs.Members.{all_in, in_all, in_filter, in_append, Apart, Distinct}
use Rattle.arr_ops.proofs.Legality.{IsPartition, Share, fusible_parts, fusible_whole, distinct_of}
use Rattle.arr_heur.proofs.Merge.{in_map, has_filter, union_has, merge_partition}
use Rattle.arr_heur.proofs.Merged.{heaviest_in}
use Rattle.arr_greedy.proofs.BlockMerges.{merges_good, reach_good, joined, after_in}

-- ---- the pair that is chosen

filter_same : {X : Type 0} (s t : X → Bool) (xs : List X) → ((x : X) → In x xs → s x ≡ t x) → filter s xs ≡ filter t xs
filter_same s t [] h = refl
filter_same s t (x ∷ xs) h = ap₂ (λ b l. cond b (x ∷ l) l) (h x (inl refl)) (filter_same s t xs (λ y i. h y (inr i)))

heaviest_same : {X : Type 0} (v w : X → ℕ) (xs : List X) → ((x : X) → In x xs → v x ≡ w x) → heaviest v xs ≡ heaviest w xs
heaviest_same v w [] h = refl
heaviest_same {X} v w (x ∷ xs) h =
    ap (λ (o : Option X). elim o as (λ _. Option X) [ None ↦ Some x | Some y ↦ cond (nat_lt (v x) (v y)) (Some y) (Some x) ]) (heaviest_same v w xs (λ y i. h y (inr i)))
    ∙ at (heaviest w xs) refl
  where
    at : (o : Option X) → heaviest w xs ≡ o → elim o as (λ _. Option X) [ None ↦ Some x | Some y ↦ cond (nat_lt (v x) (v y)) (Some y) (Some x) ] ≡ elim o as (λ _. Option X) [ None ↦ Some x | Some y ↦ cond (nat_lt (w x) (w y)) (Some y) (Some x) ]
    at None e = refl
    at (Some y) e = ap₂ (λ m n. cond (nat_lt m n) (Some y) (Some x)) (h x (inl refl)) (h y (inr (heaviest_in w xs y e)))

heaviest_map : {X Y : Type 0} (f : X → Y) (w : Y → ℕ) (xs : List X) → heaviest w (map f xs) ≡ option_map f (heaviest (λ x. w (f x)) xs)
heaviest_map f w [] = refl
heaviest_map {X} {Y} f w (x ∷ xs) =
    ap (λ (o : Option Y). elim o as (λ _. Option Y) [ None ↦ Some (f x) | Some y ↦ cond (nat_lt (w (f x)) (w y)) (Some y) (Some (f x)) ]) (heaviest_map f w xs)
    ∙ at (heaviest (λ x. w (f x)) xs)
  where
    side : (t : Bool) (y : X) → cond t (Some (f y)) (Some (f x)) ≡ option_map f (cond t (Some y) (Some x))
    side true y = refl
    side false y = refl

    at : (o : Option X) → elim (option_map f o) as (λ _. Option Y) [ None ↦ Some (f x) | Some y ↦ cond (nat_lt (w (f x)) (w y)) (Some y) (Some (f x)) ]
        ≡ option_map f (elim o as (λ _. Option X) [ None ↦ Some x | Some y ↦ cond (nat_lt (w (f x)) (w (f y))) (Some y) (Some x) ])
    at None = refl
    at (Some y) = side (nat_lt (w (f x)) (w (f y))) y

filter_map_comm : {X Y : Type 0} (f : X → Y) (t : Y → Bool) (xs : List X) → filter t (map f xs) ≡ map f (filter (λ x. t (f x)) xs)
filter_map_comm f t [] = refl
filter_map_comm f t (x ∷ xs) =
    ap (λ l. cond (t (f x)) (f x ∷ l) l) (filter_map_comm f t xs) ∙ side (t (f x))
  where
    side : (b : Bool) → cond b (f x ∷ map f (filter (λ x. t (f x)) xs)) (map f (filter (λ x. t (f x)) xs)) ≡ map f (cond b (x ∷ filter (λ x. t (f x)) xs) (filter (λ x. t (f x)) xs))
    side true = refl
    side false = refl

map_append : {X Y : Type 0} (f : X → Y) (xs ys : List X) → map f (xs ++ ys) ≡ map f xs ++ map f ys
map_append f [] ys = refl
map_append f (x ∷ xs) ys = ap (λ l. f x ∷ l) (map_append f xs ys)

abbrev both_of : {X Y : Type 0} → (X → Y) → X × X → Y × Y
both_of f p = (f p.0, f p.1)

pairs_map : {X Y : Type 0} (f : X → Y) (xs : List X) → pairs (map f xs) ≡ map (both_of f) (pairs xs)
pairs_map f [] = refl
pairs_map {X} {Y} f (x ∷ xs) =
    ap₂ (λ l r. l ++ r) (heads xs) (pairs_map f xs) ∙ sym (map_append (both_of f) (map (pair_with x) xs) (pairs xs))
  where
    pair_with : X → X → X × X
    pair_with a b = (a, b)

    pair_at : Y → Y → Y × Y
    pair_at a b = (a, b)

    heads : (ys : List X) → map (λ b. pair_at (f x) b) (map f ys) ≡ map (both_of f) (map (pair_with x) ys)
    heads [] = refl
    heads (y ∷ ys) = ap (λ l. (f x, f y) ∷ l) (heads ys)

-- ---- what is kept of a partition, by least numbers

abbrev pub one_block : List Op → List ℕ → Bool
one_block list block = all_pairs fusible (ops_of (numbered list) block)

pub record Kept (list : List Op) (blocks : List (List ℕ)) (fuses reaches : ℕ → ℕ → Bool) : Type 0 where
  pub partition : IsPartition (length list) blocks
  pub orderable : is_orderable list blocks ≡ true
  pub rising : Pairs (λ a b. least_of a < least_of b) blocks
  pub fused : (a b : List ℕ) → In a blocks → In b blocks → Apart a b → fuses (least_of a) (least_of b) ≡ one_block list (union (numbered list) a b)
  pub reached : TellsReach list blocks (λ a b. reaches (least_of a) (least_of b))

-- the savings of those that may be merged
abbrev pub Saves : List Op → List (List ℕ) → (ℕ → ℕ → Bool) → (ℕ → ℕ → Bool) → (ℕ → ℕ → ℕ) → Type 0
Saves list blocks fuses reaches saved =
    (p : ℕ × ℕ) → In p (pairs (map least_of blocks)) → may_merge fuses reaches (map least_of blocks) p ≡ true → saved p.0 p.1 ≡ saving list (block_at p.0 blocks, block_at p.1 blocks)

pub block_found : (blocks : List (List ℕ)) → Distinct blocks → (b : List ℕ) → In b blocks → (k : ℕ) → least_of b ≡ k → block_at k blocks ≡ b
block_found [] d b i k e = absurd i
block_found (c ∷ cs) d b (inl f) k e = ap (λ t. cond t c (block_at k cs)) (eq-eqb (least_of c) k (ap least_of (sym f) ∙ e)) ∙ sym f
block_found (c ∷ cs) d b (inr i) k e =
    ap (λ t. cond t c (block_at k cs)) (ne_eqb (least_of c) k (λ f. all_in (Apart c) cs d.0 b i (f ∙ sym e))) ∙ block_found cs d.1 b i k e

pub map_in : {X Y : Type 0} (f : X → Y) (xs : List X) (x : X) → In x xs → In (f x) (map f xs)
map_in f [] x i = absurd i
map_in f (y ∷ ys) x (inl e) = inl (ap f e)
map_in f (y ∷ ys) x (inr i) = inr (map_in f ys x i)

rising_pair : (blocks : List (List ℕ)) → Pairs (λ a b. least_of a < least_of b) blocks → (p : List ℕ × List ℕ) → In p (pairs blocks) → In p.0 blocks × In p.1 blocks × (least_of p.0 < least_of p.1)
rising_pair [] d p i = absurd i
rising_pair (a ∷ bs) d p i =
    elim (in_append (map (λ b. pair a b) bs) (pairs bs) p i) as (λ _. In p.0 (a ∷ bs) × In p.1 (a ∷ bs) × (least_of p.0 < least_of p.1)) [
      | inl j ↦
          let r = in_map (λ b. pair a b) bs p j in
          let u : p.0 ≡ a = ap (λ (q : List ℕ × List ℕ). q.0) r.2 in
          let v : p.1 ≡ r.0 = ap (λ (q : List ℕ × List ℕ). q.1) r.2 in
          let l : least_of a < least_of r.0 = all_in (λ b. least_of a < least_of b) bs d.0 r.0 r.1 in
          (inl u, inr (subst (λ c. In c bs) (sym v) r.1), subst (λ c. least_of c < least_of p.1) (sym u) (subst (λ c. least_of a < least_of c) (sym v) l))
      | inr j ↦ let r = rising_pair bs d.1 p j in (inr r.0, inr r.1, r.2)
    ]
  where
    pair : List ℕ → List ℕ → List ℕ × List ℕ
    pair a b = (a, b)

may_is : (list : List Op) (blocks : List (List ℕ)) (fuses reaches : ℕ → ℕ → Bool) → Kept list blocks fuses reaches → (p : List ℕ × List ℕ) → In p (pairs blocks)
    → may_merge fuses reaches (map least_of blocks) (least_of p.0, least_of p.1) ≡ is_orderable list (merge (numbered list) p.0 p.1 blocks)
may_is list blocks fuses reaches k p i =
    let r = rising_pair blocks k.rising p i in
    let l : least_of p.0 < least_of p.1 = r.2 in
    ap₂ (λ s t. s && not t) (k.fused p.0 p.1 r.0 r.1 (λ e. absurd (omega arith))) (any_map least_of (lies_between (λ k. k) reaches (least_of p.0) (least_of p.1)) blocks)
    ∙ sym (merges_good list blocks (λ a b. reaches (least_of a) (least_of b)) p.0 p.1 k.partition k.orderable k.reached r.0 r.1 l)

pub chosen : (list : List Op) (blocks : List (List ℕ)) (fuses reaches : ℕ → ℕ → Bool) (saved : ℕ → ℕ → ℕ) → Kept list blocks fuses reaches → Saves list blocks fuses reaches saved
    → next_pair fuses reaches saved (map least_of blocks) ≡ option_map (both_of least_of) (heaviest (saving list) (mergeable list blocks))
chosen list blocks fuses reaches saved k saves =
    let keys : List ℕ = map least_of blocks in
    let d : Distinct blocks = distinct_of (length list) blocks k.partition in
    ap (λ l. heaviest (λ p. saved p.0 p.1) (filter (may_merge fuses reaches keys) l)) (pairs_map least_of blocks)
    ∙ ap (heaviest (λ p. saved p.0 p.1)) (filter_map_comm (both_of least_of) (may_merge fuses reaches keys) (pairs blocks))
    ∙ heaviest_map (both_of least_of) (λ p. saved p.0 p.1) (filter (λ p. may_merge fuses reaches keys (both_of least_of p)) (pairs blocks))
    ∙ ap (λ l. option_map (both_of least_of) (heaviest (λ p. saved (least_of p.0) (least_of p.1)) l))
    (filter_same (λ p. may_merge fuses reaches keys (both_of least_of p)) (λ (p : List ℕ × List ℕ). is_orderable list (merge (numbered list) p.0 p.1 blocks)) (pairs blocks) (may_is list blocks fuses reaches k))
    ∙ ap (option_map (both_of least_of)) (heaviest_same (λ p. saved (least_of p.0) (least_of p.1)) (saving list) (mergeable list blocks) (λ p i.
    let q = in_filter (λ (p : List ℕ × List ℕ). is_orderable list (merge (numbered list) p.0 p.1 blocks)) (pairs blocks) p i in
    let r = rising_pair blocks k.rising p q.0 in
    saves (both_of least_of p) (subst (In (both_of least_of p)) (sym (pairs_map least_of blocks)) (map_in (both_of least_of) (pairs blocks) p q.0)) (may_is list blocks fuses reaches k p q.0 ∙ q.1)
    ∙ ap₂ (λ a b. saving list (a, b)) (block_found blocks d p.0 r.0 (least_of p.0) refl) (block_found blocks d p.1 r.1 (least_of p.1) refl)))

-- ---- after a merge

in_union : (xs : List (ℕ × Op)) (a b : List ℕ) (i : ℕ) → has (numbers xs) i ≡ true → (has a i ≡ true) ⊎ (has b i ≡ true) → has (union xs a b) i ≡ true
in_union xs a b i e h =
    has_filter (λ i. has a i || has b i) (numbers xs) i
    ∙ and_from (has a i || has b i) (has (numbers xs) i) (elim h as (λ _. (has a i || has b i) ≡ true) [ inl f ↦ or_left (has a i) (has b i) f | inr f ↦ or_right (has a i) (has b i) f ]) e

union_number : (xs : List (ℕ × Op)) (a b : List ℕ) (i : ℕ) → has (union xs a b) i ≡ true → has (numbers xs) i ≡ true
union_number xs a b i e = (and_parts (has a i || has b i) (has (numbers xs) i) (sym (has_filter (λ i. has a i || has b i) (numbers xs) i) ∙ e)).1

in_three : (xs : List (ℕ × Op)) (a b d : List ℕ) (i : ℕ) → has (union xs (union xs a b) d) i ≡ true → (has a i ≡ true) ⊎ ((has b i ≡ true) ⊎ (has d i ≡ true))
in_three xs a b d i e =
    elim (or_cases (has (union xs a b) i) (has d i) (union_has xs (union xs a b) d i e)) as (λ _. (has a i ≡ true) ⊎ ((has b i ≡ true) ⊎ (has d i ≡ true))) [
      | inl f ↦ elim (or_cases (has a i) (has b i) (union_has xs a b i f)) as (λ _. (has a i ≡ true) ⊎ ((has b i ≡ true) ⊎ (has d i ≡ true))) [ inl g ↦ inl g | inr g ↦ inr (inl g) ]
      | inr f ↦ inr (inr f)
    ]

same_bool : (s t : Bool) → (s ≡ true → t ≡ true) → (t ≡ true → s ≡ true) → s ≡ t
same_bool true true f g = refl
same_bool true false f g = absurd (false≢true (f refl))
same_bool false true f g = absurd (false≢true (g refl))
same_bool false false f g = refl

share_less : (xs : List (ℕ × Op)) (c d : List ℕ) → ((i : ℕ) → has c i ≡ true → has d i ≡ true) → Pairs (Share d) xs → Pairs (Share c) xs
share_less xs c d f h = Pairs_weaker (Share d) (Share c) (λ x y k s t. k (f x.0 s) (f y.0 t)) xs h

pub fuse_three : (list : List Op) (a b d : List ℕ) → one_block list (union (numbered list) a b) ≡ true
    → (one_block list (union (numbered list) a d) && one_block list (union (numbered list) b d)) ≡ one_block list (union (numbered list) (union (numbered list) a b) d)
fuse_three list a b d e =
    let xs : List (ℕ × Op) = numbered list in
    let u : List ℕ = union xs a b in
    same_bool (one_block list (union xs a d) && one_block list (union xs b d)) (one_block list (union xs u d))
    (λ h.
    let p = and_parts (one_block list (union xs a d)) (one_block list (union xs b d)) h in
    fusible_whole (union xs u d) xs
    (Pairs_weaker (λ x y. Share u x y × (Share (union xs a d) x y × Share (union xs b d) x y)) (Share (union xs u d))
    (λ x y k s t. three x y k (union_number xs u d x.0 s) (union_number xs u d y.0 t) (in_three xs a b d x.0 s) (in_three xs a b d y.0 t)) xs
    (Pairs_both (Share u) (λ x y. Share (union xs a d) x y × Share (union xs b d) x y) xs (fusible_parts u xs e)
    (Pairs_both (Share (union xs a d)) (Share (union xs b d)) xs (fusible_parts (union xs a d) xs p.0) (fusible_parts (union xs b d) xs p.1)))))
    (λ h.
    let all : Pairs (Share (union xs u d)) xs = fusible_parts (union xs u d) xs h in
    and_from (one_block list (union xs a d)) (one_block list (union xs b d))
    (fusible_whole (union xs a d) xs (share_less xs (union xs a d) (union xs u d) (λ i f.
    in_union xs u d i (union_number xs a d i f) (elim (or_cases (has a i) (has d i) (union_has xs a d i f)) as (λ _. (has u i ≡ true) ⊎ (has d i ≡ true)) [ inl g ↦ inl (in_union xs a b i (union_number xs a d i f) (inl g)) | inr g ↦ inr g ])) all))
    (fusible_whole (union xs b d) xs (share_less xs (union xs b d) (union xs u d) (λ i f.
    in_union xs u d i (union_number xs b d i f) (elim (or_cases (has b i) (has d i) (union_has xs b d i f)) as (λ _. (has u i ≡ true) ⊎ (has d i ≡ true)) [ inl g ↦ inl (in_union xs a b i (union_number xs b d i f) (inr g)) | inr g ↦ inr g ])) all)))
  where
    three : (x y : ℕ × Op) → Share (union (numbered list) a b) x y × (Share (union (numbered list) a d) x y × Share (union (numbered list) b d) x y)
        → has (numbers (numbered list)) x.0 ≡ true → has (numbers (numbered list)) y.0 ≡ true
        → (has a x.0 ≡ true) ⊎ ((has b x.0 ≡ true) ⊎ (has d x.0 ≡ true)) → (has a y.0 ≡ true) ⊎ ((has b y.0 ≡ true) ⊎ (has d y.0 ≡ true)) → fusible x.1 y.1 ≡ true
    three x y k m n (inl s) (inl t) = k.0 (in_union (numbered list) a b x.0 m (inl s)) (in_union (numbered list) a b y.0 n (inl t))
    three x y k m n (inl s) (inr (inl t)) = k.0 (in_union (numbered list) a b x.0 m (inl s)) (in_union (numbered list) a b y.0 n (inr t))
    three x y k m n (inr (inl s)) (inl t) = k.0 (in_union (numbered list) a b x.0 m (inr s)) (in_union (numbered list) a b y.0 n (inl t))
    three x y k m n (inr (inl s)) (inr (inl t)) = k.0 (in_union (numbered list) a b x.0 m (inr s)) (in_union (numbered list) a b y.0 n (inr t))
    three x y k m n (inl s) (inr (inr t)) = k.1.0 (in_union (numbered list) a d x.0 m (inl s)) (in_union (numbered list) a d y.0 n (inr t))
    three x y k m n (inr (inr s)) (inl t) = k.1.0 (in_union (numbered list) a d x.0 m (inr s)) (in_union (numbered list) a d y.0 n (inl t))
    three x y k m n (inr (inr s)) (inr (inr t)) = k.1.0 (in_union (numbered list) a d x.0 m (inr s)) (in_union (numbered list) a d y.0 n (inr t))
    three x y k m n (inr (inl s)) (inr (inr t)) = k.1.1 (in_union (numbered list) b d x.0 m (inl s)) (in_union (numbered list) b d y.0 n (inr t))
    three x y k m n (inr (inr s)) (inr (inl t)) = k.1.1 (in_union (numbered list) b d x.0 m (inr s)) (in_union (numbered list) b d y.0 n (inl t))

union_turned : (xs : List (ℕ × Op)) (a b : List ℕ) → union xs a b ≡ union xs b a
union_turned xs a b = filter_same (λ i. has a i || has b i) (λ i. has b i || has a i) (numbers xs) (λ i m. swap (has a i) (has b i))
  where
    swap : (s t : Bool) → (s || t) ≡ (t || s)
    swap true true = refl
    swap true false = refl
    swap false true = refl
    swap false false = refl

pairs_filter : {X : Type 0} (R : X → X → Type 0) (p : X → Bool) (xs : List X) → Pairs R xs → Pairs R (filter p xs)
pairs_filter R p [] h = tt
pairs_filter R p (x ∷ xs) h =
    elim (p x) as (λ t. Pairs R (cond t (x ∷ filter p xs) (filter p xs))) [
      | true ↦ (in_all (R x) (filter p xs) (λ y i. all_in (R x) xs h.0 y (in_filter p xs y i).0), pairs_filter R p xs h.1)
      | false ↦ pairs_filter R p xs h.1
    ]

below_map : (f : List ℕ → List ℕ) (blocks : List (List ℕ)) → ((c : List ℕ) → least_of (f c) ≡ least_of c) → Pairs (λ a b. least_of a < least_of b) blocks → Pairs (λ a b. least_of a < least_of b) (map f blocks)
below_map f [] h r = tt
below_map f (c ∷ cs) h r = (
  in_all (λ b. least_of (f c) < least_of b) (map f cs) (λ b i.
      let m = in_map f cs b i in
      let e : least_of b ≡ least_of m.0 = ap least_of m.2 ∙ h m.0 in
      let g : least_of (f c) ≡ least_of c = h c in
      let l : least_of c < least_of m.0 = all_in (λ b. least_of c < least_of b) cs r.0 m.0 m.1 in
      omega arith),
  below_map f cs h r.1,
)

pub kept_after : (list : List Op) (blocks : List (List ℕ)) (fuses reaches : ℕ → ℕ → Bool) → Kept list blocks fuses reaches → (a b : List ℕ) → In a blocks → In b blocks → least_of a < least_of b
    → is_orderable list (merge (numbered list) a b blocks) ≡ true
    → Kept list (merge (numbered list) a b blocks) (fuses_after fuses (least_of a) (least_of b)) (reach_after (λ k. k) reaches (least_of a) (least_of b))
kept_after list blocks fuses reaches k a b m n l e =
    let xs : List (ℕ × Op) = numbered list in
    let u : List ℕ = union xs a b in
    let apart : Apart a b = λ f. absurd (omega arith) in
    let j = joined list blocks a b k.partition m n l in
    let same : least_of u ≡ least_of a = j.same_key in
    let d = distinct_of (length list) blocks k.partition in
    let both : one_block list u ≡ true =
    (and_parts (one_block list u) (not (list_any (lies_between least_of (λ a b. reaches (least_of a) (least_of b)) a b) blocks))
    (sym (merges_good list blocks (λ a b. reaches (least_of a) (least_of b)) a b k.partition k.orderable k.reached m n l) ∙ e)).0 in
    record {
      partition = merge_partition list a b blocks k.partition m n apart;
      orderable = e;
      rising = below_map (λ c. cond (same_block c a) u c) (filter (λ c. not (same_block c b)) blocks)
          (λ c. named (same_block c a) u c (λ f. same ∙ sym (eqb-true (least_of c) (least_of a) f)) refl)
          (pairs_filter (λ a b. least_of a < least_of b) (λ c. not (same_block c b)) blocks k.rising);
      fused = λ c g i h ne. fused_at both same (after_in xs blocks a b d m n apart c i) (after_in xs blocks a b d m n apart g h) ne;
      reached = reach_good list blocks (λ a b. reaches (least_of a) (least_of b)) a b k.partition k.orderable k.reached m n l e;
    }
  where
    named : (t : Bool) (u c : List ℕ) → (t ≡ true → least_of u ≡ least_of c) → t ≡ t → least_of (cond t u c) ≡ least_of c
    named true u c h r = h refl
    named false u c h r = refl

    Was : List ℕ → Type 0
    Was c = In c blocks × (least_of c ≡ least_of a → ⊥) × (least_of c ≡ least_of b → ⊥)

    first_row : (y : ℕ) → (y ≡ least_of a → ⊥) → fuses_after fuses (least_of a) (least_of b) (least_of a) y ≡ (fuses (least_of a) y && fuses (least_of b) y)
    first_row y h = ap (λ t. cond t (fuses (least_of a) y && fuses (least_of b) y) (cond (y == least_of a) (fuses (least_of a) (least_of a) && fuses (least_of a) (least_of b)) (fuses (least_of a) y))) (eq-eqb (least_of a) (least_of a) refl)

    first_column : (x : ℕ) → (x ≡ least_of a → ⊥) → fuses_after fuses (least_of a) (least_of b) x (least_of a) ≡ (fuses x (least_of a) && fuses x (least_of b))
    first_column x h = ap₂ (λ s t. cond s (fuses (least_of a) (least_of a) && fuses (least_of b) (least_of a)) (cond t (fuses x (least_of a) && fuses x (least_of b)) (fuses x (least_of a)))) (ne_eqb x (least_of a) h) (eq-eqb (least_of a) (least_of a) refl)

    elsewhere : (x y : ℕ) → (x ≡ least_of a → ⊥) → (y ≡ least_of a → ⊥) → fuses_after fuses (least_of a) (least_of b) x y ≡ fuses x y
    elsewhere x y h g = ap₂ (λ s t. cond s (fuses (least_of a) y && fuses (least_of b) y) (cond t (fuses x (least_of a) && fuses x (least_of b)) (fuses x y))) (ne_eqb x (least_of a) h) (ne_eqb y (least_of a) g)

    fused_at : one_block list (union (numbered list) a b) ≡ true → least_of (union (numbered list) a b) ≡ least_of a → {c g : List ℕ}
        → (c ≡ union (numbered list) a b) ⊎ (In c blocks × (least_of c ≡ least_of a → ⊥) × (least_of c ≡ least_of b → ⊥)) → (g ≡ union (numbered list) a b) ⊎ (In g blocks × (least_of g ≡ least_of a → ⊥) × (least_of g ≡ least_of b → ⊥)) → Apart c g
        → fuses_after fuses (least_of a) (least_of b) (least_of c) (least_of g) ≡ one_block list (union (numbered list) c g)
    fused_at both same (inl f) (inl h) ne = absurd (ne (ap least_of f ∙ sym (ap least_of h)))
    fused_at both same {c} {g} (inl f) (inr h) ne =
        ap (λ x. fuses_after fuses (least_of a) (least_of b) x (least_of g)) (ap least_of f ∙ same) ∙ first_row (least_of g) h.1
        ∙ ap₂ (λ s t. s && t) (k.fused a g m h.0 (λ q. h.1 (sym q))) (k.fused b g n h.0 (λ q. h.2 (sym q)))
        ∙ fuse_three list a b g both ∙ ap (λ v. one_block list (union (numbered list) v g)) (sym f)
    fused_at both same {c} {g} (inr f) (inl h) ne =
        ap (λ y. fuses_after fuses (least_of a) (least_of b) (least_of c) y) (ap least_of h ∙ same) ∙ first_column (least_of c) f.1
        ∙ ap₂ (λ s t. s && t) (k.fused c a f.0 m f.1 ∙ ap (one_block list) (union_turned (numbered list) c a)) (k.fused c b f.0 n f.2 ∙ ap (one_block list) (union_turned (numbered list) c b))
        ∙ fuse_three list a b c both ∙ ap (one_block list) (union_turned (numbered list) (union (numbered list) a b) c ∙ ap (union (numbered list) c) (sym h))
    fused_at both same {c} {g} (inr f) (inr h) ne = elsewhere (least_of c) (least_of g) f.1 h.1 ∙ k.fused c g f.0 h.0 ne

-- ---- one turn of greedy

pair_or : Option (ℕ × ℕ) → ℕ × ℕ
pair_or None = (0, 0)
pair_or (Some p) = p

pub record Turn (list : List Op) (blocks : List (List ℕ)) (x y : ℕ) : Type 0 where
  pub left : List ℕ
  pub right : List ℕ
  pub in_left : In left blocks
  pub in_right : In right blocks
  pub key_left : least_of left ≡ x
  pub key_right : least_of right ≡ y
  pub before : least_of left < least_of right
  pub orderable : is_orderable list (merge (numbered list) left right blocks) ≡ true
  pub goes_on : (n : ℕ) → greedy_within (suc n) list blocks ≡ greedy_within n list (merge (numbered list) left right blocks)

pub turn : (list : List Op) (blocks : List (List ℕ)) (fuses reaches : ℕ → ℕ → Bool) (saved : ℕ → ℕ → ℕ) → Kept list blocks fuses reaches → Saves list blocks fuses reaches saved
    → (x y : ℕ) → next_pair fuses reaches saved (map least_of blocks) ≡ Some (x, y) → Turn list blocks x y
unfolding pair_or
turn list blocks fuses reaches saved k saves x y e =
    elim (heaviest (saving list) (mergeable list blocks)) as (λ o. heaviest (saving list) (mergeable list blocks) ≡ o → option_map (both_of least_of) o ≡ Some (x, y) → Turn list blocks x y) [
      | None ↦ λ f g. absurd (false≢true (ap is_some g))
      | Some p ↦ λ f g.
          let q = in_filter (λ (p : List ℕ × List ℕ). is_orderable list (merge (numbered list) p.0 p.1 blocks)) (pairs blocks) p (heaviest_in (saving list) (mergeable list blocks) p f) in
          let r = rising_pair blocks k.rising p q.0 in
          let h : (least_of p.0, least_of p.1) ≡ (x, y) = ap pair_or g in
          record {
            left = p.0;
            right = p.1;
            in_left = r.0;
            in_right = r.1;
            key_left = ap (λ (s : ℕ × ℕ). s.0) h;
            key_right = ap (λ (s : ℕ × ℕ). s.1) h;
            before = r.2;
            orderable = q.1;
            goes_on = λ n. ap (λ o. elim o as (λ _. List (List ℕ)) [ None ↦ blocks | Some p ↦ greedy_within n list (merge (numbered list) p.0 p.1 blocks) ]) f;
          }
    ] refl (sym (chosen list blocks fuses reaches saved k saves) ∙ e)

pub no_turn : (list : List Op) (blocks : List (List ℕ)) (fuses reaches : ℕ → ℕ → Bool) (saved : ℕ → ℕ → ℕ) → Kept list blocks fuses reaches → Saves list blocks fuses reaches saved
    → next_pair fuses reaches saved (map least_of blocks) ≡ None → (n : ℕ) → greedy_within n list blocks ≡ blocks
no_turn list blocks fuses reaches saved k saves e zero = refl
no_turn list blocks fuses reaches saved k saves e (suc n) =
    elim (heaviest (saving list) (mergeable list blocks)) as (λ o. option_map (both_of least_of) o ≡ None → elim o as (λ _. List (List ℕ)) [ None ↦ blocks | Some p ↦ greedy_within n list (merge (numbered list) p.0 p.1 blocks) ] ≡ blocks) [
      | None ↦ λ g. refl
      | Some p ↦ λ g. absurd (false≢true (ap is_some (sym g)))
    ] (sym (chosen list blocks fuses reaches saved k saves) ∙ e)
