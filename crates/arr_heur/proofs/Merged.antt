-- The plan of `greedy` is legal.
use Rattle.std.proofs.Common.{◌≡◌, ℕ, ◌+◌, ◌≤◌, ◌<◌, zero, suc, List, [], ◌∷◌, Bool, true, false, cond, ◌||◌, ◌&&◌, refl, ap, ap₂, sym, subst, ◌∙◌, arith, length, inl, inr, Option, Some, None}
use Rattle.std.proofs.lemmas.Bool.{false≢true, ne_eqb, eqb-true, eqb-false, and_parts}
use Rattle.std.specs.Prelude.{◌==◌, nat_eq, nat_lt, is_some}
use Rattle.std.specs.List.{enumerate_from}
use Rattle.arr_view.specs.Views.{has}
use Rattle.arr_ops.specs.declared.op.Op.{Op}
use Rattle.arr_ops.specs.Ops.{dep}
use Rattle.arr_ops.specs.Plans.{numbered, holders, not_empty}
use Rattle.arr_ops.specs.Order.{least_of, leads, ordered, each_fusible, is_orderable}
use Rattle.arr_ops.proofs.Pairs.{Pairs, All_weaker, Pairs_weaker}
use Rattle.arr_heur.specs.Planners.{singles, merge, pairs, saving, heaviest, mergeable, greedy_within, greedy_blocks, greedy_plan, or_none}
use Rattle.arr_heur.specs.HeurLaws.{GreedyIsLegal}
use Rattle.arr_ops.specs.Order.{In}
use Rattle.arr_ops.proofs.Members.{all_in, in_all, in_filter}
use Rattle.arr_ops.proofs.Ordering.{ordered_there}
use Rattle.arr_ops.proofs.Legality.{IsPartition, distinct_of, Share, leads_to}
use Rattle.arr_heur.proofs.LinearPlan.{between_enumerated}
use Rattle.arr_ops.proofs.Orders.{order_legal, each_whole}
use Rattle.arr_heur.proofs.Merge.{in_map, merge_partition, in_pairs}

-- ---- one block an operation

pub rising : (k : ℕ) (list : List Op) → Pairs (λ (x y : ℕ × Op). x.0 < y.0) (enumerate_from k list)
rising k [] = tt
rising k (x ∷ xs) = (
  All_weaker (λ (y : ℕ × Op). ((k + 1) ≤ y.0) × (y.0 < (k + 1) + length xs)) (λ (y : ℕ × Op). k < y.0) (λ y h. let a : k + 1 ≤ y.0 = h.0 in omega arith) (enumerate_from (k + 1) xs) (between_enumerated (k + 1) xs),
  rising (k + 1) xs,
)

only : (i j : ℕ) → has (j ∷ []) i ≡ true → i ≡ j
only i j e = eqb-true i j (first (i == j) e)
  where
    first : (t : Bool) → (t || false) ≡ true → t ≡ true
    first true e = refl
    first false e = absurd (false≢true e)

singles_none : (k : ℕ) (list : List Op) (i : ℕ) → i < k → holders (singles (enumerate_from k list)) i ≡ 0
singles_none k [] i l = refl
singles_none k (x ∷ xs) i l =
    ap (λ t. cond (t || false) (suc (holders (singles (enumerate_from (k + 1) xs)) i)) (holders (singles (enumerate_from (k + 1) xs)) i)) (ne_eqb i k (λ e. absurd (omega arith)))
    ∙ singles_none (k + 1) xs i (omega arith)

singles_once : (k : ℕ) (list : List Op) (i : ℕ) → k ≤ i → i < k + length list → holders (singles (enumerate_from k list)) i ≡ 1
singles_once k [] i l u = absurd (omega arith)
singles_once k (x ∷ xs) i l u =
    elim (nat_eq i k) as (λ t. nat_eq i k ≡ t → cond (t || false) (suc (holders (singles (enumerate_from (k + 1) xs)) i)) (holders (singles (enumerate_from (k + 1) xs)) i) ≡ 1) [
      | true ↦ λ e. let f : i ≡ k = eqb-true i k e in ap suc (singles_none (k + 1) xs i (omega arith))
      | false ↦ λ e. let ne : i ≡ k → ⊥ = eqb-false i k e in singles_once (k + 1) xs i (omega arith) (omega arith)
    ] refl

pub in_singles : (xs : List (ℕ × Op)) (b : List ℕ) → In b (singles xs) → (x : ℕ × Op) × In x xs × (b ≡ x.0 ∷ [])
in_singles xs b i = in_map (λ (x : ℕ × Op). x.0 ∷ []) xs b i

pub singles_partition : (list : List Op) → IsPartition (length list) (singles (numbered list))
singles_partition list =
    record {
      some = in_all (λ b. not_empty b ≡ true) (singles (numbered list)) (λ b i. let r = in_singles (numbered list) b i in ap not_empty r.2);
      within = λ b m i h.
          let r = in_singles (numbered list) b m in
          let e : i ≡ r.0.0 = only i r.0.0 (ap (λ c. has c i) (sym r.2) ∙ h) in
          let s = all_in (λ (x : ℕ × Op). (1 ≤ x.0) × (x.0 < 1 + length list)) (numbered list) (between_enumerated 1 list) r.0 r.1 in
          let low : 1 ≤ r.0.0 = s.0 in
          let high : r.0.0 < 1 + length list = s.1 in
          (omega arith, omega arith);
      once = λ i l u. singles_once 1 list i (omega arith) (omega arith);
    }

pub singles_orderable : (list : List Op) → is_orderable list (singles (numbered list)) ≡ true
singles_orderable list =
    let xs : List (ℕ × Op) = numbered list in
    ap₂ (λ s t. s && t)
    (each_whole list (singles xs) (λ b i.
    let r = in_singles xs b i in
    Pairs_weaker (λ (x y : ℕ × Op). x.0 < y.0) (Share b) (λ x y l s t.
    let e : x.0 ≡ r.0.0 = only x.0 r.0.0 (ap (λ c. has c x.0) (sym r.2) ∙ s) in
    let f : y.0 ≡ r.0.0 = only y.0 r.0.0 (ap (λ c. has c y.0) (sym r.2) ∙ t) in
    absurd (omega arith)) xs (rising 1 list)))
    (ordered_there (length (singles xs)) xs (singles xs) least_of refl (distinct_of (length list) (singles xs) (singles_partition list)) (λ a b m n h e.
    let r = in_singles xs a m in
    let s = in_singles xs b n in
    leads_to (least_of a < least_of b) a b xs e
    (Pairs_weaker (λ (x y : ℕ × Op). x.0 < y.0) (λ (x y : ℕ × Op). has a x.0 ≡ true → has b y.0 ≡ true → dep x.1 y.1 ≡ true → least_of a < least_of b) (λ x y l u v d.
    let e : x.0 ≡ r.0.0 = only x.0 r.0.0 (ap (λ c. has c x.0) (sym r.2) ∙ u) in
    let f : y.0 ≡ s.0.0 = only y.0 s.0.0 (ap (λ c. has c y.0) (sym s.2) ∙ v) in
    let g : least_of a ≡ r.0.0 = ap least_of r.2 in
    let k : least_of b ≡ s.0.0 = ap least_of s.2 in
    omega arith) xs (rising 1 list))))

-- a block of one operation leads later ones
pub singles_rise : (list : List Op) (i j : ℕ) → leads (numbered list) (i ∷ []) (j ∷ []) ≡ true → i < j
singles_rise list i j e =
    leads_to (i < j) (i ∷ []) (j ∷ []) (numbered list) e
    (Pairs_weaker (λ (x y : ℕ × Op). x.0 < y.0) (λ (x y : ℕ × Op). has (i ∷ []) x.0 ≡ true → has (j ∷ []) y.0 ≡ true → dep x.1 y.1 ≡ true → i < j) (λ x y l u v d.
    let e : x.0 ≡ i = only x.0 i u in
    let f : y.0 ≡ j = only y.0 j v in
    omega arith) (numbered list) (rising 1 list))

-- ---- merges

pub heaviest_in : {X : Type 0} (w : X → ℕ) (xs : List X) (x : X) → heaviest w xs ≡ Some x → In x xs
heaviest_in {X} w [] x e = absurd (false≢true (ap is_some e))
heaviest_in {X} w (y ∷ ys) x e =
    elim (heaviest w ys) as (λ o. heaviest w ys ≡ o → elim o as (λ _. Option X) [ None ↦ Some y | Some z ↦ cond (nat_lt (w y) (w z)) (Some z) (Some y) ] ≡ Some x → In x (y ∷ ys)) [
      | None ↦ λ f g. inl (sym (ap (or y) g))
      | Some z ↦ λ f g. elim (nat_lt (w y) (w z)) as (λ t. cond t (Some z) (Some y) ≡ Some x → In x (y ∷ ys)) [
        | true ↦ λ h. inr (subst (λ k. In k ys) (ap (or y) h) (heaviest_in w ys z f))
        | false ↦ λ h. inl (sym (ap (or y) h))
      ] g
    ] refl e
  where
    or : X → Option X → X
    or d None = d
    or d (Some k) = k

pub record Good (list : List Op) (blocks : List (List ℕ)) : Type 0 where
  pub partition : IsPartition (length list) blocks
  pub orderable : is_orderable list blocks ≡ true

pub merged_good : (list : List Op) (blocks : List (List ℕ)) (p : List ℕ × List ℕ) → IsPartition (length list) blocks → In p (mergeable list blocks) → Good list (merge (numbered list) p.0 p.1 blocks)
merged_good list blocks p good i =
    let r = in_filter (λ (p : List ℕ × List ℕ). is_orderable list (merge (numbered list) p.0 p.1 blocks)) (pairs blocks) p i in
    let s = in_pairs blocks (distinct_of (length list) blocks good) p r.0 in
    record { partition = merge_partition list p.0 p.1 blocks good s.0 s.1 s.2; orderable = r.1 }

pub greedy_good : (n : ℕ) (list : List Op) (blocks : List (List ℕ)) → Good list blocks → Good list (greedy_within n list blocks)
greedy_good zero list blocks g = g
greedy_good (suc n) list blocks g =
    elim (heaviest (saving list) (mergeable list blocks)) as (λ o. heaviest (saving list) (mergeable list blocks) ≡ o
    → Good list (elim o as (λ _. List (List ℕ)) [ None ↦ blocks | Some p ↦ greedy_within n list (merge (numbered list) p.0 p.1 blocks) ])) [
      | None ↦ λ e. g
      | Some p ↦ λ e. greedy_good n list (merge (numbered list) p.0 p.1 blocks) (merged_good list blocks p g.partition (heaviest_in (saving list) (mergeable list blocks) p e))
    ] refl

pub greedy_blocks_good : (list : List Op) → Good list (greedy_blocks list)
greedy_blocks_good list = greedy_good (length list) list (singles (numbered list)) (record { partition = singles_partition list; orderable = singles_orderable list })

there : (o : Option (List (List ℕ))) → is_some o ≡ true → o ≡ Some (or_none o)
there None e = absurd (false≢true e)
there (Some p) e = refl

pub greedy_legal : GreedyIsLegal
greedy_legal list =
    let g = greedy_blocks_good list in
    let r = and_parts (each_fusible list (greedy_blocks list)) (is_some (ordered list (greedy_blocks list))) g.orderable in
    let o = there (ordered list (greedy_blocks list)) r.1 in
    let s = order_legal list (greedy_blocks list) (greedy_plan list) g.partition r.0 o in
    (o, s.0, s.1)
