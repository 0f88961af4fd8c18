-- The plan of `greedy` costs at most what one block an operation costs.
use Rattle.std.proofs.Common.{◌≡◌, ℕ, ◌+◌, ◌≤◌, ◌<◌, zero, suc, List, [], ◌∷◌, ◌++◌, cond, refl, ap, ap₂, sym, ◌∙◌, arith, length, Some, None}
use Rattle.std.specs.Prelude.{nat_eq}
use Rattle.std.specs.List.{AllByRecursion, sum_by}
use Rattle.std.specs.List.Sorted.{IsPermutation}
use Rattle.std.proofs.lemmas.List.Folds.{list_any-append}
use Rattle.std.proofs.lemmas.List.Sorted.{sum_by-IsPermutation}
use Rattle.std.proofs.lemmas.List.Sums.{sum_by-cons}
use Rattle.arr_view.specs.Views.{has}
use Rattle.arr_ops.specs.declared.op.Op.{Op}
use Rattle.arr_ops.specs.Costs.{block_cost, cost, ext, total, weight}
use Rattle.arr_ops.specs.Plans.{numbered, ops_of}
use Rattle.arr_ops.specs.Order.{In, is_orderable}
use Rattle.arr_ops.proofs.Members.{Apart, in_filter}
use Rattle.arr_ops.proofs.Merged.{merging_saves}
use Rattle.arr_ops.proofs.Pairs.{All_weaker}
use Rattle.arr_ops.proofs.Legality.{IsPartition, distinct_of}
use Rattle.arr_heur.specs.HeurLaws.{GreedySaves}
use Rattle.arr_heur.specs.Planners.{greedy_blocks, greedy_plan, greedy_within, heaviest, merge, mergeable, pairs, saving, singles, union}
use Rattle.arr_heur.proofs.LinearPlan.{between_enumerated}
use Rattle.arr_heur.proofs.Merge.{after_merge, before_merge, has_union, in_pairs, kept}
use Rattle.arr_heur.proofs.Merged.{Good, greedy_legal, heaviest_in, merged_good, singles_orderable, singles_partition}

-- ---- sums of permutations

total_sum : {X : Type 0} (w : X → ℕ) (xs : List X) → total w xs ≡ sum_by w xs
total_sum w [] = refl
total_sum w (x ∷ xs) = ap (λ n. w x + n) (total_sum w xs) ∙ sym (sum_by-cons w x xs)

total_same : {X : Type 0} (w : X → ℕ) (xs ys : List X) → IsPermutation xs ys → total w ys ≡ total w xs
total_same w xs ys h = total_sum w ys ∙ sum_by-IsPermutation w xs ys h ∙ sym (total_sum w xs)

-- ---- a union

ops_alike : (xs : List (ℕ × Op)) (a b : List ℕ) → AllByRecursion (λ (x : ℕ × Op). has a x.0 ≡ has b x.0) xs → ops_of xs a ≡ ops_of xs b
ops_alike [] a b h = refl
ops_alike (x ∷ xs) a b h = ap₂ (λ t r. cond t (x.1 ∷ r) r) h.0 (ops_alike xs a b h.1)

pub union_ops : (list : List Op) (a b : List ℕ) → ops_of (numbered list) (union (numbered list) a b) ≡ ops_of (numbered list) (a ++ b)
union_ops list a b =
    ops_alike (numbered list) (union (numbered list) a b) (a ++ b)
    (All_weaker (λ (x : ℕ × Op). (1 ≤ x.0) × (x.0 < 1 + length list)) (λ (x : ℕ × Op). has (union (numbered list) a b) x.0 ≡ has (a ++ b) x.0)
    (λ x h. let low : 1 ≤ x.0 = h.0 in let high : x.0 < 1 + length list = h.1 in has_union list a b x.0 (omega arith) (omega arith) ∙ sym (list_any-append (nat_eq x.0) a b))
    (numbered list) (between_enumerated 1 list))

union_cost : (list : List Op) (a b : List ℕ) → block_cost list (union (numbered list) a b) ≤ block_cost list a + block_cost list b
union_cost list a b =
    let same : block_cost list (union (numbered list) a b) ≡ block_cost list (a ++ b) = ap (λ (ops : List Op). total (weight list) (ext ops)) (union_ops list a b) in
    let less : block_cost list (a ++ b) ≤ block_cost list a + block_cost list b = merging_saves list a b in
    omega arith

-- ---- a merge, and all of them

merge_cost : (list : List Op) (a b : List ℕ) (blocks : List (List ℕ)) → IsPartition (length list) blocks → In a blocks → In b blocks → Apart a b → cost list (merge (numbered list) a b blocks) ≤ cost list blocks
merge_cost list a b blocks p m n h =
    let d = distinct_of (length list) blocks p in
    let u : List ℕ = union (numbered list) a b in
    let after : block_cost list u + cost list (kept a b blocks) ≡ cost list (merge (numbered list) a b blocks) =
    total_same (block_cost list) (merge (numbered list) a b blocks) (u ∷ kept a b blocks) (after_merge (numbered list) a b blocks d m n h) in
    let before : block_cost list b + (block_cost list a + cost list (kept a b blocks)) ≡ cost list blocks =
    total_same (block_cost list) blocks (b ∷ a ∷ kept a b blocks) (before_merge a b blocks d m n h) in
    let less : block_cost list u ≤ block_cost list a + block_cost list b = union_cost list a b in
    omega arith

greedy_cost : (n : ℕ) (list : List Op) (blocks : List (List ℕ)) → Good list blocks → cost list (greedy_within n list blocks) ≤ cost list blocks
greedy_cost zero list blocks g = omega arith
greedy_cost (suc n) list blocks g =
    elim (heaviest (saving list) (mergeable list blocks)) as (λ o. heaviest (saving list) (mergeable list blocks) ≡ o
    → cost list (elim o as (λ _. List (List ℕ)) [ None ↦ blocks | Some p ↦ greedy_within n list (merge (numbered list) p.0 p.1 blocks) ]) ≤ cost list blocks) [
      | None ↦ λ e. omega arith
      | Some p ↦ λ e.
          let i = heaviest_in (saving list) (mergeable list blocks) p e in
          let r = in_filter (λ (p : List ℕ × List ℕ). is_orderable list (merge (numbered list) p.0 p.1 blocks)) (pairs blocks) p i in
          let s = in_pairs blocks (distinct_of (length list) blocks g.partition) p r.0 in
          let one : cost list (merge (numbered list) p.0 p.1 blocks) ≤ cost list blocks = merge_cost list p.0 p.1 blocks g.partition s.0 s.1 s.2 in
          let rest : cost list (greedy_within n list (merge (numbered list) p.0 p.1 blocks)) ≤ cost list (merge (numbered list) p.0 p.1 blocks) =
          greedy_cost n list (merge (numbered list) p.0 p.1 blocks) (merged_good list blocks p g.partition i) in
          omega arith
    ] refl

pub greedy_saves : GreedySaves
greedy_saves list =
    let same : cost list (greedy_plan list) ≡ cost list (greedy_blocks list) = total_same (block_cost list) (greedy_blocks list) (greedy_plan list) (greedy_legal list).1 in
    let less : cost list (greedy_blocks list) ≤ cost list (singles (numbered list)) =
    greedy_cost (length list) list (singles (numbered list)) (record { partition = singles_partition list; orderable = singles_orderable list }) in
    omega arith
