-- What one block an operation reaches: rows that are filled from the last to the first.
use Rattle.std.proofs.Common.{◌≡◌, ℕ, ◌+◌, ◌≤◌, ◌<◌, zero, suc, List, [], ◌∷◌, Bool, true, ◌||◌, ◌&&◌, refl, ap, ap₂, sym, subst, ◌∙◌, arith, length, inl, inr, map}
use Rattle.std.proofs.lemmas.Bool.{and_parts, and_from, or_cases, or_left, or_right, eqb-true, eq-eqb, lt-ltb}
use Rattle.std.specs.Prelude.{◌==◌, nat_lt}
use Rattle.std.specs.List.{list_any, list_all}
use Rattle.arr_ops.specs.declared.op.Op.{Op}
use Rattle.arr_ops.specs.Plans.{numbered, holders, ops_of}
use Rattle.arr_ops.specs.Ops.{fusible}
use Rattle.arr_ops.specs.Formed.{all_pairs}
use Rattle.arr_ops.proofs.Pairs.{Pairs}
use Rattle.arr_ops.proofs.Tests.{test_all}
use Rattle.arr_ops.specs.Order.{least_of, leads}
use Rattle.arr_heur.specs.Planners.{numbers, singles, union}
use Rattle.arr_greedy.specs.Fast.{Told, Started}
use Rattle.arr_ops.specs.Order.{In}
use Rattle.arr_greedy.specs.Ways.{Leads, Way, Reaches}
use Rattle.arr_ops.specs.Order.{is_partition}
use Rattle.arr_greedy.specs.Reach.{TellsReach}
use Rattle.arr_ops.proofs.Members.{all_in, in_all}
use Rattle.arr_ops.proofs.Legality.{any_found, any_there, in_has, IsPartition, block_test, partition_blocks, partition_once, pairs_test}
use Rattle.arr_heur.proofs.LinearPlan.{number_of, between_enumerated}
use Rattle.arr_heur.proofs.Merge.{number_there}
use Rattle.arr_heur.proofs.Merged.{in_singles, singles_rise, rising, singles_partition, singles_orderable}
use Rattle.arr_greedy.proofs.BlockMerges.{Among}

single_in : (xs : List (ℕ × Op)) (x : ℕ × Op) → In x xs → In (x.0 ∷ []) (singles xs)
single_in [] x i = absurd i
single_in (y ∷ ys) x (inl e) = inl (ap (λ (z : ℕ × Op). z.0 ∷ []) e)
single_in (y ∷ ys) x (inr i) = inr (single_in ys x i)

single_at : (list : List Op) (i : ℕ) → 0 < i → i ≤ length list → In (i ∷ []) (singles (numbered list))
single_at list i l u =
    let r = number_of (numbered list) i (number_there list i l u) in
    subst (λ k. In (k ∷ []) (singles (numbered list))) (sym r.2) (single_in (numbered list) r.0 r.1)

-- a block of one operation, and its number
single_is : (list : List Op) (b : List ℕ) → In b (singles (numbered list)) → (b ≡ least_of b ∷ []) × (0 < least_of b) × (least_of b ≤ length list)
single_is list b m =
    let r = in_singles (numbered list) b m in
    let e : least_of b ≡ r.0.0 = ap least_of r.2 in
    let s = all_in (λ (x : ℕ × Op). (1 ≤ x.0) × (x.0 < 1 + length list)) (numbered list) (between_enumerated 1 list) r.0 r.1 in
    let low : 1 ≤ r.0.0 = s.0 in
    let high : r.0.0 < 1 + length list = s.1 in
    (r.2 ∙ ap (λ k. k ∷ []) (sym e), omega arith, omega arith)

number_range : (list : List Op) (i : ℕ) → In i (numbers (numbered list)) → (0 < i) × (i ≤ length list)
number_range list i m =
    let r = number_of (numbered list) i (any_there (λ k. i == k) (numbers (numbered list)) i m (eq-eqb i i refl)) in
    let s = all_in (λ (x : ℕ × Op). (1 ≤ x.0) × (x.0 < 1 + length list)) (numbered list) (between_enumerated 1 list) r.0 r.1 in
    let low : 1 ≤ r.0.0 = s.0 in
    let high : r.0.0 < 1 + length list = s.1 in
    let e : i ≡ r.0.0 = r.2 in
    (omega arith, omega arith)

-- a row: those that it leads, and what they reach
abbrev pub Filled : List Op → (ℕ → ℕ → Bool) → Type 0
Filled list R =
    (i j : ℕ) → 0 < i → i ≤ length list → 0 < j → j ≤ length list
    → R i j ≡ list_any (λ k. leads (numbered list) (i ∷ []) (k ∷ []) && (k == j || R k j)) (numbers (numbered list))

-- one step, and then what is reached from there
row_at : (list : List Op) (R : ℕ → ℕ → Bool) → Filled list R → (x z : List ℕ) (j : ℕ) → Leads least_of (leads (numbered list)) (Among (singles (numbered list))) x z → 0 < j → j ≤ length list
    → (least_of z == j || R (least_of z) j) ≡ true → R (least_of x) j ≡ true
row_at list R filled x z j p l u e =
    let sx = single_is list x p.0 in
    let sz = single_is list z p.1 in
    let h : leads (numbered list) (least_of x ∷ []) (least_of z ∷ []) ≡ true = ap₂ (leads (numbered list)) (sym sx.0) (sym sz.0) ∙ p.3 in
    filled (least_of x) j sx.1 sx.2 l u
    ∙ any_there (λ k. leads (numbered list) (least_of x ∷ []) (k ∷ []) && (k == j || R k j)) (numbers (numbered list)) (least_of z)
    (in_has (numbers (numbered list)) (least_of z) (number_there list (least_of z) sz.1 sz.2))
    (and_from (leads (numbered list) (least_of x ∷ []) (least_of z ∷ [])) (least_of z == j || R (least_of z) j) h e)

back_from : (list : List Op) (R : ℕ → ℕ → Bool) → Filled list R → (x : List ℕ) (zs : List (List ℕ)) (y : List ℕ) → In y (singles (numbered list))
    → Way least_of (leads (numbered list)) (Among (singles (numbered list))) x zs y → R (least_of x) (least_of y) ≡ true
back_from list R filled x [] y my p =
    let sy = single_is list y my in
    row_at list R filled x y (least_of y) p sy.1 sy.2 (or_left (least_of y == least_of y) (R (least_of y) (least_of y)) (eq-eqb (least_of y) (least_of y) refl))
back_from list R filled x (z ∷ zs) y my p =
    let sy = single_is list y my in
    row_at list R filled x z (least_of y) p.0 sy.1 sy.2 (or_right (least_of z == least_of y) (R (least_of z) (least_of y)) (back_from list R filled z zs y my p.1))

forth_from : (list : List Op) (R : ℕ → ℕ → Bool) → Filled list R → (d i j : ℕ) → length list < i + d → 0 < i → i ≤ length list → 0 < j → j ≤ length list → R i j ≡ true
    → Reaches least_of (leads (numbered list)) (Among (singles (numbered list))) (i ∷ []) (j ∷ [])
forth_from list R filled zero i j far l u lj uj e = absurd (omega arith)
forth_from list R filled (suc d) i j far l u lj uj e =
    let q = any_found (λ k. leads (numbered list) (i ∷ []) (k ∷ []) && (k == j || R k j)) (numbers (numbered list)) (sym (filled i j l u lj uj) ∙ e) in
    let k : ℕ = q.0 in
    let r = and_parts (leads (numbered list) (i ∷ []) (k ∷ [])) (k == j || R k j) q.2 in
    let range = number_range list k q.1 in
    let less : i < k = singles_rise list i k r.0 in
    let step : Leads least_of (leads (numbered list)) (Among (singles (numbered list))) (i ∷ []) (k ∷ []) =
    (single_at list i l u, single_at list k range.0 range.1, (λ z. absurd (omega arith)), r.0) in
    elim (or_cases (k == j) (R k j) r.1) as (λ _. Reaches least_of (leads (numbered list)) (Among (singles (numbered list))) (i ∷ []) (j ∷ [])) [
      | inl f ↦ ([], subst (λ z. Leads least_of (leads (numbered list)) (Among (singles (numbered list))) (i ∷ []) (z ∷ [])) (eqb-true k j f) step)
      | inr f ↦ let p = forth_from list R filled d k j (omega arith) range.0 range.1 lj uj f in ((k ∷ []) ∷ p.0, (step, p.1))
    ]

pub start_reach : (list : List Op) (R : ℕ → ℕ → Bool) → Filled list R → TellsReach list (singles (numbered list)) (λ a b. R (least_of a) (least_of b))
start_reach list R filled x y mx my =
    let sx = single_is list x mx in
    let sy = single_is list y my in
    let low : 0 < least_of x = sx.1 in (
      λ e. subst (λ a. Reaches least_of (leads (numbered list)) (Among (singles (numbered list))) a y) (sym sx.0)
          (subst (λ b. Reaches least_of (leads (numbered list)) (Among (singles (numbered list))) (least_of x ∷ []) b) (sym sy.0)
          (forth_from list R filled (length list) (least_of x) (least_of y) (omega arith) sx.1 sx.2 sy.1 sy.2 e)),
      λ p. back_from list R filled x p.0 y my p.1,
    )

pub partition_tested : (list : List Op) (blocks : List (List ℕ)) → IsPartition (length list) blocks → is_partition list blocks ≡ true
partition_tested list blocks p =
    and_from (list_all (block_test (length list)) blocks) (list_all (λ (x : ℕ × Op). holders blocks x.0 == 1) (numbered list)) (partition_blocks list blocks p)
    (test_all (λ (x : ℕ × Op). holders blocks x.0 == 1) (numbered list) (in_all (λ (x : ℕ × Op). (holders blocks x.0 == 1) ≡ true) (numbered list) (λ x i. eq-eqb (holders blocks x.0) 1 (all_in (λ (x : ℕ × Op). holders blocks x.0 ≡ 1) (numbered list) (partition_once list blocks p) x i))))

rising_singles : (xs : List (ℕ × Op)) → Pairs (λ (x y : ℕ × Op). x.0 < y.0) xs → Pairs (λ a b. nat_lt (least_of a) (least_of b) ≡ true) (singles xs)
rising_singles [] h = tt
rising_singles (x ∷ xs) h = (
  in_all (λ b. nat_lt x.0 (least_of b) ≡ true) (singles xs) (λ b i.
      let r = in_singles xs b i in
      ap (nat_lt x.0) (ap least_of r.2) ∙ lt-ltb x.0 r.0.0 (all_in (λ (y : ℕ × Op). x.0 < y.0) xs h.0 r.0 r.1)),
  rising_singles xs h.1,
)

pub told_start : (list : List Op) (f r : ℕ → ℕ → Bool) → Started list f r → Told list (singles (numbered list)) f r
told_start list f r s =
    record {
      partition = partition_tested list (singles (numbered list)) (singles_partition list);
      orderable = singles_orderable list;
      rising = pairs_test (λ a b. nat_lt (least_of a) (least_of b)) (singles (numbered list)) (rising_singles (numbered list) (rising 1 list));
      fused = λ a b m n ne.
          let p = single_is list a m in let q = single_is list b n in
          s.fused (least_of a) (least_of b) p.1 p.2 q.1 q.2 ne ∙ ap₂ (λ c d. all_pairs fusible (ops_of (numbered list) (union (numbered list) c d))) (sym p.0) (sym q.0);
      reached = start_reach list r s.filled;
    }

pub keys_start : (xs : List (ℕ × Op)) → numbers xs ≡ map least_of (singles xs)
keys_start [] = refl
keys_start (x ∷ xs) = ap (λ l. x.0 ∷ l) (keys_start xs)
