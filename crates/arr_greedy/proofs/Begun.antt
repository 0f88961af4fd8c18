-- One block an operation: what its tables tell.
use Rattle.std.proofs.Common.{◌≡◌, ℕ, zero, suc, ◌+◌, ◌<◌, ◌≤◌, min, max, List, [], ◌∷◌, Bool, true, false, not, ◌&&◌, ◌||◌, length, inl, inr, ◌⊎◌, refl, ap, ap₂, sym, ◌∙◌, arith}
use Rattle.std.specs.Prelude.{◌==◌, nat_lt}
use Rattle.std.specs.List.{list_any, range_with_len}
use Rattle.std.proofs.lemmas.Bool.{or_cases, or_right, eqb-true, eq-eqb, ne_eqb, false≢true, lt-ltb, le-ltb, cases_eq, cases_lt}
use Rattle.std.proofs.lemmas.List.Elements.{All-cons, All-nil}
use Rattle.std.proofs.lemmas.List.Folds.{list_any-append}
use Rattle.arr_view.specs.Views.{has}
use Rattle.arr_ops.specs.declared.op.Op.{Op}
use Rattle.arr_ops.specs.Ops.{dep, fusible}
use Rattle.arr_ops.specs.Formed.{all_pairs}
use Rattle.arr_ops.specs.Plans.{numbered, ops_of}
use Rattle.arr_ops.specs.Order.{leads}
use Rattle.arr_ops.proofs.Pairs.{Pairs_both, Pairs_weaker}
use Rattle.arr_ops.proofs.Legality.{Share, fusible_parts, fusible_whole}
use Rattle.arr_deps.specs.Graph.{leads_to, op_at}
use Rattle.arr_heur.specs.Planners.{union}
use Rattle.arr_heur.proofs.Merge.{has_union, union_has}
use Rattle.arr_heur.proofs.OrderedBlocks.{Told, all_told, pairs_at, leads_is}
use Rattle.arr_heur.proofs.Stretches.{range_more}
use Rattle.arr_greedy.specs.Fast.{any_below, by_step, Started}
use Rattle.arr_greedy.specs.Start.{deps_at, fuses_at, two_numbers}
use Rattle.arr_greedy.proofs.KeyedBlocks.{numbers_are}

same_tests : (a b : Bool) → (a ≡ true → b ≡ true) → (b ≡ true → a ≡ true) → a ≡ b
same_tests true true f g = refl
same_tests true false f g = absurd (false≢true (f refl))
same_tests false true f g = absurd (false≢true (g refl))
same_tests false false f g = refl

one_of : (i k : ℕ) → has (i ∷ []) k ≡ true → k ≡ i
one_of i k e = eqb-true k i (left (k == i) e)
  where
    left : (b : Bool) → (b || false) ≡ true → b ≡ true
    left true e = refl
    left false e = absurd (false≢true e)

of_two : (i j k : ℕ) → (has (i ∷ []) k || has (j ∷ []) k) ≡ true → (k ≡ i) ⊎ (k ≡ j)
of_two i j k e = elim (or_cases (has (i ∷ []) k) (has (j ∷ []) k) e) as (λ _. (k ≡ i) ⊎ (k ≡ j)) [ inl f ↦ inl (one_of i k f) | inr f ↦ inr (one_of j k f) ]

has_self : (i : ℕ) → has (i ∷ []) i ≡ true
has_self i = ap (λ b. b || false) (eq-eqb i i refl)

-- two operations share a block where both are one
pub fuse_pair : (list : List Op) (i j : ℕ) → 0 < i → i ≤ length list → 0 < j → j ≤ length list → (i ≡ j → ⊥)
    → fusible (op_at list (min i j)) (op_at list (max i j)) ≡ all_pairs fusible (ops_of (numbered list) (union (numbered list) (i ∷ []) (j ∷ [])))
fuse_pair list i j li ui lj uj ne =
    let xs : List (ℕ × Op) = numbered list in
    let u : List ℕ = union xs (i ∷ []) (j ∷ []) in
    let in_i : has u i ≡ true = has_union list (i ∷ []) (j ∷ []) i li ui ∙ ap (λ b. b || has (j ∷ []) i) (has_self i) in
    let in_j : has u j ≡ true = has_union list (i ∷ []) (j ∷ []) j lj uj ∙ or_right (has (i ∷ []) j) (has (j ∷ []) j) (has_self j) in
    let in_min : has u (min i j) ≡ true = elim (cases_lt i j) as (λ _. has u (min i j) ≡ true) [
      | inl l ↦ ap (has u) (let e : min i j ≡ i = omega arith in e) ∙ in_i
      | inr l ↦ ap (has u) (let e : min i j ≡ j = omega arith in e) ∙ in_j
    ] in
    let in_max : has u (max i j) ≡ true = elim (cases_lt i j) as (λ _. has u (max i j) ≡ true) [
      | inl l ↦ ap (has u) (let e : max i j ≡ j = omega arith in e) ∙ in_j
      | inr l ↦ ap (has u) (let e : max i j ≡ i = omega arith in e) ∙ in_i
    ] in
    same_tests (fusible (op_at list (min i j)) (op_at list (max i j))) (all_pairs fusible (ops_of xs u))
    (λ e.
    fusible_whole u xs
    (Pairs_weaker (Told list) (Share u) (λ x y t hx hy.
    let less : x.0 < y.0 = t.rises in
    let cx = of_two i j x.0 (union_has xs (i ∷ []) (j ∷ []) x.0 hx) in
    let cy = of_two i j y.0 (union_has xs (i ∷ []) (j ∷ []) y.0 hy) in
    let lo : x.0 ≡ min i j = low x.0 y.0 less cx cy in
    let hi : y.0 ≡ max i j = high x.0 y.0 less cx cy in
    ap₂ fusible (t.first ∙ ap (op_at list) lo) (t.second ∙ ap (op_at list) hi) ∙ e) xs (all_told list)))
    (λ h.
    pairs_at 1 list (λ x y. Told list x y × Share u x y) (Pairs_both (Told list) (Share u) xs (all_told list) (fusible_parts u xs h)) (min i j) (max i j) (omega arith) (apart i j ne) (omega arith)
    (λ x y ex ey k.
    ap₂ fusible (sym (k.0.first ∙ ap (op_at list) ex)) (sym (k.0.second ∙ ap (op_at list) ey)) ∙ k.1 (ap (has u) ex ∙ in_min) (ap (has u) ey ∙ in_max)))
  where
    apart : (a b : ℕ) → (a ≡ b → ⊥) → min a b < max a b
    apart a b n = elim (cases_eq a b) as (λ _. min a b < max a b) [ inl e ↦ absurd (n e) | inr f ↦ elim (cases_lt a b) as (λ _. min a b < max a b) [ inl l ↦ omega arith | inr l ↦ differ a b f l ] ]
      where
        differ : (a b : ℕ) → (a ≡ b → ⊥) → b ≤ a → min a b < max a b
        differ a b f l = elim (cases_lt b a) as (λ _. min a b < max a b) [ inl s ↦ omega arith | inr s ↦ absurd (f (let e : a ≡ b = omega arith in e)) ]

    low : (x y : ℕ) → x < y → (x ≡ i) ⊎ (x ≡ j) → (y ≡ i) ⊎ (y ≡ j) → x ≡ min i j
    low x y l (inl e) (inl f) = absurd (omega arith)
    low x y l (inl e) (inr f) = omega arith
    low x y l (inr e) (inl f) = omega arith
    low x y l (inr e) (inr f) = absurd (omega arith)

    high : (x y : ℕ) → x < y → (x ≡ i) ⊎ (x ≡ j) → (y ≡ i) ⊎ (y ≡ j) → y ≡ max i j
    high x y l (inl e) (inl f) = absurd (omega arith)
    high x y l (inl e) (inr f) = omega arith
    high x y l (inr e) (inl f) = omega arith
    high x y l (inr e) (inr f) = absurd (omega arith)

two : (i j : ℕ) → 0 < i → 0 < j → (i ≡ j → ⊥) → two_numbers i j ≡ true
two i j li lj ne = ap₂ (λ a b. a && b) (lt-ltb 0 i li) (ap₂ (λ a b. a && not b) (lt-ltb 0 j lj) (ne_eqb i j ne))

-- one operation leads another
dep_pair : (list : List Op) (i k : ℕ) → 0 < i → i ≤ length list → 0 < k → k ≤ length list → deps_at list i k ≡ leads (numbered list) (i ∷ []) (k ∷ [])
dep_pair list i k li ui lk uk =
    elim (cases_eq i k) as (λ _. deps_at list i k ≡ leads_to list i k) [
      | inl e ↦ none (two_numbers i k) (leads_to list i k) (ap (λ b. b && dep (op_at list i) (op_at list k)) (le-ltb i k (omega arith)))
      | inr ne ↦ ap (λ b. b && leads_to list i k) (two i k li lk ne)
    ]
    ∙ sym (drop (leads_to list i k))
    ∙ leads_is list (i ∷ []) (k ∷ []) (All-cons (λ n. (0 < n) × (n ≤ length list)) i [] (li, ui) (All-nil (λ n. (0 < n) × (n ≤ length list)))) (All-cons (λ n. (0 < n) × (n ≤ length list)) k [] (lk, uk) (All-nil (λ n. (0 < n) × (n ≤ length list))))
  where
    none : (a b : Bool) → b ≡ false → (a && b) ≡ b
    none true b e = refl
    none false b e = sym e

    drop : (b : Bool) → ((b || false) || false) ≡ b
    drop true = refl
    drop false = refl

any_numbers : (f g : ℕ → Bool) (n : ℕ) → f 0 ≡ false → ((k : ℕ) → 0 < k → k ≤ n → f k ≡ g k) → any_below f (suc n) ≡ list_any g (range_with_len 1 n)
any_numbers f g zero z h = z
any_numbers f g (suc n) z h =
    ap₂ (λ a b. a || b) (any_numbers f g n z (λ k l u. h k l (omega arith))) (h (suc n) (omega arith) (omega arith))
    ∙ sym (ap (λ r. list_any g r) (ap (range_with_len 1) (let e : suc n ≡ n + 1 = omega arith in e) ∙ range_more 1 n) ∙ list_any-append g (range_with_len 1 n) ((1 + n) ∷ [])
    ∙ ap (λ b. list_any g (range_with_len 1 n) || b) (last (g (1 + n)) ∙ ap g (let e : 1 + n ≡ suc n = omega arith in e)))
  where
    last : (b : Bool) → (b || false) ≡ b
    last true = refl
    last false = refl

pub started : (list : List Op) (w : ℕ) (F D R : ℕ → ℕ → Bool) → w ≡ length list + 1
    → ((x y : ℕ) → x < w → y < w → F x y ≡ fuses_at list x y) → ((x y : ℕ) → x < w → y < w → D x y ≡ deps_at list x y)
    → ((x y : ℕ) → x < w → y < w → R x y ≡ by_step D R w x y)
    → Started list F R
started list w F D R e f d r = record {
  fused = λ i j li ui lj uj ne.
      f i j (omega arith) (omega arith) ∙ ap (λ b. b && fusible (op_at list (min i j)) (op_at list (max i j))) (two i j li lj ne) ∙ fuse_pair list i j li ui lj uj ne;
  filled = λ i j li ui lj uj.
      r i j (omega arith) (omega arith)
      ∙ ap (any_below (λ k. D i k && (k == j || R k j))) (let z : w ≡ suc (length list) = omega arith in z)
      ∙ any_numbers (λ k. D i k && (k == j || R k j)) (λ k. leads (numbered list) (i ∷ []) (k ∷ []) && (k == j || R k j)) (length list)
      (ap (λ b. b && (0 == j || R 0 j)) (d i 0 (omega arith) (omega arith) ∙ no_zero i))
      (λ k lk uk. ap (λ b. b && (k == j || R k j)) (d i k (omega arith) (omega arith) ∙ dep_pair list i k li ui lk uk))
      ∙ ap (list_any (λ k. leads (numbered list) (i ∷ []) (k ∷ []) && (k == j || R k j))) (sym (numbers_are list));
}
  where
    no_zero : (i : ℕ) → deps_at list i 0 ≡ false
    no_zero i = ap (λ b. b && leads_to list i 0) (nothing (nat_lt 0 i))
      where
        nothing : (b : Bool) → (b && (nat_lt 0 0 && not (i == 0))) ≡ false
        nothing true = refl
        nothing false = refl

-- a number leads only those behind it
pub forward_at : (list : List Op) (x y : ℕ) → y ≤ x → deps_at list x y ≡ false
forward_at list x y l = none (two_numbers x y) (leads_to list x y) (ap (λ b. b && dep (op_at list x) (op_at list y)) (le-ltb x y l))
  where
    none : (a b : Bool) → b ≡ false → (a && b) ≡ false
    none true b e = e
    none false b e = refl
