-- The operations of an ascending block, looked up one by one.
use Rattle.std.proofs.Common.{◌≡◌, ◌≢◌, ℕ, ◌+◌, ◌-◌, ◌≤◌, ◌<◌, suc, List, [], ◌∷◌, ◌++◌, true, false, cond, ◌||◌, refl, ap, ap₂, sym, subst, ◌∙◌, arith, length}
use Rattle.std.proofs.lemmas.Bool.{eqb-true, eqb-false, ne_eqb}
use Rattle.std.specs.Prelude.{slice_get, nat_eq}
use Rattle.std.specs.List.{enumerate_from}
use Rattle.std.specs.Option.{option_to_list}
use Rattle.arr_view.specs.Views.{has}
use Rattle.arr_ops.specs.Plans.{ops_of}
use Rattle.arr_ops.specs.declared.op.Op.{Op}

abbrev pub picked : ℕ → List Op → List ℕ → List Op
picked k list [] = []
picked k list (i ∷ is) = option_to_list (slice_get list (i - k)) ++ picked k list is

-- each number from low on, below high, and above those before it
abbrev pub Ascends : ℕ → ℕ → List ℕ → Type 0
Ascends low high [] = Unit {0}
Ascends low high (i ∷ is) = (low ≤ i) × (i < high) × Ascends (i + 1) high is

lower : (low low' high : ℕ) (is : List ℕ) → low' ≤ low → Ascends low high is → Ascends low' high is
lower low low' high [] l h = tt
lower low low' high (i ∷ is) l h = let a : low ≤ i = h.0 in (omega arith, h.1, h.2)

not_in : (k low high : ℕ) (is : List ℕ) → k < low → Ascends low high is → has is k ≡ false
not_in k low high [] l h = refl
not_in k low high (i ∷ is) l h =
    let a : low ≤ i = h.0 in
    ap₂ (λ x y. x || y) (ne_eqb k i (λ e. absurd (omega arith))) (not_in k (i + 1) high is (omega arith) h.2)

-- a number that stands before the list is of no account
ops_of_front : (k : ℕ) (is : List ℕ) (from : ℕ) (list : List Op) → k < from → ops_of (enumerate_from from list) (k ∷ is) ≡ ops_of (enumerate_from from list) is
ops_of_front k is from [] l = refl
ops_of_front k is from (x ∷ xs) l =
    ap (λ b. cond (b || has is from) (x ∷ ops_of (enumerate_from (from + 1) xs) (k ∷ is)) (ops_of (enumerate_from (from + 1) xs) (k ∷ is))) (ne_eqb from k (λ e. absurd (omega arith)))
    ∙ ap (λ r. cond (has is from) (x ∷ r) r) (ops_of_front k is (from + 1) xs (omega arith))

picked_later : (k high : ℕ) (x : Op) (xs : List Op) (is : List ℕ) → Ascends (k + 1) high is → picked k (x ∷ xs) is ≡ picked (k + 1) xs is
picked_later k high x xs [] h = refl
picked_later k high x xs (i ∷ is) h =
    let a : k + 1 ≤ i = h.0 in
    let e : i - k ≡ suc (i - (k + 1)) = omega arith in
    ap₂ (λ o r. option_to_list o ++ r) (ap (slice_get (x ∷ xs)) e) (picked_later k high x xs is (lower (i + 1) (k + 1) high is (omega arith) h.2))

none_after : (k : ℕ) (is : List ℕ) → Ascends k (k + 0) is → is ≡ []
none_after k [] h = refl
none_after k (i ∷ is) h = let a : k ≤ i = h.0 in let b : i < k + 0 = h.1 in absurd (omega arith)

pub ops_of-picked : (k : ℕ) (list : List Op) (block : List ℕ) → Ascends k (k + length list) block → ops_of (enumerate_from k list) block ≡ picked k list block
ops_of-picked k [] block h = ap (picked k []) (sym (none_after k block h))
ops_of-picked k (x ∷ xs) [] h = ops_of-picked (k + 1) xs [] tt ∙ refl
ops_of-picked k (x ∷ xs) (i ∷ is) h =
    elim (nat_eq k i) as (λ b. nat_eq k i ≡ b → ops_of (enumerate_from k (x ∷ xs)) (i ∷ is) ≡ picked k (x ∷ xs) (i ∷ is)) [
      | true ↦ λ t.
          let e : k ≡ i = eqb-true k i t in
          let z : i - k ≡ 0 = omega arith in
          let up : k + suc (length xs) ≡ (k + 1) + length xs = omega arith in
          let low : Ascends (k + 1) ((k + 1) + length xs) is = subst (λ j. Ascends (k + 1) j is) up (subst (λ j. Ascends (j + 1) (k + suc (length xs)) is) (sym e) h.2) in
          ap (λ b. cond (b || has is k) (x ∷ ops_of (enumerate_from (k + 1) xs) (i ∷ is)) (ops_of (enumerate_from (k + 1) xs) (i ∷ is))) t
          ∙ ap (λ r. x ∷ r) (ops_of_front i is (k + 1) xs (omega arith) ∙ ops_of-picked (k + 1) xs is low ∙ sym (picked_later k _ x xs is low))
          ∙ ap (λ o. option_to_list o ++ picked k (x ∷ xs) is) (sym (ap (slice_get (x ∷ xs)) z))
      | false ↦ λ t.
          let ne : k ≢ i = eqb-false k i t in
          let a : k ≤ i = h.0 in
          let up : k + suc (length xs) ≡ (k + 1) + length xs = omega arith in
          let l : k < i = omega arith in
          let b : i < k + suc (length xs) = h.1 in
          let later : Ascends (k + 1) ((k + 1) + length xs) (i ∷ is) = (omega arith, omega arith, subst (λ j. Ascends (i + 1) j is) up h.2) in
          ap (λ b. cond b (x ∷ ops_of (enumerate_from (k + 1) xs) (i ∷ is)) (ops_of (enumerate_from (k + 1) xs) (i ∷ is)))
          (ap₂ (λ p q. p || q) t (not_in k (i + 1) (k + suc (length xs)) is (omega arith) h.2))
          ∙ ops_of-picked (k + 1) xs (i ∷ is) later ∙ sym (picked_later k _ x xs (i ∷ is) later)
    ] refl
