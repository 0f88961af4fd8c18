-- What `ordered` answers: an order with no block after one that it leads, wherever blocks can be ranked.
use Rattle.std.proofs.Common.{◌≡◌, ℕ, ◌≤◌, ◌<◌, zero, suc, List, [], ◌∷◌, Bool, true, false, cond, not, ◌&&◌, refl, ap, sym, subst, ◌∙◌, arith, length, ◌⊎◌, inl, inr, Option, Some, None}
use Rattle.std.proofs.lemmas.Bool.{ltb-true, ltb-false, false≢true, eqb-false, both_ways}
use Rattle.std.specs.Prelude.{nat_lt, is_some}
use Rattle.std.specs.List.{filter, list_any}
use Rattle.std.specs.Option.{option_map}
use Rattle.std.specs.List.Sorted.{IsPermutation}
use Rattle.std.proofs.lemmas.List.Sorted.{IsPermutation-refl, IsPermutation-cons, IsPermutation-trans, length_permutation}
use Rattle.arr_ops.specs.declared.op.Op.{Op}
use Rattle.arr_ops.specs.Order.{In, least_of, same_block, leads, is_ready, earlier, first_block, ordered_within}
use Rattle.arr_ops.proofs.Pairs.{Pairs}
use Rattle.arr_ops.proofs.Members.{in_all, in_filter, in_permutation, any_false, false_any, Apart, Distinct, others, takes, distinct_others}

-- ---- the first block that passes

one_of : (block b : List ℕ) (o : Option (List ℕ)) → earlier block o ≡ b → (b ≡ block) ⊎ (o ≡ Some b)
one_of block b None e = inl (sym e)
one_of block b (Some other) e =
    elim (nat_lt (least_of other) (least_of block)) as (λ t. cond t other block ≡ b → (b ≡ block) ⊎ (Some other ≡ Some b)) [
      | true ↦ λ f. inr (ap (λ k. Some k) f)
      | false ↦ λ f. inl (sym f)
    ] e

plan_or : Option (List (List ℕ)) → List (List ℕ)
plan_or None = []
plan_or (Some plan) = plan

block_or : Option (List ℕ) → List ℕ
block_or None = []
block_or (Some b) = b

pub first_found : (test : List ℕ → Bool) (blocks : List (List ℕ)) (b : List ℕ) → first_block test blocks ≡ Some b → In b blocks × (test b ≡ true)
unfolding block_or
first_found test [] b e = absurd (false≢true (ap is_some e))
first_found test (c ∷ cs) b e =
    elim (test c) as (λ t. test c ≡ t → cond t (Some (earlier c (first_block test cs))) (first_block test cs) ≡ Some b → In b (c ∷ cs) × (test b ≡ true)) [
      | true ↦ λ h f. elim (one_of c b (first_block test cs) (ap block_or f)) as (λ _. In b (c ∷ cs) × (test b ≡ true)) [
        | inl g ↦ (inl g, ap test g ∙ h)
        | inr g ↦ let r = first_found test cs b g in (inr r.0, r.1)
      ]
      | false ↦ λ h f. let r = first_found test cs b f in (inr r.0, r.1)
    ] refl e

pub first_there : (test : List ℕ → Bool) (blocks : List (List ℕ)) (b : List ℕ) → In b blocks → test b ≡ true → is_some (first_block test blocks) ≡ true
first_there test [] b i h = absurd i
first_there test (c ∷ cs) b i h =
    elim (test c) as (λ t. test c ≡ t → is_some (cond t (Some (earlier c (first_block test cs))) (first_block test cs)) ≡ true) [
      | true ↦ λ e. refl
      | false ↦ λ e. elim i as (λ _. is_some (first_block test cs) ≡ true) [
        | inl g ↦ absurd (both_ways (test c) e (ap test (sym g) ∙ h))
        | inr g ↦ first_there test cs b g h
      ]
    ] refl

-- ---- an order that is answered

-- no block leads one before it
abbrev pub Forward : List (ℕ × Op) → List (List ℕ) → Type 0
Forward xs plan = Pairs (λ a b. leads xs b a ≡ false) plan

free_of : (same leading : Bool) → (not same && leading) ≡ false → same ≡ false → leading ≡ false
free_of true leading e f = absurd (false≢true (sym f))
free_of false leading e f = e

pub ready_leads : (xs : List (ℕ × Op)) (left : List (List ℕ)) (b c : List ℕ) → is_ready xs left b ≡ true → In c left → same_block c b ≡ false → leads xs c b ≡ false
ready_leads xs left b c r i s =
    free_of (same_block c b) (leads xs c b) (false_any (λ other. not (same_block other b) && leads xs other b) left (not_true_is (list_any (λ other. not (same_block other b) && leads xs other b) left) r) c i) s
  where
    not_true_is : (t : Bool) → not t ≡ true → t ≡ false
    not_true_is true e = absurd (false≢true e)
    not_true_is false e = refl

pub ordered_sound : (n : ℕ) (xs : List (ℕ × Op)) (left plan : List (List ℕ)) → length left ≡ n → Distinct left → ordered_within n xs left ≡ Some plan
    → IsPermutation left plan × Forward xs plan
unfolding plan_or
ordered_sound zero xs [] plan l d e = subst (λ p. IsPermutation [] p × Forward xs p) (ap plan_or e) (IsPermutation-refl [], tt)
ordered_sound zero xs (b ∷ bs) plan l d e = absurd (omega arith)
ordered_sound (suc n) xs left plan l d e =
    elim (first_block (is_ready xs left) left) as (λ o. first_block (is_ready xs left) left ≡ o
    → elim o as (λ _. Option (List (List ℕ))) [ None ↦ None | Some block ↦ option_map (λ blocks. block ∷ blocks) (ordered_within n xs (filter (λ other. not (same_block other block)) left)) ] ≡ Some plan
    → IsPermutation left plan × Forward xs plan) [
      | None ↦ λ f g. absurd (false≢true (ap is_some g))
      | Some b ↦ λ f g.
          let found = first_found (is_ready xs left) left b f in
          let taken : IsPermutation left (b ∷ others b left) = takes b left d found.0 in
          let shorter : length (others b left) ≡ n = (let k : suc (length (others b left)) ≡ length left = length_permutation left (b ∷ others b left) taken in omega arith) in
          elim (ordered_within n xs (others b left)) as (λ o. ordered_within n xs (others b left) ≡ o → option_map (λ blocks. b ∷ blocks) o ≡ Some plan → IsPermutation left plan × Forward xs plan) [
            | None ↦ λ h k. absurd (false≢true (ap is_some k))
            | Some rest ↦ λ h k.
                let inner = ordered_sound n xs (others b left) rest shorter (distinct_others (λ c. not (same_block c b)) left d) h in
                subst (λ p. IsPermutation left p × Forward xs p) (ap plan_or k) (
                  IsPermutation-trans left (b ∷ others b left) (b ∷ rest) taken (IsPermutation-cons b (others b left) rest inner.0),
                  (
                    in_all (λ c. leads xs c b ≡ false) rest (λ c i.
                        let j = in_filter (λ c. not (same_block c b)) left c (in_permutation (others b left) rest inner.0 c i) in
                        ready_leads xs left b c found.1 j.0 (not_true_is (same_block c b) j.1)),
                    inner.1,
                  ),
                )
          ] refl g
    ] refl e
  where
    not_true_is : (t : Bool) → not t ≡ true → t ≡ false
    not_true_is true e = absurd (false≢true e)
    not_true_is false e = refl

-- ---- an order that is found

-- of two different blocks the one that leads ranks lower
abbrev pub Ranked : (List ℕ → ℕ) → List (ℕ × Op) → List (List ℕ) → Type 0
Ranked r xs left = (a b : List ℕ) → In a left → In b left → Apart a b → leads xs a b ≡ true → r a < r b

pub lowest : {X : Type 0} (r : X → ℕ) (x : X) (xs : List X) → (m : X) × In m (x ∷ xs) × ((y : X) → In y (x ∷ xs) → r m ≤ r y)
lowest r x [] = (x, inl refl, λ y i. elim i as (λ _. r x ≤ r y) [ inl e ↦ subst (λ k. r x ≤ r k) (sym e) (omega arith) | inr j ↦ absurd j ])
lowest r x (z ∷ zs) =
    let l = lowest r z zs in
    elim (nat_lt (r x) (r l.0)) as (λ t. nat_lt (r x) (r l.0) ≡ t → (m : _) × In m (x ∷ z ∷ zs) × ((y : _) → In y (x ∷ z ∷ zs) → r m ≤ r y)) [
      | true ↦ λ e. (
        x,
        inl refl,
        λ y i. elim i as (λ _. r x ≤ r y) [
          | inl f ↦ subst (λ k. r x ≤ r k) (sym f) (omega arith)
          | inr j ↦ let a : r l.0 ≤ r y = l.2 y j in let b : r x < r l.0 = ltb-true (r x) (r l.0) e in omega arith
        ],
      )
      | false ↦ λ e. (
        l.0,
        inr l.1,
        λ y i. elim i as (λ _. r l.0 ≤ r y) [
          | inl f ↦ subst (λ k. r l.0 ≤ r k) (sym f) (ltb-false (r x) (r l.0) e)
          | inr j ↦ l.2 y j
        ],
      )
    ] refl

mapped : {X Y : Type 0} (f : X → Y) (o : Option X) → is_some o ≡ true → is_some (option_map f o) ≡ true
mapped f None e = absurd (false≢true e)
mapped f (Some x) e = refl

pub ordered_there : (n : ℕ) (xs : List (ℕ × Op)) (left : List (List ℕ)) (r : List ℕ → ℕ) → length left ≡ n → Distinct left → Ranked r xs left
    → is_some (ordered_within n xs left) ≡ true
ordered_there zero xs left r l d h = refl
ordered_there (suc n) xs [] r l d h = absurd (omega arith)
ordered_there (suc n) xs (c ∷ cs) r l d h =
    let left : List (List ℕ) = c ∷ cs in
    let low = lowest r c cs in
    let ready : is_ready xs left low.0 ≡ true =
    ap not (any_false (λ other. not (same_block other low.0) && leads xs other low.0) left (λ other i.
    stays (same_block other low.0) (leads xs other low.0) (λ s t.
    let up : r other < r low.0 = h other low.0 i low.1 (eqb-false (least_of other) (least_of low.0) s) t in
    let down : r low.0 ≤ r other = low.2 other i in
    absurd (omega arith)))) in
    let there : is_some (first_block (is_ready xs left) left) ≡ true = first_there (is_ready xs left) left low.0 low.1 ready in
    elim (first_block (is_ready xs left) left) as (λ o. first_block (is_ready xs left) left ≡ o → is_some o ≡ true
    → is_some (elim o as (λ _. Option (List (List ℕ))) [ None ↦ None | Some block ↦ option_map (λ blocks. block ∷ blocks) (ordered_within n xs (filter (λ other. not (same_block other block)) left)) ]) ≡ true) [
      | None ↦ λ f g. absurd (false≢true g)
      | Some b ↦ λ f g.
          let found = first_found (is_ready xs left) left b f in
          let shorter : length (others b left) ≡ n = (let k : suc (length (others b left)) ≡ length left = length_permutation left (b ∷ others b left) (takes b left d found.0) in omega arith) in
          mapped (λ blocks. b ∷ blocks) (ordered_within n xs (others b left))
          (ordered_there n xs (others b left) r shorter (distinct_others (λ c. not (same_block c b)) left d)
          (λ x y i j. h x y (in_filter (λ c. not (same_block c b)) left x i).0 (in_filter (λ c. not (same_block c b)) left y j).0))
    ] refl there
  where
    stays : (same leading : Bool) → (same ≡ false → leading ≡ true → ⊥) → (not same && leading) ≡ false
    stays true leading f = refl
    stays false true f = absurd (f refl refl)
    stays false false f = refl
