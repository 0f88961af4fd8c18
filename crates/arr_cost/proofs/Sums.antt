-- Sums over views and over blocks.
use Rattle.std.proofs.Common.{◌≡◌, ℕ, zero, suc, ◌+◌, ◌≤◌, ◌<◌, List, [], ◌∷◌, Bool, true, false, cond, ◌&&◌, ◌||◌, length, map, drop, get_or, refl, ap, sym, subst, ◌∙◌, arith}
use Rattle.std.specs.Prelude.{◌==◌, nat_lt, nat_le}
use Rattle.std.specs.List.{list_all, enumerate_from}
use Rattle.std.proofs.lemmas.Bool.{and_parts, eqb-true, ltb-true, ltb-false, leb-true, false≢true}
use Rattle.arr_view.specs.Views.{has}
use Rattle.arr_ops.specs.declared.op.Op.{Op}
use Rattle.arr_ops.specs.Costs.{total}
use Rattle.arr_ops.specs.Plans.{holders, is_legal, not_empty, numbered}
use Rattle.arr_ops.proofs.Members.{has_least}
use Rattle.arr_ops.specs.Order.{least_of}

-- ---- one more of a sum

pub total_at : {X : Type 0} (w : X → ℕ) (xs : List X) (i : ℕ) (d : X) → i < length xs → total w (drop i xs) ≡ w (get_or xs i d) + total w (drop (i + 1) xs)
total_at w [] i d l = absurd (omega arith)
total_at w (x ∷ xs) zero d l = refl
total_at w (x ∷ xs) (suc i) d l =
    total_at w xs i d (omega arith) ∙ ap (λ n. w (get_or xs i d) + total w (drop n (x ∷ xs))) (let e : suc (i + 1) ≡ suc i + 1 = omega arith in e)

pub total_done : {X : Type 0} (w : X → ℕ) (xs : List X) (i : ℕ) → length xs ≤ i → total w (drop i xs) ≡ 0
total_done w [] zero l = refl
total_done w [] (suc i) l = refl
total_done w (x ∷ xs) zero l = absurd (omega arith)
total_done w (x ∷ xs) (suc i) l = total_done w xs i (omega arith)

-- ---- a legal plan has no more blocks than the list has operations

abbrev pub held_by : List ℕ → List (ℕ × Op) → ℕ
held_by block xs = total (λ (x : ℕ × Op). cond (has block x.0) 1 0) xs

sum_holders : (plan : List (List ℕ)) (block : List ℕ) (xs : List (ℕ × Op)) → total (λ (x : ℕ × Op). holders (block ∷ plan) x.0) xs ≡ held_by block xs + total (λ (x : ℕ × Op). holders plan x.0) xs
sum_holders plan block [] = refl
sum_holders plan block (x ∷ xs) =
    let h : total (λ (x : ℕ × Op). holders (block ∷ plan) x.0) xs ≡ held_by block xs + total (λ (x : ℕ × Op). holders plan x.0) xs = sum_holders plan block xs in
    elim (has block x.0) as (λ b. cond b (suc (holders plan x.0)) (holders plan x.0) + total (λ (x : ℕ × Op). holders (block ∷ plan) x.0) xs
    ≡ (cond b 1 0 + held_by block xs) + (holders plan x.0 + total (λ (x : ℕ × Op). holders plan x.0) xs)) [ true ↦ omega arith | false ↦ omega arith ]

-- a number of the list that is in the block is counted
counted : (block : List ℕ) (k : ℕ) (ops : List Op) (i : ℕ) → k ≤ i → i < k + length ops → has block i ≡ true → 1 ≤ held_by block (enumerate_from k ops)
counted block k [] i l u h = absurd (omega arith)
counted block k (op ∷ ops) i l u h =
    elim (nat_lt k i) as (λ b. nat_lt k i ≡ b → 1 ≤ cond (has block k) 1 0 + held_by block (enumerate_from (k + 1) ops)) [
      | true ↦ λ e. let less : k < i = ltb-true k i e in let c : 1 ≤ held_by block (enumerate_from (k + 1) ops) = counted block (k + 1) ops i (omega arith) (omega arith) h in omega arith
      | false ↦ λ e. let le : i ≤ k = ltb-false k i e in
          subst (λ b. 1 ≤ cond b 1 0 + held_by block (enumerate_from (k + 1) ops)) (sym (ap (has block) (let z : k ≡ i = omega arith in z) ∙ h)) (omega arith)
    ] refl

abbrev pub good : ℕ → List ℕ → Bool
good n block = not_empty block && list_all (λ i. nat_lt 0 i && nat_le i n) block

all_has : (p : ℕ → Bool) (block : List ℕ) (i : ℕ) → list_all p block ≡ true → has block i ≡ true → p i ≡ true
all_has p [] i a h = absurd (false≢true h)
all_has p (j ∷ block) i a h =
    let q = and_parts (p j) (list_all p block) a in
    elim (i == j) as (λ b. (i == j) ≡ b → (b || has block i) ≡ true → p i ≡ true) [
      | true ↦ λ e k. ap p (eqb-true i j e) ∙ q.0
      | false ↦ λ e k. all_has p block i q.1 k
    ] refl h

some_held : (list : List Op) (block : List ℕ) → good (length list) block ≡ true → 1 ≤ held_by block (numbered list)
some_held list block h =
    let p = and_parts (not_empty block) (list_all (λ i. nat_lt 0 i && nat_le i (length list)) block) h in
    let m : has block (least_of block) ≡ true = has_least block p.0 in
    let q = and_parts (nat_lt 0 (least_of block)) (nat_le (least_of block) (length list)) (all_has (λ i. nat_lt 0 i && nat_le i (length list)) block (least_of block) p.1 m) in
    let low : 0 < least_of block = ltb-true 0 (least_of block) q.0 in
    let high : least_of block ≤ length list = leb-true (least_of block) (length list) q.1 in
    counted block 1 list (least_of block) (omega arith) (omega arith) m

all_held : (list : List Op) (plan : List (List ℕ)) → list_all (good (length list)) plan ≡ true → length plan ≤ total (λ (x : ℕ × Op). holders plan x.0) (numbered list)
all_held list [] h = omega arith
all_held list (block ∷ plan) h =
    let p = and_parts (good (length list) block) (list_all (good (length list)) plan) h in
    let a : 1 ≤ held_by block (numbered list) = some_held list block p.0 in
    let b : length plan ≤ total (λ (x : ℕ × Op). holders plan x.0) (numbered list) = all_held list plan p.1 in
    let c : total (λ (x : ℕ × Op). holders (block ∷ plan) x.0) (numbered list) ≡ held_by block (numbered list) + total (λ (x : ℕ × Op). holders plan x.0) (numbered list) = sum_holders plan block (numbered list) in
    omega arith

each_once : (plan : List (List ℕ)) (xs : List (ℕ × Op)) → list_all (λ (x : ℕ × Op). holders plan x.0 == 1) xs ≡ true → total (λ (x : ℕ × Op). holders plan x.0) xs ≡ length xs
each_once plan [] h = refl
each_once plan (x ∷ xs) h =
    let p = and_parts (holders plan x.0 == 1) (list_all (λ (x : ℕ × Op). holders plan x.0 == 1) xs) h in
    let a : holders plan x.0 ≡ 1 = eqb-true (holders plan x.0) 1 p.0 in
    let b : total (λ (x : ℕ × Op). holders plan x.0) xs ≡ length xs = each_once plan xs p.1 in
    omega arith

long_numbered : (k : ℕ) (list : List Op) → length (enumerate_from k list) ≡ length list
long_numbered k [] = refl
long_numbered k (op ∷ list) = ap suc (long_numbered (k + 1) list)

pub few_blocks : (list : List Op) (plan : List (List ℕ)) → is_legal list plan ≡ true → length plan ≤ length list
few_blocks list plan h =
    let p = and_parts (list_all (good (length list)) plan) _ h in
    let q = and_parts (list_all (λ (x : ℕ × Op). holders plan x.0 == 1) (numbered list)) _ p.1 in
    let a : length plan ≤ total (λ (x : ℕ × Op). holders plan x.0) (numbered list) = all_held list plan p.0 in
    let b : total (λ (x : ℕ × Op). holders plan x.0) (numbered list) ≡ length (numbered list) = each_once plan (numbered list) q.0 in
    let c : length (numbered list) ≡ length list = long_numbered 1 list in
    omega arith

pub at_map : {A B : Type 0} (f : A → B) (xs : List A) (i : ℕ) (d : A) (e : B) → i < length xs → get_or (map f xs) i e ≡ f (get_or xs i d)
at_map f [] i d e h = absurd (omega arith)
at_map f (x ∷ xs) zero d e h = refl
at_map f (x ∷ xs) (suc i) d e h = at_map f xs i d e (omega arith)
