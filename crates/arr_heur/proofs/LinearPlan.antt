-- The plan of `linear` is legal.
use Rattle.std.proofs.Common.{◌≡◌, ℕ, ◌+◌, ◌≤◌, ◌<◌, suc, List, [], ◌∷◌, ◌++◌, Bool, true, false, cond, ◌||◌, refl, ap, ap₂, sym, subst, ◌∙◌, arith, length, ◌⊎◌, inl, inr, append_assoc}
use Rattle.std.proofs.lemmas.Bool.{false≢true, eq-eqb, ne_eqb, eqb-true, or_right}
use Rattle.std.specs.Prelude.{◌==◌, nat_eq}
use Rattle.std.specs.List.{AllByRecursion, list_all, enumerate_from}
use Rattle.arr_view.specs.Views.{has}
use Rattle.arr_ops.specs.declared.op.Op.{Op}
use Rattle.arr_ops.specs.Ops.{fusible}
use Rattle.arr_ops.specs.Plans.{numbered, holders, place, not_empty}
use Rattle.arr_ops.proofs.Pairs.{Pairs, All_weaker, Pairs_weaker}
use Rattle.arr_ops.proofs.Tests.{all_of}
use Rattle.arr_heur.specs.Planners.{numbers, linear_from, linear_plan}
use Rattle.arr_heur.specs.HeurLaws.{LinearIsLegal}
use Rattle.arr_ops.specs.Order.{In}
use Rattle.arr_ops.proofs.Members.{all_in, in_all, in_append, pairs_append}
use Rattle.arr_ops.proofs.Legality.{LegalPair, legal_from, at_number}

-- where an entry stands, its number stands
pub number_in : (xs : List (ℕ × Op)) (x : ℕ × Op) → In x xs → has (numbers xs) x.0 ≡ true
number_in [] x i = absurd i
number_in (y ∷ ys) x (inl e) = ap (λ t. t || has (numbers ys) x.0) (eq-eqb x.0 y.0 (ap (λ (z : ℕ × Op). z.0) e))
number_in (y ∷ ys) x (inr i) = or_right (x.0 == y.0) (has (numbers ys) x.0) (number_in ys x i)

pub number_of : (xs : List (ℕ × Op)) (i : ℕ) → has (numbers xs) i ≡ true → (x : ℕ × Op) × In x xs × (i ≡ x.0)
number_of [] i e = absurd (false≢true e)
number_of (y ∷ ys) i e =
    elim (nat_eq i y.0) as (λ t. nat_eq i y.0 ≡ t → (t || has (numbers ys) i) ≡ true → (x : ℕ × Op) × In x (y ∷ ys) × (i ≡ x.0)) [
      | true ↦ λ f g. (y, inl refl, eqb-true i y.0 f)
      | false ↦ λ f g. let r = number_of ys i g in (r.0, inr r.1, r.2)
    ] refl e

numbers_out : (xs : List (ℕ × Op)) (i : ℕ) → AllByRecursion (λ (x : ℕ × Op). x.0 ≡ i → ⊥) xs → has (numbers xs) i ≡ false
numbers_out [] i h = refl
numbers_out (x ∷ xs) i h = ap (λ t. t || has (numbers xs) i) (ne_eqb i x.0 (λ e. h.0 (sym e))) ∙ numbers_out xs i h.1

-- the numbers of the entries lie from low on, and below high
abbrev pub Between : ℕ → ℕ → List (ℕ × Op) → Type 0
Between low high xs = AllByRecursion (λ (x : ℕ × Op). (low ≤ x.0) × (x.0 < high)) xs

pub between_enumerated : (k : ℕ) (list : List Op) → Between k (k + length list) (enumerate_from k list)
between_enumerated k [] = tt
between_enumerated k (x ∷ xs) = (
  (omega arith, omega arith),
  All_weaker (λ (y : ℕ × Op). ((k + 1) ≤ y.0) × (y.0 < (k + 1) + length xs)) (λ (y : ℕ × Op). (k ≤ y.0) × (y.0 < k + suc (length xs)))
      (λ y h. let a : k + 1 ≤ y.0 = h.0 in let b : y.0 < (k + 1) + length xs = h.1 in (omega arith, omega arith)) (enumerate_from (k + 1) xs) (between_enumerated (k + 1) xs),
)

abbrev Fuse : ℕ × Op → ℕ × Op → Type 0
Fuse x y = fusible x.1 y.1 ≡ true

-- ---- each pair is legal, whichever operations depend

abbrev Level : List (List ℕ) → ℕ × Op → ℕ × Op → Type 0
Level plan x y = (place plan x.0 ≡ place plan y.0 → fusible x.1 y.1 ≡ true) × (place plan x.0 ≤ place plan y.0)

-- what linear_from makes, the entries so far being `last` and those to come having numbers from k on
record Made (low k : ℕ) (last : List (ℕ × Op)) (list : List Op) (plan : List (List ℕ)) : Type 0 where
  levels : Pairs (Level plan) (last ++ enumerate_from k list)
  some : AllByRecursion (λ b. not_empty b ≡ true) plan
  within : (b : List ℕ) → In b plan → (i : ℕ) → has b i ≡ true → (low ≤ i) × (i < k + length list)
  once : (x : ℕ × Op) → In x (last ++ enumerate_from k list) → holders plan x.0 ≡ 1
  front : (i : ℕ) → i < low → holders plan i ≡ 0

some_numbers : (last : List (ℕ × Op)) → (last ≡ [] → ⊥) → not_empty (numbers last) ≡ true
some_numbers [] h = absurd (h refl)
some_numbers (x ∷ xs) h = refl

fuse_all : (last : List (ℕ × Op)) (x : ℕ × Op) → list_all (λ (y : ℕ × Op). fusible y.1 x.1) last ≡ true → (y : ℕ × Op) → In y last → Fuse y x
fuse_all last x e = all_in (λ (y : ℕ × Op). Fuse y x) last (all_of (λ (y : ℕ × Op). fusible y.1 x.1) last e)

within_last : (low high : ℕ) (last : List (ℕ × Op)) → Between low high last → (i : ℕ) → has (numbers last) i ≡ true → (low ≤ i) × (i < high)
within_last low high last h i e =
    let r = number_of last i e in
    let s = all_in (λ (x : ℕ × Op). (low ≤ x.0) × (x.0 < high)) last h r.0 r.1 in
    let t : i ≡ r.0.0 = r.2 in
    let a : low ≤ r.0.0 = s.0 in
    let b : r.0.0 < high = s.1 in
    (omega arith, omega arith)

out_of : (low high i : ℕ) (xs : List (ℕ × Op)) → Between low high xs → (i < low) ⊎ (high ≤ i) → has (numbers xs) i ≡ false
out_of low high i xs h side =
    numbers_out xs i (All_weaker (λ (x : ℕ × Op). (low ≤ x.0) × (x.0 < high)) (λ (x : ℕ × Op). x.0 ≡ i → ⊥) (λ x r e.
    let a : low ≤ x.0 = r.0 in let b : x.0 < high = r.1 in
    elim side as (λ _. ⊥) [ inl l ↦ absurd (omega arith) | inr l ↦ absurd (omega arith) ]) xs h)

-- two of the first block; two of later blocks; one of the first and one of a later
level_first : (f s t : Bool) (p q : ℕ) → s ≡ true → t ≡ true → f ≡ true → (cond s 0 (suc p) ≡ cond t 0 (suc q) → f ≡ true) × (cond s 0 (suc p) ≤ cond t 0 (suc q))
level_first f true true p q a b c = (λ _. c, omega arith)
level_first f false t p q a b c = absurd (false≢true a)
level_first f true false p q a b c = absurd (false≢true b)

level_later : (f s t : Bool) (p q : ℕ) → s ≡ false → t ≡ false → (p ≡ q → f ≡ true) × (p ≤ q) → (cond s 0 (suc p) ≡ cond t 0 (suc q) → f ≡ true) × (cond s 0 (suc p) ≤ cond t 0 (suc q))
level_later f false false p q a b h = let l : p ≤ q = h.1 in (λ e. h.0 (omega arith), omega arith)
level_later f true t p q a b h = absurd (false≢true (sym a))
level_later f false true p q a b h = absurd (false≢true (sym b))

level_cross : (f s t : Bool) (p q : ℕ) → s ≡ true → t ≡ false → (cond s 0 (suc p) ≡ cond t 0 (suc q) → f ≡ true) × (cond s 0 (suc p) ≤ cond t 0 (suc q))
level_cross f true false p q a b = (λ e. absurd (omega arith), omega arith)
level_cross f false t p q a b = absurd (false≢true a)
level_cross f true true p q a b = absurd (false≢true (sym b))

pub pairs_in : {X : Type 0} (R Q : X → X → Type 0) (xs : List X) → ((x y : X) → In x xs → In y xs → R x y → Q x y) → Pairs R xs → Pairs Q xs
pairs_in R Q [] f h = tt
pairs_in R Q (x ∷ xs) f h =
    (in_all (Q x) xs (λ y i. f x y (inl refl) (inr i) (all_in (R x) xs h.0 y i)), pairs_in R Q xs (λ u v i j. f u v (inr i) (inr j)) h.1)

levels_last : (block : List ℕ) (plan : List (List ℕ)) (last : List (ℕ × Op)) → Pairs Fuse last → ((x : ℕ × Op) → In x last → has block x.0 ≡ true) → Pairs (Level (block ∷ plan)) last
levels_last block plan last fuse at =
    pairs_in Fuse (Level (block ∷ plan)) last (λ x y i j f. level_first (fusible x.1 y.1) (has block x.0) (has block y.0) (place plan x.0) (place plan y.0) (at x i) (at y j) f) fuse

levels_later : (block : List ℕ) (plan : List (List ℕ)) (xs : List (ℕ × Op)) → ((x : ℕ × Op) → In x xs → has block x.0 ≡ false) → Pairs (Level plan) xs → Pairs (Level (block ∷ plan)) xs
levels_later block plan xs out h =
    pairs_in (Level plan) (Level (block ∷ plan)) xs (λ x y i j f. level_later (fusible x.1 y.1) (has block x.0) (has block y.0) (place plan x.0) (place plan y.0) (out x i) (out y j) f) h

all_append : {X : Type 0} (P : X → Type 0) (xs ys : List X) → AllByRecursion P xs → AllByRecursion P ys → AllByRecursion P (xs ++ ys)
all_append P [] ys a b = b
all_append P (x ∷ xs) ys a b = (a.0, all_append P xs ys a.1 b)

made : (low k : ℕ) (last : List (ℕ × Op)) (list : List Op) → (last ≡ [] → ⊥) → Between low k last → Pairs Fuse last → low ≤ k → Made low k last list (linear_from last (enumerate_from k list))
made low k last [] ne between fuse l =
    let plan : List (List ℕ) = numbers last ∷ [] in
    let at : (x : ℕ × Op) → In x last → has (numbers last) x.0 ≡ true = λ x i. number_in last x i in
    let whole : (x : ℕ × Op) → In x (last ++ []) → In x last = λ x i. elim (in_append last [] x i) as (λ _. In x last) [ inl j ↦ j | inr j ↦ absurd j ] in
    record {
      levels = pairs_append (Level plan) last [] (levels_last (numbers last) [] last fuse at) tt (λ x y i j. absurd j);
      some = (some_numbers last ne, tt);
      within = λ b i n h. elim i as (λ _. (low ≤ n) × (n < k + 0)) [
        | inl e ↦ let r = within_last low k last between n (ap (λ c. has c n) (sym e) ∙ h) in let s : n < k = r.1 in (r.0, omega arith)
        | inr j ↦ absurd j
      ];
      once = λ x i. ap (λ t. cond t 1 0) (at x (whole x i));
      front = λ i f. ap (λ t. cond t 1 0) (out_of low k i last between (inl f));
    }
made low k last (op ∷ ops) ne between fuse l =
    let x : ℕ × Op = (k, op) in
    let rest : List (ℕ × Op) = enumerate_from (k + 1) ops in
    elim (list_all (λ (y : ℕ × Op). fusible y.1 op) last) as (λ t. list_all (λ (y : ℕ × Op). fusible y.1 op) last ≡ t
    → Made low k last (op ∷ ops) (elim t as (λ _. List (List ℕ)) [ true ↦ linear_from (last ++ x ∷ []) rest | false ↦ numbers last ∷ linear_from (x ∷ []) rest ])) [
      | true ↦ λ e.
          let m = made low (k + 1) (last ++ x ∷ []) ops (more last x)
          (all_append (λ (y : ℕ × Op). (low ≤ y.0) × (y.0 < k + 1)) last (x ∷ []) (All_weaker (λ (y : ℕ × Op). (low ≤ y.0) × (y.0 < k)) (λ (y : ℕ × Op). (low ≤ y.0) × (y.0 < k + 1)) (λ y r. let b : y.0 < k = r.1 in (r.0, omega arith)) last between) ((l, omega arith), tt))
          (pairs_append Fuse last (x ∷ []) fuse (tt, tt) (λ y z i j. elim j as (λ _. Fuse y z) [ inl f ↦ subst (Fuse y) (sym f) (fuse_all last x e y i) | inr j ↦ absurd j ]))
          (omega arith) in
          let same : (last ++ x ∷ []) ++ rest ≡ last ++ x ∷ rest = append_assoc last (x ∷ []) rest in
          let plan : List (List ℕ) = linear_from (last ++ x ∷ []) rest in
          record {
            levels = subst (Pairs (Level plan)) same m.levels;
            some = m.some;
            within = λ b i n h. let r = m.within b i n h in let s : n < (k + 1) + length ops = r.1 in (r.0, omega arith);
            once = λ y i. m.once y (subst (In y) (sym same) i);
            front = m.front;
          }
      | false ↦ λ e.
          let m = made k (k + 1) (x ∷ []) ops (λ f. absurd (false≢true (ap (λ ys. not_nil ys) (sym f)))) ((omega arith, omega arith), tt) (tt, tt) (omega arith) in
          let plan : List (List ℕ) = linear_from (x ∷ []) rest in
          let at : (y : ℕ × Op) → In y last → has (numbers last) y.0 ≡ true = λ y i. number_in last y i in
          let out : (y : ℕ × Op) → In y (x ∷ rest) → has (numbers last) y.0 ≡ false = λ y i.
          let r = all_in (λ (z : ℕ × Op). (k ≤ z.0) × (z.0 < k + suc (length ops))) (x ∷ rest) (between_enumerated k (op ∷ ops)) y i in
          out_of low k y.0 last between (inr r.0) in
          record {
            levels = pairs_append (Level (numbers last ∷ plan)) last (x ∷ rest)
                (levels_last (numbers last) plan last fuse at)
                (levels_later (numbers last) plan (x ∷ rest) out m.levels)
                (λ y z i j. level_cross (fusible y.1 z.1) (has (numbers last) y.0) (has (numbers last) z.0) (place plan y.0) (place plan z.0) (at y i) (out z j));
            some = (some_numbers last ne, m.some);
            within = λ b i n h. elim i as (λ _. (low ≤ n) × (n < k + suc (length ops))) [
              | inl f ↦ let r = within_last low k last between n (ap (λ c. has c n) (sym f) ∙ h) in let s : n < k = r.1 in (r.0, omega arith)
              | inr j ↦ let r = m.within b j n h in let a : k ≤ n = r.0 in let s : n < (k + 1) + length ops = r.1 in (omega arith, omega arith)
            ];
            once = λ y i. elim (in_append last (x ∷ rest) y i) as (λ _. holders (numbers last ∷ plan) y.0 ≡ 1) [
              | inl j ↦
                  let r = all_in (λ (z : ℕ × Op). (low ≤ z.0) × (z.0 < k)) last between y j in
                  let z : holders plan y.0 ≡ 0 = m.front y.0 r.1 in
                  ap₂ (λ t n. cond t (suc n) n) (at y j) z
              | inr j ↦ ap (λ t. cond t (suc (holders plan y.0)) (holders plan y.0)) (out y j) ∙ m.once y j
            ];
            front = λ i f. ap (λ t. cond t (suc (holders plan i)) (holders plan i)) (out_of low k i last between (inl f)) ∙ m.front i (omega arith);
          }
    ] refl
  where
    not_nil : List (ℕ × Op) → Bool
    not_nil [] = false
    not_nil (y ∷ ys) = true

    more : (ys : List (ℕ × Op)) (y : ℕ × Op) → ys ++ y ∷ [] ≡ [] → ⊥
    more [] y f = false≢true (ap not_nil (sym f))
    more (z ∷ zs) y f = false≢true (ap not_nil (sym f))

pub linear_legal : LinearIsLegal
linear_legal [] = refl
linear_legal (op ∷ ops) =
    let list : List Op = op ∷ ops in
    let x : ℕ × Op = (1, op) in
    let plan : List (List ℕ) = linear_plan list in
    let m = made 1 2 (x ∷ []) ops (λ f. absurd (false≢true (ap none (sym f)))) ((omega arith, omega arith), tt) (tt, tt) (omega arith) in
    legal_from list plan
    (record {
      some = m.some;
      within = λ b i n h. let r = m.within b i n h in let s : n < 2 + length ops = r.1 in let u : 1 ≤ n = r.0 in (omega arith, omega arith);
      once = λ i l u. at_number (λ i. holders plan i ≡ 1) 1 list (in_all (λ (y : ℕ × Op). holders plan y.0 ≡ 1) (numbered list) m.once) i (omega arith) (omega arith);
    })
    (Pairs_weaker (Level plan) (LegalPair plan) (λ y z h. (h.0, λ _. h.1)) (numbered list) m.levels)
  where
    none : List (ℕ × Op) → Bool
    none [] = false
    none (y ∷ ys) = true
