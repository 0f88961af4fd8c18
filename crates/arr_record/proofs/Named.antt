-- Names, one more or one less, and how many stand for a base.
use Rattle.std.proofs.Common.{◌≡◌, ℕ, ◌≤◌, suc, List, [], ◌∷◌, Bool, true, false, cond, not, ◌||◌, refl, ap, sym, subst, ◌∙◌, arith, length, Option, Some, None}
use Rattle.std.proofs.lemmas.Bool.{false≢true, eqb-true, eqb-false, eq-eqb, ne_eqb, lt-ltb}
use Rattle.std.specs.Prelude.{◌==◌, nat_lt}
use Rattle.std.specs.List.{AllByRecursion, list_any}
use Rattle.arr_ops.proofs.Pairs.{Pairs, All_weaker, All_filter, Pairs_filter, Pairs_weaker}
use Rattle.arr_elab.specs.Recording.{other_names}
use Rattle.arr_record.specs.Ledger.{base_of, names_for}

abbrev pub stands : List (ℕ × ℕ) → ℕ → Bool
stands names b = list_any (λ (name : ℕ × ℕ). name.1 == b) names

abbrev pub Apart : List (ℕ × ℕ) → Type 0
Apart names = Pairs (λ (x y : ℕ × ℕ). not (x.0 == y.0) ≡ true) names

-- ---- the base of a name

pub base_other : (names : List (ℕ × ℕ)) (k n : ℕ) → base_of (other_names k names) n ≡ cond (k == n) None (base_of names n)
base_other [] k n = none (k == n) None
  where
    none : (b : Bool) (x : Option ℕ) → x ≡ cond b x x
    none true x = refl
    none false x = refl
base_other (x ∷ xs) k n =
    elim (x.0 == k) as (λ t. (x.0 == k) ≡ t → base_of (cond (not t) (x ∷ other_names k xs) (other_names k xs)) n ≡ cond (k == n) None (cond (x.0 == n) (Some x.1) (base_of xs n))) [
      | true ↦ λ e. base_other xs k n
          ∙ elim (k == n) as (λ t. (k == n) ≡ t → cond t None (base_of xs n) ≡ cond t None (cond (x.0 == n) (Some x.1) (base_of xs n))) [
            | true ↦ λ f. refl
            | false ↦ λ f. ap (λ t. cond t (Some x.1) (base_of xs n)) (sym (ne_eqb x.0 n (λ g. eqb-false k n f (sym (eqb-true x.0 k e) ∙ g))))
          ] refl
      | false ↦ λ e.
          elim (x.0 == n) as (λ t. (x.0 == n) ≡ t → cond t (Some x.1) (base_of (other_names k xs) n) ≡ cond (k == n) None (cond t (Some x.1) (base_of xs n))) [
            | true ↦ λ f. ap (λ t. cond t None (Some x.1)) (sym (ne_eqb k n (λ g. eqb-false x.0 k e (eqb-true x.0 n f ∙ sym g))))
            | false ↦ λ f. base_other xs k n
          ] refl
    ] refl

-- no name is left out
others_all : (names : List (ℕ × ℕ)) (k : ℕ) → AllByRecursion (λ (y : ℕ × ℕ). (y.0 == k) ≡ false) names → other_names k names ≡ names
others_all [] k h = refl
others_all (x ∷ xs) k h = ap (λ t. cond (not t) (x ∷ other_names k xs) (other_names k xs)) h.0 ∙ ap (λ ys. x ∷ ys) (others_all xs k h.1)

none_bound : (names : List (ℕ × ℕ)) (k : ℕ) → base_of names k ≡ None → AllByRecursion (λ (y : ℕ × ℕ). (y.0 == k) ≡ false) names
none_bound [] k h = tt
none_bound (x ∷ xs) k h =
    elim (x.0 == k) as (λ t. (x.0 == k) ≡ t → cond t (Some x.1) (base_of xs k) ≡ None → AllByRecursion (λ (y : ℕ × ℕ). (y.0 == k) ≡ false) (x ∷ xs)) [
      | true ↦ λ e g. absurd (cc)
      | false ↦ λ e g. (e, none_bound xs k g)
    ] refl h

pub others_none : (names : List (ℕ × ℕ)) (k : ℕ) → base_of names k ≡ None → other_names k names ≡ names
others_none names k h = others_all names k (none_bound names k h)

pub apart_other : (names : List (ℕ × ℕ)) (k : ℕ) → Apart names → Apart (other_names k names)
apart_other names k h =
    Pairs_filter (λ (x y : ℕ × ℕ). not (x.0 == y.0) ≡ true) (λ (name : ℕ × ℕ). not (name.0 == k)) names
    (Pairs_weaker (λ (x y : ℕ × ℕ). not (x.0 == y.0) ≡ true) (λ (x y : ℕ × ℕ). not (x.0 == k) ≡ true → not (y.0 == k) ≡ true → not (x.0 == y.0) ≡ true) (λ x y t _ _. t) names h)

-- the others have other names
pub apart_first : (names : List (ℕ × ℕ)) (k b : ℕ) → Apart names → Apart ((k, b) ∷ other_names k names)
apart_first names k b h = (
  All_filter (λ (y : ℕ × ℕ). not (k == y.0) ≡ true) (λ (name : ℕ × ℕ). not (name.0 == k)) names (turned names),
  apart_other names k h,
)
  where
    turned : (ns : List (ℕ × ℕ)) → AllByRecursion (λ (y : ℕ × ℕ). not (y.0 == k) ≡ true → not (k == y.0) ≡ true) ns
    turned [] = tt
    turned (y ∷ ys) = (
      (λ t. elim (y.0 == k) as (λ u. (y.0 == k) ≡ u → not u ≡ true → not (k == y.0) ≡ true) [
        | true ↦ λ e f. absurd (false≢true f)
        | false ↦ λ e f. ap not (ne_eqb k y.0 (λ g. eqb-false y.0 k e (sym g)))
      ] refl t),
      turned ys,
    )

-- ---- how many names

pub names_for_other : (names : List (ℕ × ℕ)) (k b₀ : ℕ) → Apart names → base_of names k ≡ Some b₀ → (b : ℕ)
    → names_for names b ≡ cond (b₀ == b) (suc (names_for (other_names k names) b)) (names_for (other_names k names) b)
names_for_other [] k b₀ a h b = absurd (cc)
names_for_other (x ∷ xs) k b₀ a h b =
    elim (x.0 == k) as (λ t. (x.0 == k) ≡ t → cond t (Some x.1) (base_of xs k) ≡ Some b₀
    → names_for (x ∷ xs) b ≡ cond (b₀ == b) (suc (names_for (cond (not t) (x ∷ other_names k xs) (other_names k xs)) b)) (names_for (cond (not t) (x ∷ other_names k xs) (other_names k xs)) b)) [
      | true ↦ λ e g.
          let same : x.1 ≡ b₀ = cc in
          let rest : other_names k xs ≡ xs = others_all xs k
          (All_weaker (λ (y : ℕ × ℕ). not (x.0 == y.0) ≡ true) (λ (y : ℕ × ℕ). (y.0 == k) ≡ false) (λ y t. ne_eqb y.0 k (λ f. false≢true (sym (ap not (eq-eqb x.0 y.0 (eqb-true x.0 k e ∙ sym f))) ∙ t))) xs a.0) in
          ap (λ c. cond (c == b) (suc (names_for xs b)) (names_for xs b)) same ∙ ap (λ ys. cond (b₀ == b) (suc (names_for ys b)) (names_for ys b)) (sym rest)
      | false ↦ λ e g.
          ap (λ n. cond (x.1 == b) (suc n) n) (names_for_other xs k b₀ a.1 g b) ∙ swapped (x.1 == b) (b₀ == b) (names_for (other_names k xs) b)
    ] refl h
  where
    swapped : (s t : Bool) (n : ℕ) → cond s (suc (cond t (suc n) n)) (cond t (suc n) n) ≡ cond t (suc (cond s (suc n) n)) (cond s (suc n) n)
    swapped true true n = refl
    swapped true false n = refl
    swapped false true n = refl
    swapped false false n = refl

pub stands_counted : (names : List (ℕ × ℕ)) (b : ℕ) → stands names b ≡ nat_lt 0 (names_for names b)
stands_counted [] b = refl
stands_counted (x ∷ xs) b =
    elim (x.1 == b) as (λ t. (t || stands xs b) ≡ nat_lt 0 (cond t (suc (names_for xs b)) (names_for xs b))) [
      | true ↦ sym (lt-ltb 0 (suc (names_for xs b)) (omega arith))
      | false ↦ stands_counted xs b
    ]

pub names_for_few : (names : List (ℕ × ℕ)) (b : ℕ) → names_for names b ≤ length names
names_for_few [] b = omega arith
names_for_few (x ∷ xs) b =
    let rest : names_for xs b ≤ length xs = names_for_few xs b in
    elim (x.1 == b) as (λ t. cond t (suc (names_for xs b)) (names_for xs b) ≤ suc (length xs)) [ true ↦ omega arith | false ↦ omega arith ]

pub others_few : (names : List (ℕ × ℕ)) (k : ℕ) → length (other_names k names) ≤ length names
others_few [] k = omega arith
others_few (x ∷ xs) k =
    let rest : length (other_names k xs) ≤ length xs = others_few xs k in
    elim (x.0 == k) as (λ t. length (cond (not t) (x ∷ other_names k xs) (other_names k xs)) ≤ suc (length xs)) [ true ↦ omega arith | false ↦ omega arith ]

-- what a name stands for is stood for
pub found_held : (P : ℕ → Type 0) (names : List (ℕ × ℕ)) (k b : ℕ) → base_of names k ≡ Some b → AllByRecursion (λ (name : ℕ × ℕ). P name.1) names → P b
found_held P [] k b h a = absurd (cc)
found_held P (x ∷ xs) k b h a =
    elim (x.0 == k) as (λ t. cond t (Some x.1) (base_of xs k) ≡ Some b → P b) [
      | true ↦ λ g. let same : x.1 ≡ b = cc in subst P same a.0
      | false ↦ λ g. found_held P xs k b g a.1
    ] h
