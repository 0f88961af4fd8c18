-- From tests that pass to facts on each element and on each pair.
use Rattle.std.proofs.Common.{◌≡◌, ℕ, ◌+◌, List, [], ◌∷◌, Bool, true, false, ◌||◌, ◌&&◌, map, refl, ap, ap₂}
use Rattle.std.proofs.lemmas.Bool.{false≢true, eqb-true}
use Rattle.std.specs.Prelude.{◌==◌}
use Rattle.std.specs.List.{AllByRecursion, list_all, list_any, enumerate_from}
use Rattle.arr_view.specs.Views.{same_lists}
use Rattle.arr_ops.specs.Formed.{all_pairs}
use Rattle.arr_ops.proofs.Pairs.{Pairs}

pub both_left : (a b : Bool) → (a && b) ≡ true → a ≡ true
both_left true b e = refl
both_left false b e = e

pub both_right : (a b : Bool) → (a && b) ≡ true → b ≡ true
both_right true b e = e
both_right false b e = absurd (false≢true e)

-- a test of what a list is mapped to
pub any_map : {X Y : Type 0} (f : X → Y) (t : Y → Bool) (xs : List X) → list_any t (map f xs) ≡ list_any (λ x. t (f x)) xs
any_map f t [] = refl
any_map f t (x ∷ xs) = ap (λ b. t (f x) || b) (any_map f t xs)

pub all_of : {X : Type 0} (p : X → Bool) (xs : List X) → list_all p xs ≡ true → AllByRecursion (λ x. p x ≡ true) xs
all_of p [] e = tt
all_of p (x ∷ xs) e = (both_left (p x) (list_all p xs) e, all_of p xs (both_right (p x) (list_all p xs) e))

pub pairs_of : {X : Type 0} (t : X → X → Bool) (xs : List X) → all_pairs t xs ≡ true → Pairs (λ x y. t x y ≡ true) xs
pairs_of t [] e = tt
pairs_of t (x ∷ xs) e =
    (all_of (t x) xs (both_left (list_all (t x) xs) (all_pairs t xs) e), pairs_of t xs (both_right (list_all (t x) xs) (all_pairs t xs) e))

-- a relation of each to each, at each pair in both directions
pub cross : {X : Type 0} (R : X → X → Type 0) (xs : List X) → AllByRecursion (λ x. AllByRecursion (R x) xs) xs → Pairs (λ x y. R x y × R y x) xs
cross R [] h = tt
cross R (x ∷ xs) h = (heads xs h.0.1 h.1, cross R xs (tails xs h.1))
  where
    heads : (ys : List _) → AllByRecursion (R x) ys → AllByRecursion (λ y. AllByRecursion (R y) (x ∷ xs)) ys → AllByRecursion (λ y. R x y × R y x) ys
    heads [] a b = tt
    heads (y ∷ ys) a b = ((a.0, b.0.0), heads ys a.1 b.1)

    tails : (ys : List _) → AllByRecursion (λ y. AllByRecursion (R y) (x ∷ xs)) ys → AllByRecursion (λ y. AllByRecursion (R y) xs) ys
    tails [] b = tt
    tails (y ∷ ys) b = (b.0.1, tails ys b.1)

pub all_numbered : {X : Type 0} (P : X → Type 0) (k : ℕ) (xs : List X) → AllByRecursion P xs → AllByRecursion (λ (x : ℕ × X). P x.1) (enumerate_from k xs)
all_numbered P k [] h = tt
all_numbered P k (x ∷ xs) h = (h.0, all_numbered P (k + 1) xs h.1)

pub pairs_numbered : {X : Type 0} (R : X → X → Type 0) (k : ℕ) (xs : List X) → Pairs R xs → Pairs (λ (x y : ℕ × X). R x.1 y.1) (enumerate_from k xs)
pairs_numbered R k [] h = tt
pairs_numbered R k (x ∷ xs) h = (all_numbered (R x) (k + 1) xs h.0, pairs_numbered R (k + 1) xs h.1)

pub same_from_test : (xs ys : List ℕ) → same_lists xs ys ≡ true → xs ≡ ys
same_from_test [] [] e = refl
same_from_test [] (y ∷ ys) e = absurd (false≢true e)
same_from_test (x ∷ xs) [] e = absurd (false≢true e)
same_from_test (x ∷ xs) (y ∷ ys) e =
    let a : x ≡ y = eqb-true x y (both_left (x == y) (same_lists xs ys) e) in
    let b : xs ≡ ys = same_from_test xs ys (both_right (x == y) (same_lists xs ys) e) in
    λ i. a i ∷ b i

pub or_cases : {P : Type 0} (a b : Bool) → (a || b) ≡ true → (a ≡ true → P) → (b ≡ true → P) → P
or_cases true b e f g = f refl
or_cases false b e f g = g e

pub test_all : {X : Type 0} (p : X → Bool) (xs : List X) → AllByRecursion (λ x. p x ≡ true) xs → list_all p xs ≡ true
test_all p [] h = refl
test_all p (x ∷ xs) h = ap₂ (λ a b. a && b) h.0 (test_all p xs h.1)
