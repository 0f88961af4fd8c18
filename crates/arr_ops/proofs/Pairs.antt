-- What holds of each element and of each pair, the earlier first, by recursion on the list.
use Rattle.std.proofs.Common.{◌≡◌, List, [], ◌∷◌, Bool, true, false, cond, refl}
use Rattle.std.specs.List.{filter, AllByRecursion}

abbrev pub Pairs : {X : Type 0} → (X → X → Type 0) → List X → Type 0
Pairs R [] = Unit {0}
Pairs R (x ∷ xs) = AllByRecursion (R x) xs × Pairs R xs

pub All_weaker : {X : Type 0} (P Q : X → Type 0) → ((x : X) → P x → Q x) → (xs : List X) → AllByRecursion P xs → AllByRecursion Q xs
All_weaker P Q f [] h = tt
All_weaker P Q f (x ∷ xs) h = (f x h.0, All_weaker P Q f xs h.1)

pub Pairs_weaker : {X : Type 0} (R Q : X → X → Type 0) → ((x y : X) → R x y → Q x y) → (xs : List X) → Pairs R xs → Pairs Q xs
Pairs_weaker R Q f [] h = tt
Pairs_weaker R Q f (x ∷ xs) h = (All_weaker (R x) (Q x) (f x) xs h.0, Pairs_weaker R Q f xs h.1)

pub All_filter : {X : Type 0} (P : X → Type 0) (p : X → Bool) (xs : List X) → AllByRecursion (λ x. p x ≡ true → P x) xs → AllByRecursion P (filter p xs)
All_filter P p [] h = tt
All_filter P p (x ∷ xs) h =
    elim (p x) as (λ b. (b ≡ true → P x) → AllByRecursion P (cond b (x ∷ filter p xs) (filter p xs))) [
      | true ↦ λ k. (k refl, All_filter P p xs h.1)
      | false ↦ λ k. All_filter P p xs h.1
    ] h.0

pub Pairs_filter : {X : Type 0} (R : X → X → Type 0) (p : X → Bool) (xs : List X) → Pairs (λ x y. p x ≡ true → p y ≡ true → R x y) xs → Pairs R (filter p xs)
Pairs_filter R p [] h = tt
Pairs_filter R p (x ∷ xs) h =
    elim (p x) as (λ b. p x ≡ b → Pairs R (cond b (x ∷ filter p xs) (filter p xs))) [
      | true ↦ λ e. (All_filter (R x) p xs (All_weaker (λ y. p x ≡ true → p y ≡ true → R x y) (λ y. p y ≡ true → R x y) (λ y k. k e) xs h.0), Pairs_filter R p xs h.1)
      | false ↦ λ e. Pairs_filter R p xs h.1
    ] refl

pub Pairs_All : {X : Type 0} (P : X → Type 0) (R Q : X → X → Type 0) → ((x y : X) → P x → P y → R x y → Q x y) → (xs : List X)
    → AllByRecursion P xs → Pairs R xs → Pairs Q xs
Pairs_All P R Q f [] a h = tt
Pairs_All P R Q f (x ∷ xs) a h =
    (both xs a.1 h.0, Pairs_All P R Q f xs a.1 h.1)
  where
    both : (ys : List _) → AllByRecursion P ys → AllByRecursion (R x) ys → AllByRecursion (Q x) ys
    both [] b k = tt
    both (y ∷ ys) b k = (f x y a.0 b.0 k.0, both ys b.1 k.1)

pub Pairs_both : {X : Type 0} (R Q : X → X → Type 0) (xs : List X) → Pairs R xs → Pairs Q xs → Pairs (λ x y. R x y × Q x y) xs
Pairs_both R Q [] a b = tt
Pairs_both R Q (x ∷ xs) a b = (both xs a.0 b.0, Pairs_both R Q xs a.1 b.1)
  where
    both : (ys : List _) → AllByRecursion (R x) ys → AllByRecursion (Q x) ys → AllByRecursion (λ y. R x y × Q x y) ys
    both [] c d = tt
    both (y ∷ ys) c d = ((c.0, d.0), both ys c.1 d.1)
