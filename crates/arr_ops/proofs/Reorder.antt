-- Running blocks one after another, over any step: what is brought to the front passes only what it commutes with.
use Rattle.std.proofs.Common.{◌≡◌, List, [], ◌∷◌, Bool, true, false, cond, not, refl, ap, ◌∙◌}
use Rattle.std.specs.List.{filter, AllByRecursion}
use Rattle.arr_ops.proofs.Pairs.{Pairs, All_weaker}

module _ {M N : Type 0} (S : M → N → M) where
  abbrev pub run : M → List N → M
  run m [] = m
  run m (x ∷ xs) = run (S m x) xs

  abbrev pub Commutes : N → N → Type 0
  Commutes x y = (m : M) → S (S m x) y ≡ S (S m y) x

  -- of x before y, where y is taken to the front
  abbrev pub MayPass : (N → Bool) → N → N → Type 0
  MayPass p x y = p x ≡ false → p y ≡ true → Commutes x y

  bubble : (p : N → Bool) (x : N) (m : M) (xs : List N) → AllByRecursion (λ y. p y ≡ true → Commutes x y) xs
      → run (S m x) (filter p xs) ≡ S (run m (filter p xs)) x
  bubble p x m [] h = refl
  bubble p x m (y ∷ ys) h =
      elim (p y) as (λ b. (b ≡ true → Commutes x y) → run (S m x) (cond b (y ∷ filter p ys) (filter p ys)) ≡ S (run m (cond b (y ∷ filter p ys) (filter p ys))) x) [
        | true ↦ λ c. ap (λ k. run k (filter p ys)) (c refl m) ∙ bubble p x (S m y) ys h.1
        | false ↦ λ c. bubble p x m ys h.1
      ] h.0

  -- what passes p may run first
  pub split : (p : N → Bool) (m : M) (xs : List N) → Pairs (MayPass p) xs
      → run m xs ≡ run (run m (filter p xs)) (filter (λ x. not (p x)) xs)
  split p m [] h = refl
  split p m (x ∷ xs) h =
      elim (p x) as (λ b. p x ≡ b → run m (x ∷ xs) ≡ run (run m (cond b (x ∷ filter p xs) (filter p xs))) (cond (not b) (x ∷ filter (λ x. not (p x)) xs) (filter (λ x. not (p x)) xs))) [
        | true ↦ λ e. split p (S m x) xs h.1
        | false ↦ λ e. split p (S m x) xs h.1
            ∙ ap (λ k. run k (filter (λ x. not (p x)) xs)) (bubble p x m xs (All_weaker (MayPass p x) (λ y. p y ≡ true → Commutes x y) (λ y k. k e) xs h.0))
      ] refl
