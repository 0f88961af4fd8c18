-- Lemmas on Bools and sums.
use Rattle.std.proofs.Common.{◌≡◌, ℕ, zero, suc, ◌+◌, ◌*◌, ◌<◌, ◌≤◌, List, [], ◌∷◌, Bool, true, false, not, ◌&&◌, ◌||◌, refl, sym, ap, subst, arith, ⊎_elim}
use Rattle.std.specs.List.{list_any}
use Rattle.std.proofs.lemmas.Bool.{and_parts, and_from, or_left, or_right, true≢false, cases_eq}
use Rattle.arr_ops.proofs.Tests.{or_cases}
use Rattle.arr_law.specs.Problem.{sum_below}
use Rattle.arr_law.proofs.Sums.{sum_below-le}
use Rattle.arr_search.specs.Counts.{bit}

pub or_more : (a b c d : Bool) → (a ≡ true → c ≡ true) → (b ≡ true → d ≡ true) → (a || b) ≡ true → (c || d) ≡ true
or_more a b c d f g e = or_cases a b e (λ x. or_left c d (f x)) (λ y. or_right c d (g y))

pub and_more : (a b c d : Bool) → (a ≡ true → c ≡ true) → (b ≡ true → d ≡ true) → (a && b) ≡ true → (c && d) ≡ true
and_more a b c d f g e = let h = and_parts a b e in and_from c d (f h.0) (g h.1)

pub not_more : (a b : Bool) → (a ≡ true → b ≡ true) → not b ≡ true → not a ≡ true
not_more true true f e = e
not_more true false f e = absurd (true≢false (sym (f refl)))
not_more false b f e = refl

pub any_more : {A : Type 0} (p q : A → Bool) (xs : List A) → ((x : A) → p x ≡ true → q x ≡ true) → list_any p xs ≡ true → list_any q xs ≡ true
any_more p q [] step e = e
any_more p q (x ∷ xs) step e = or_more (p x) (list_any p xs) (q x) (list_any q xs) (step x) (any_more p q xs step) e

pub bit-le : (a b : Bool) → (a ≡ true → b ≡ true) → bit a ≤ bit b
bit-le true b f = subst (λ c. 1 ≤ bit c) (sym (f refl)) (omega arith)
bit-le false b f = omega arith

pub bit-most : (a : Bool) → bit a ≤ 1
bit-most true = omega arith
bit-most false = omega arith

pub sum_below-less : (h k : ℕ → ℕ) (n i : ℕ) → i < n → ((j : ℕ) → j < n → h j ≤ k j) → h i + 1 ≤ k i → sum_below h n + 1 ≤ sum_below k n
sum_below-less h k zero i l e s = absurd (omega arith)
sum_below-less h k (suc n) i l e s = ⊎_elim here (there (λ li. sum_below-less h k n i li (λ j lj. e j (omega arith)) s)) (cases_eq i n)
  where
    here : i ≡ n → sum_below h (suc n) + 1 ≤ sum_below k (suc n)
    here same = omega (arith, sum_below-le h k n (λ j lj. e j (omega arith)), ap h same, ap k same, s)

    there : (i < n → sum_below h n + 1 ≤ sum_below k n) → (i ≡ n → ⊥) → sum_below h (suc n) + 1 ≤ sum_below k (suc n)
    there ih ne = omega (arith, ih (omega arith), e n (omega arith))

pub sum_below-most : (h : ℕ → ℕ) (n m : ℕ) → ((j : ℕ) → j < n → h j ≤ m) → sum_below h n ≤ n * m
sum_below-most h zero m e = omega arith
sum_below-most h (suc n) m e = omega (arith, sum_below-most h n m (λ j l. e j (omega arith)), e n (omega arith))
