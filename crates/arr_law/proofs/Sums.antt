-- Sums over numbers below a bound, and sums over a list whose elements stand at different numbers.
use Rattle.std.proofs.Common.{◌≡◌, ◌≢◌, ℕ, zero, suc, ◌+◌, ◌<◌, ◌≤◌, ◌*◌, List, [], ◌∷◌, length, Bool, true, false, cond, refl, sym, ap, subst, arith, eqb, eq-eqb, ⊎_elim}
use Rattle.std.specs.List.{sum_by, AllByRecursion}
use Rattle.std.proofs.lemmas.Bool.{cases_eq, ne_eqb}
use Rattle.std.proofs.lemmas.List.Sums.{sum_by-cons}
use Rattle.arr_ops.proofs.Pairs.{Pairs}
use Rattle.arr_law.specs.Problem.{sum_below}

pub sum_below-le : (h k : ℕ → ℕ) (n : ℕ) → ((i : ℕ) → i < n → h i ≤ k i) → sum_below h n ≤ sum_below k n
sum_below-le h k zero e = omega arith
sum_below-le h k (suc n) e = omega (arith, sum_below-le h k n (λ i l. e i (omega arith)), e n (omega arith))

pub sum_below-same : (h k : ℕ → ℕ) (n : ℕ) → ((i : ℕ) → i < n → h i ≡ k i) → sum_below h n ≡ sum_below k n
sum_below-same h k zero e = refl
sum_below-same h k (suc n) e = omega (arith, sum_below-same h k n (λ i l. e i (omega arith)), e n (omega arith))

sum_below-add : (h k : ℕ → ℕ) (n : ℕ) → sum_below (λ i. h i + k i) n ≡ sum_below h n + sum_below k n
sum_below-add h k zero = refl
sum_below-add h k (suc n) = omega (arith, sum_below-add h k n)

sum_below-zero : (n : ℕ) → sum_below (λ i. 0) n ≡ 0
sum_below-zero zero = refl
sum_below-zero (suc n) = omega (arith, sum_below-zero n)

pub sum_below-swap : (F : ℕ → ℕ → ℕ) (m n : ℕ) → sum_below (λ i. sum_below (F i) n) m ≡ sum_below (λ j. sum_below (λ i. F i j) m) n
sum_below-swap F zero n = sym (sum_below-zero n)
sum_below-swap F (suc m) n = omega (arith, sum_below-swap F m n, sum_below-add (λ j. sum_below (λ i. F i j) m) (F m) n)

pub sum_below-front : (h : ℕ → ℕ) (n : ℕ) → sum_below h (suc n) ≡ h 0 + sum_below (λ i. h (suc i)) n
sum_below-front h zero = omega arith
sum_below-front h (suc n) = omega (arith, sum_below-front h n)

pub sum_by-const : {A : Type 0} (w : ℕ) (xs : List A) → sum_by (λ x. w) xs ≡ w * length xs
sum_by-const w [] = omega arith
sum_by-const w (x ∷ xs) = omega (arith, sum_by-cons (λ x. w) x xs, sum_by-const w xs)

pub cond-le : (a b : Bool) (w : ℕ) → (a ≡ true → b ≡ true) → cond a w 0 ≤ cond b w 0
cond-le true b w step = subst (λ c. w ≤ cond c w 0) (sym (step refl)) (omega arith)
cond-le false b w step = omega arith

-- ---- elements at different numbers

-- g with a 0 at k
abbrev but : (ℕ → ℕ) → ℕ → ℕ → ℕ
but g k i = cond (eqb i k) 0 (g i)

but_here : (g : ℕ → ℕ) (k : ℕ) → but g k k ≡ 0
but_here g k = ap (λ b. cond b 0 (g k)) (eq-eqb k k refl)

but_there : (g : ℕ → ℕ) (k i : ℕ) → (i ≡ k → ⊥) → but g k i ≡ g i
but_there g k i ne = ap (λ b. cond b 0 (g i)) (ne_eqb i k ne)

sum_below-take_out : (g : ℕ → ℕ) (k n : ℕ) → k < n → sum_below g n ≡ g k + sum_below (but g k) n
sum_below-take_out g k zero l = absurd (omega arith)
sum_below-take_out g k (suc n) l = ⊎_elim here (there (sum_below-take_out g k n)) (cases_eq k n)
  where
    here : k ≡ n → sum_below g (suc n) ≡ g k + sum_below (but g k) (suc n)
    here e = omega (arith, sum_below-same g (but g k) n (λ i li. sym (but_there g k i (λ same. omega arith))), ap (but g k) e, but_here g k, ap g e)

    there : (k < n → sum_below g n ≡ g k + sum_below (but g k) n) → (k ≡ n → ⊥) → sum_below g (suc n) ≡ g k + sum_below (but g k) (suc n)
    there ih ne = omega (arith, ih (omega arith), but_there g k n (λ e. ne (sym e)))

-- the elements stand at different numbers
abbrev pub Distinct : {A : Type 0} → (A → ℕ) → List A → Type 0
Distinct at xs = Pairs (λ x y. at x ≢ at y) xs

pub all_both : {A : Type 0} (P Q R : A → Type 0) (xs : List A) → ((x : A) → P x → Q x → R x) → AllByRecursion P xs → AllByRecursion Q xs → AllByRecursion R xs
all_both P Q R [] step p q = tt
all_both P Q R (x ∷ xs) step p q = (step x p.0 q.0, all_both P Q R xs step p.1 q.1)

-- the heart of every bound: where each element gives no more than its number, all together give no more than all numbers
pub sum_distinct : {A : Type 0} (f at : A → ℕ) (n : ℕ) (xs : List A) (g : ℕ → ℕ) → AllByRecursion (λ x. (at x < n) × (f x ≤ g (at x))) xs → Distinct at xs → sum_by f xs ≤ sum_below g n
sum_distinct f at n [] g e d = omega arith
sum_distinct {A} f at n (x ∷ xs) g e d =
    let ih : sum_by f xs ≤ sum_below (but g (at x)) n = sum_distinct f at n xs (but g (at x)) (all_both _ _ _ xs step e.1 d.0) d.1 in
    omega (arith, sum_by-cons f x xs, ih, sum_below-take_out g (at x) n e.0.0, e.0.1)
  where
    step : (y : A) → (at y < n) × (f y ≤ g (at y)) → at x ≢ at y → (at y < n) × (f y ≤ but g (at x) (at y))
    step y h ne = (h.0, subst (λ s. f y ≤ s) (sym (but_there g (at x) (at y) (λ e. ne (sym e)))) h.1)
