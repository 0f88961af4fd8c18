-- What a loop over the numbers from 1 on knows.
use Rattle.std.proofs.Common.{◌≡◌, ℕ, zero, suc, ◌+◌, ◌<◌, ◌≤◌, List, [], ◌∷◌, ◌++◌, length, get_or, map, Bool, true, false, cond, not, ◌&&◌, refl, sym, ap, ap₂, ◌∙◌, arith}
use Rattle.std.specs.List.{list_all, filter, position_or_len, range_with_len}
use Rattle.std.proofs.lemmas.List.Folds.{list_all-append}
use Rattle.arr_view.specs.Views.{has}
use Rattle.arr_ops.specs.Plans.{place}
use Rattle.arr_heur.proofs.Stretches.{range_more}

and_false : (b : Bool) → (b && false) ≡ false
and_false true = refl
and_false false = refl

pub numbers_more : (G : ℕ → Bool) (k : ℕ) → list_all G (range_with_len 1 k) ≡ true → G (k + 1) ≡ true → list_all G (range_with_len 1 (k + 1)) ≡ true
numbers_more G k all here =
    ap (list_all G) (range_more 1 k) ∙ (list_all-append G (range_with_len 1 k) ((1 + k) ∷ []) ∙ ap₂ (λ a b. a && (b && true)) all (ap G (let e : 1 + k ≡ k + 1 = omega arith in e) ∙ here))

fails_from : (G : ℕ → Bool) (a n k : ℕ) → a ≤ k → k < a + n → G k ≡ false → list_all G (range_with_len a n) ≡ false
fails_from G a zero k l m e = absurd (omega arith)
fails_from G a (suc n) k l m e = go (G a) refl (λ later. fails_from G (a + 1) n k later (omega arith) e)
  where
    go : (b : Bool) → G a ≡ b → (a + 1 ≤ k → list_all G (range_with_len (a + 1) n) ≡ false) → (G a && list_all G (range_with_len (a + 1) n)) ≡ false
    go false here ih = ap (λ b. b && list_all G (range_with_len (a + 1) n)) here
    go true here ih = ap (λ b. G a && b) (ih (above here)) ∙ and_false (G a)
      where
        above : G a ≡ true → a + 1 ≤ k
        above t = later_than (λ same. let f : true ≡ false = sym t ∙ (ap G same ∙ e) in cc) l
          where
            later_than : (a ≡ k → ⊥) → a ≤ k → a + 1 ≤ k
            later_than ne le = omega arith

pub numbers_fail : (G : ℕ → Bool) (n k : ℕ) → k < n → G (k + 1) ≡ false → list_all G (range_with_len 1 n) ≡ false
numbers_fail G n k l e = fails_from G 1 n (k + 1) (omega arith) (omega arith) e

pub filter_last : {X : Type 0} (p : X → Bool) (xs : List X) (x : X) → filter p (xs ++ x ∷ []) ≡ filter p xs ++ cond (p x) (x ∷ []) []
filter_last p [] x = refl
filter_last {X} p (y ∷ ys) x = go (p y) (filter_last p ys x)
  where
    go : (b : Bool) → filter p (ys ++ x ∷ []) ≡ filter p ys ++ cond (p x) (x ∷ []) [] → cond b (y ∷ filter p (ys ++ x ∷ [])) (filter p (ys ++ x ∷ [])) ≡ cond b (y ∷ filter p ys) (filter p ys) ++ cond (p x) (x ∷ []) []
    go true ih = ap (λ zs. y ∷ zs) ih
    go false ih = ih

-- one more number that may pass a filter
pub filter_more : (p : ℕ → Bool) (a k : ℕ) → filter p (range_with_len a (k + 1)) ≡ filter p (range_with_len a k) ++ cond (p (a + k)) ((a + k) ∷ []) []
filter_more p a k = ap (filter p) (range_more a k) ∙ filter_last p (range_with_len a k) (a + k)

-- ---- positions in a range

one_more : {m k : ℕ} → m ≡ k → 1 + m ≡ suc k
one_more {m} {k} e = omega (arith, e)

-- what none before passes and it passes stands at its position
pub position_at : (p : ℕ → Bool) (a n k : ℕ) → k < n → ((j : ℕ) → j < k → p (a + j) ≡ false) → p (a + k) ≡ true → position_or_len p (range_with_len a n) ≡ k
position_at p a zero k l h e = absurd (omega arith)
position_at p a (suc n) zero l h e = ap (λ b. cond (not b) (1 + position_or_len p (range_with_len (a + 1) n)) 0) (ap p (let z : a ≡ a + 0 = omega arith in z) ∙ e)
position_at p a (suc n) (suc k) l h e =
    ap (λ b. cond (not b) (1 + position_or_len p (range_with_len (a + 1) n)) 0) (ap p (let z : a ≡ a + 0 = omega arith in z) ∙ h 0 (omega arith))
    ∙ one_more (position_at p (a + 1) n k (omega arith) (λ j m. ap p (let z : a + 1 + j ≡ a + suc j = omega arith in z) ∙ h (suc j) (omega arith)) (ap p (let z : a + 1 + k ≡ a + suc k = omega arith in z) ∙ e))

pub position_none : (p : ℕ → Bool) (a n : ℕ) → ((j : ℕ) → j < n → p (a + j) ≡ false) → position_or_len p (range_with_len a n) ≡ n
position_none p a zero h = refl
position_none p a (suc n) h =
    ap (λ b. cond (not b) (1 + position_or_len p (range_with_len (a + 1) n)) 0) (ap p (let z : a ≡ a + 0 = omega arith in z) ∙ h 0 (omega arith))
    ∙ one_more (position_none p (a + 1) n (λ j m. ap p (let z : a + 1 + j ≡ a + suc j = omega arith in z) ∙ h (suc j) (omega arith)))

-- one more number of a mapped range
pub map_more : {X : Type 0} (h : ℕ → X) (a k : ℕ) → map h (range_with_len a (k + 1)) ≡ map h (range_with_len a k) ++ h (a + k) ∷ []
map_more h a k = ap (map h) (range_more a k) ∙ join (range_with_len a k) (a + k)
  where
    join : (xs : List ℕ) (x : ℕ) → map h (xs ++ x ∷ []) ≡ map h xs ++ h x ∷ []
    join [] x = refl
    join (y ∷ ys) x = ap (λ zs. h y ∷ zs) (join ys x)

-- ---- places in a plan

pub place_here : (plan : List (List ℕ)) (f k : ℕ) → k < length plan → ((j : ℕ) → j < k → has (get_or plan j []) f ≡ false) → has (get_or plan k []) f ≡ true → place plan f ≡ k
place_here [] f k l h e = absurd (omega arith)
place_here (b ∷ plan) f zero l h e = ap (λ t. cond t 0 (suc (place plan f))) e
place_here (b ∷ plan) f (suc k) l h e = ap (λ t. cond t 0 (suc (place plan f))) (h 0 (omega arith)) ∙ ap suc (place_here plan f k (omega arith) (λ j m. h (suc j) (omega arith)) e)

pub place_none : (plan : List (List ℕ)) (f : ℕ) → ((j : ℕ) → j < length plan → has (get_or plan j []) f ≡ false) → place plan f ≡ length plan
place_none [] f h = refl
place_none (b ∷ plan) f h = ap (λ t. cond t 0 (suc (place plan f))) (h 0 (omega arith)) ∙ ap suc (place_none plan f (λ j m. h (suc j) (omega arith)))

pub get_map : {X Y : Type 0} (f : X → Y) (xs : List X) (k : ℕ) (d : X) (e : Y) → k < length xs → get_or (map f xs) k e ≡ f (get_or xs k d)
get_map f [] k d e l = absurd (omega arith)
get_map f (x ∷ xs) zero d e l = refl
get_map f (x ∷ xs) (suc k) d e l = get_map f xs k d e (omega arith)
