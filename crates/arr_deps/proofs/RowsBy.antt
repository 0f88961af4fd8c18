-- A row of bits that says of each value of a list whether it passes a test, filled from the first to the last.
use Rattle.std.proofs.Common.{◌≡◌, ℕ, zero, suc, ◌+◌, ◌<◌, ◌≤◌, List, [], ◌∷◌, ◌++◌, Bool, true, false, length, map, take, get_or, set, replicate, refl, ap, ap₂, sym, subst, ◌∙◌, arith}
use Rattle.std.specs.Prelude.{nat_lt}
use Rattle.std.proofs.lemmas.Bool.{ltb-true, ltb-false}
use Rattle.std.proofs.lemmas.List.{get_or-set_same, get_or-set_other, length-set, length-replicate, length-map, get_or-take, take_all, take_more}

pub record Row {X : Type 0} (test : X → Bool) (none : X) (xs : List X) (i : ℕ) (row : List Bool) : Type 0 where
  pub long : length row ≡ length xs
  pub done : (k : ℕ) → k < i → get_or row k false ≡ test (get_or xs k none)
  pub rest : (k : ℕ) → i ≤ k → get_or row k false ≡ false

next_too : (P : ℕ → Type 0) (n : ℕ) → ((i : ℕ) → i < n → P i) → P n → (i : ℕ) → i < n + 1 → P i
next_too P n below here i h =
    elim (nat_lt i n) as (λ b. nat_lt i n ≡ b → P i) [
      | true ↦ λ e. below i (ltb-true i n e)
      | false ↦ λ e. let le : n ≤ i = ltb-false i n e in subst P (let same : n ≡ i = omega arith in same) here
    ] refl

no_bit : (n k : ℕ) → get_or (replicate n false) k false ≡ false
no_bit zero k = refl
no_bit (suc n) zero = refl
no_bit (suc n) (suc k) = no_bit n k

pub none_yet : {X : Type 0} (test : X → Bool) (none : X) (xs : List X) (row : List Bool) → row ≡ replicate (length xs) false → Row test none xs 0 row
none_yet test none xs row e = record {
  long = ap length e ∙ length-replicate (length xs) false;
  done = λ k h. absurd (omega arith);
  rest = λ k h. ap (λ r. get_or r k false) e ∙ no_bit (length xs) k;
}

pub passes : {X : Type 0} (test : X → Bool) (none : X) (xs : List X) (i : ℕ) (row : List Bool) → i < length xs → test (get_or xs i none) ≡ true → Row test none xs i row → Row test none xs (i + 1) (set row i true)
passes test none xs i row inside met known =
    let long : length row ≡ length xs = known.long in
    record {
      long = length-set row i true ∙ known.long;
      done = next_too (λ k. get_or (set row i true) k false ≡ test (get_or xs k none)) i
          (λ k h. get_or-set_other row i k true false (omega arith) ∙ known.done k h)
          (get_or-set_same row i true false (omega arith) ∙ sym met);
      rest = λ k h. get_or-set_other row i k true false (omega arith) ∙ known.rest k (omega arith);
    }

pub fails : {X : Type 0} (test : X → Bool) (none : X) (xs : List X) (i : ℕ) (row : List Bool) → test (get_or xs i none) ≡ false → Row test none xs i row → Row test none xs (i + 1) row
fails test none xs i row apart known = record {
  long = known.long;
  done = next_too (λ k. get_or row k false ≡ test (get_or xs k none)) i known.done (known.rest i (omega arith) ∙ sym apart);
  rest = λ k h. known.rest k (omega arith);
}

by_places : {X : Type 0} (test : X → Bool) (row : List Bool) (xs : List X) (none : X) → length row ≡ length xs
    → ((k : ℕ) → k < length xs → get_or row k false ≡ test (get_or xs k none)) → row ≡ map test xs
by_places test [] [] none long each = refl
by_places test [] (x ∷ xs) none long each = absurd (omega arith)
by_places test (b ∷ row) [] none long each = absurd (omega arith)
by_places test (b ∷ row) (x ∷ xs) none long each =
    ap₂ (λ y ys. y ∷ ys) (each 0 (omega arith)) (by_places test row xs none (omega arith) (λ k h. each (suc k) (omega arith)))

pub whole : {X : Type 0} (test : X → Bool) (none : X) (xs : List X) (i : ℕ) (row : List Bool) → length xs ≤ i → Row test none xs i row → row ≡ map test xs
whole test none xs i row end known = by_places test row xs none known.long (λ k h. known.done k (omega arith))

pub at_map : {A B : Type 0} (f : A → B) (xs : List A) (i : ℕ) (d : A) (e : B) → i < length xs → get_or (map f xs) i e ≡ f (get_or xs i d)
at_map f [] i d e h = absurd (omega arith)
at_map f (x ∷ xs) zero d e h = refl
at_map f (x ∷ xs) (suc i) d e h = at_map f xs i d e (omega arith)

pub any_default : {A : Type 0} (xs : List A) (i : ℕ) (d e : A) → i < length xs → get_or xs i d ≡ get_or xs i e
any_default [] i d e h = absurd (omega arith)
any_default (x ∷ xs) zero d e h = refl
any_default (x ∷ xs) (suc i) d e h = any_default xs i d e (omega arith)

-- ---- all rows, one after another

-- for each value, what a test of two says of it and of each
abbrev table : {X : Type 0} → (X → X → Bool) → List X → List (List Bool)
table test xs = map (λ x. map (test x) xs) xs

pub one_more : {X : Type 0} (test : X → X → Bool) (none : X) (xs : List X) (rows : List (List Bool)) (i : ℕ) (row : List Bool) → i < length xs
    → rows ≡ take i (table test xs) → row ≡ map (test (get_or xs i none)) xs → rows ++ row ∷ [] ≡ take (i + 1) (table test xs)
one_more test none xs rows i row inside known e =
    ap₂ (λ rs r. rs ++ r ∷ []) known (e ∙ sym (at_map (λ x. map (test x) xs) xs i none [] inside))
    ∙ sym (take_more (table test xs) i [] (omega (arith, inside, length-map xs (λ x. map (test x) xs))))

pub all_rows : {X : Type 0} (test : X → X → Bool) (xs : List X) (rows : List (List Bool)) (i : ℕ) → length xs ≤ i → rows ≡ take i (table test xs) → rows ≡ table test xs
all_rows test xs rows i end known = known ∙ take_all i (table test xs) (omega (arith, end, length-map xs (λ x. map (test x) xs)))

-- ---- a bit of a table

pub row_of : {X : Type 0} (test : X → X → Bool) (xs : List X) (rows : List (List Bool)) (f : ℕ) (row : List Bool) (none : X) → rows ≡ table test xs → f < length xs → row ≡ get_or rows f row
    → row ≡ map (test (get_or xs f none)) xs
row_of test xs rows f row none e l h = h ∙ ap (λ rs. get_or rs f row) e ∙ at_map (λ x. map (test x) xs) xs f none row l

-- one of the first few rows
pub row_before : {X : Type 0} (test : X → X → Bool) (xs : List X) (rows : List (List Bool)) (f g : ℕ) (row : List Bool) (none : X) → rows ≡ take f (table test xs) → g < f → f < length xs → row ≡ get_or rows g row
    → row ≡ map (test (get_or xs g none)) xs
row_before test xs rows f g row none e less l h =
    h ∙ ap (λ rs. get_or rs g row) e ∙ get_or-take f (table test xs) g row less ∙ at_map (λ x. map (test x) xs) xs g none row (omega arith)

pub row_long : {X : Type 0} (test : X → Bool) (xs : List X) (row : List Bool) → row ≡ map test xs → length row ≡ length xs
row_long test xs row e = ap length e ∙ length-map xs test

pub bit_of : {X : Type 0} (test : X → Bool) (xs : List X) (row : List Bool) (g : ℕ) (none : X) → row ≡ map test xs → g < length xs → get_or row g false ≡ test (get_or xs g none)
bit_of test xs row g none e l = ap (λ r. get_or r g false) e ∙ at_map test xs g none false l
