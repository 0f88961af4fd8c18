-- Lists of native numbers, place by place.
use Rattle.std.proofs.Common.{◌≡◌, ◌≢◌, ℕ, suc, zero, ◌+◌, ◌<◌, ℤ, List, [], ◌∷◌, true, false, refl, ap, sym, ◌∙◌, arith, length, get_or, set}
use Rattle.std.proofs.lemmas.Bool.{eqb-true, eqb-false}
use Rattle.std.specs.Prelude.{◌==◌}
use Rattle.arr_native.specs.Entries.{entry}

-- the number of what stands at a place
pub entry_is : {T : Type 0} (f : T → ℤ) (xs : List T) (i : ℕ) (x : T) → i < length xs → x ≡ get_or xs i x → entry f xs i ≡ f x
entry_is f [] i x l e = absurd (omega arith)
entry_is f (y ∷ xs) zero x l e = ap f (sym e)
entry_is f (y ∷ xs) (suc i) x l e = entry_is f xs i x (omega arith) e

pub entry_set_same : {T : Type 0} (f : T → ℤ) (xs : List T) (i : ℕ) (x : T) → i < length xs → entry f (set xs i x) i ≡ f x
entry_set_same f [] i x l = absurd (omega arith)
entry_set_same f (y ∷ xs) zero x l = refl
entry_set_same f (y ∷ xs) (suc i) x l = entry_set_same f xs i x (omega arith)

pub entry_set_other : {T : Type 0} (f : T → ℤ) (xs : List T) (i k : ℕ) (x : T) → k ≢ i → entry f (set xs i x) k ≡ entry f xs k
entry_set_other f [] i k x ne = refl
entry_set_other f (y ∷ xs) zero zero x ne = absurd (ne refl)
entry_set_other f (y ∷ xs) zero (suc k) x ne = refl
entry_set_other f (y ∷ xs) (suc i) zero x ne = refl
entry_set_other f (y ∷ xs) (suc i) (suc k) x ne = entry_set_other f xs i k x (λ e. ne (ap suc e))

-- one number more of a list that a loop fills from the front
pub entry_more : {T : Type 0} (f : T → ℤ) (wanted : ℕ → ℤ) (xs : List T) (i : ℕ) (x : T) → i < length xs
    → ((k : ℕ) → k < i → entry f xs k ≡ wanted k) → f x ≡ wanted i → (k : ℕ) → k < i + 1 → entry f (set xs i x) k ≡ wanted k
entry_more f wanted xs i x l before here k u =
    elim (k == i) as (λ d. (k == i) ≡ d → entry f (set xs i x) k ≡ wanted k) [
      | true ↦ λ d. let e : k ≡ i = eqb-true k i d in ap (entry f (set xs i x)) e ∙ entry_set_same f xs i x l ∙ here ∙ ap wanted (sym e)
      | false ↦ λ d. let ne : k ≢ i = eqb-false k i d in entry_set_other f xs i k x ne ∙ before k (omega arith)
    ] refl
