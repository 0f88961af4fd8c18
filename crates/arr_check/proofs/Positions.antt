-- The first of a list that passes a test.
use Rattle.std.proofs.Common.{◌≡◌, ℕ, zero, suc, ◌+◌, ◌<◌, ◌≤◌, List, [], ◌∷◌, Bool, true, false, cond, Some, None, length, take, get_or, refl, ap, ap₂, sym, ◌∙◌, arith}
use Rattle.std.specs.Prelude.{◌||◌, not, nat_lt, position}
use Rattle.std.specs.List.{list_any, position_or_len}
use Rattle.std.proofs.lemmas.Bool.{false≢true, lt-ltb, le-ltb}
use Rattle.std.proofs.lemmas.List.{take_all, take_more}
use Rattle.std.proofs.lemmas.List.Folds.{list_any-append}
use Rattle.arr_ops.specs.declared.op.Op.{Op}
use Rattle.arr_law.specs.ProblemOf.{first_where}

pub neither : (a b : Bool) → a ≡ false → b ≡ false → (a || b) ≡ false
neither a b e f = ap₂ (λ x y. x || y) e f

pub none_more : {X : Type 0} (p : X → Bool) (xs : List X) (i : ℕ) (x : X) → i < length xs → x ≡ get_or xs i x → list_any p (take i xs) ≡ false → p x ≡ false → list_any p (take (i + 1) xs) ≡ false
none_more p xs i x l here none fails =
    ap (list_any p) (take_more xs i x l) ∙ list_any-append p (take i xs) (get_or xs i x ∷ [])
    ∙ neither (list_any p (take i xs)) _ none (neither (p (get_or xs i x)) false (ap p (sym here) ∙ fails) refl)

pub record First {X : Type 0} (p : X → Bool) (xs : List X) (i : ℕ) : Type 0 where
  pub any : list_any p xs ≡ true
  pub at : position_or_len p xs ≡ i

pub first_at : {X : Type 0} (p : X → Bool) (xs : List X) (i : ℕ) (x : X) → i < length xs → x ≡ get_or xs i x → list_any p (take i xs) ≡ false → p x ≡ true → First p xs i
first_at p [] i x l here none passes = absurd (omega arith)
first_at p (y ∷ xs) zero x l here none passes =
    let e : p y ≡ true = ap p (sym here) ∙ passes in
    record { any = ap (λ b. b || list_any p xs) e; at = ap (λ b. cond (not b) (1 + position_or_len p xs) 0) e }
first_at p (y ∷ xs) (suc i) x l here none passes =
    elim (p y) as (λ b. p y ≡ b → (b || list_any p (take i xs)) ≡ false → First p (y ∷ xs) (suc i)) [
      | true ↦ λ e k. absurd (false≢true (sym k))
      | false ↦ λ e k.
          let r = first_at p xs i x (omega arith) here k passes in
          let one : 1 + position_or_len p xs ≡ suc i = let at = r.at in omega arith in
          record { any = ap (λ b. b || list_any p xs) e ∙ r.any; at = ap (λ b. cond (not b) (1 + position_or_len p xs) 0) e ∙ one }
    ] refl none

pub nowhere : {X : Type 0} (p : X → Bool) (xs : List X) → list_any p xs ≡ false → position_or_len p xs ≡ length xs
nowhere p [] e = refl
nowhere p (x ∷ xs) e =
    elim (p x) as (λ b. p x ≡ b → (b || list_any p xs) ≡ false → cond (not b) (1 + position_or_len p xs) 0 ≡ suc (length xs)) [
      | true ↦ λ f k. absurd (false≢true (sym k))
      | false ↦ λ f k. let r : position_or_len p xs ≡ length xs = nowhere p xs k in omega arith
    ] refl e

pub position_at : {X : Type 0} (p : X → Bool) (xs : List X) (i : ℕ) → i < length xs → First p xs i → Some i ≡ position p xs
position_at p xs i l f = sym (ap (λ n. cond (nat_lt n (length xs)) (Some n) None) f.at ∙ ap (λ b. cond b (Some i) None) (lt-ltb i (length xs) l))

pub position_none : {X : Type 0} (p : X → Bool) (xs : List X) → list_any p xs ≡ false → None ≡ position p xs
position_none p xs e = sym (ap (λ n. cond (nat_lt n (length xs)) (Some n) None) (nowhere p xs e) ∙ ap (λ b. cond b (Some (length xs)) None) (le-ltb (length xs) (length xs) (omega arith)))

pub numbered_at : (p : Op → Bool) (xs : List Op) (i : ℕ) → First p xs i → Some (i + 1) ≡ first_where p xs
numbered_at p xs i f = sym (ap₂ (λ b n. cond b (Some (suc n)) None) f.any f.at ∙ ap Some (let e : suc i ≡ i + 1 = omega arith in e))

pub numbered_none : (p : Op → Bool) (xs : List Op) → list_any p xs ≡ false → None ≡ first_where p xs
numbered_none p xs e = sym (ap (λ b. cond b (Some (suc (position_or_len p xs))) None) e)

pub none_at_all : {X : Type 0} (p : X → Bool) (xs : List X) (i : ℕ) → length xs ≤ i → list_any p (take i xs) ≡ false → list_any p xs ≡ false
none_at_all p xs i end e = ap (list_any p) (sym (take_all i xs end)) ∙ e
