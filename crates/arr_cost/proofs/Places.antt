-- The first place that passes, walked from the front.
use Rattle.std.proofs.Common.{◌≡◌, ℕ, zero, suc, ◌+◌, ◌<◌, ◌≤◌, List, [], ◌∷◌, Bool, true, false, cond, not, length, drop, get_or, refl, ap, sym, ◌∙◌, arith}
use Rattle.std.specs.List.{position_or_len}

pub passes_here : {X : Type 0} (p : X → Bool) (xs : List X) (i : ℕ) (x : X) → i < length xs → x ≡ get_or xs i x → p x ≡ true → position_or_len p (drop i xs) ≡ 0
passes_here p [] i x l e h = absurd (omega arith)
passes_here p (y ∷ xs) zero x l e h = ap (λ b. cond (not b) (1 + position_or_len p xs) 0) (sym (ap p e) ∙ h)
passes_here p (y ∷ xs) (suc i) x l e h = passes_here p xs i x (omega arith) e h

pub fails_here : {X : Type 0} (p : X → Bool) (xs : List X) (i : ℕ) (x : X) → i < length xs → x ≡ get_or xs i x → p x ≡ false → position_or_len p (drop i xs) ≡ 1 + position_or_len p (drop (i + 1) xs)
fails_here p [] i x l e h = absurd (omega arith)
fails_here p (y ∷ xs) zero x l e h = ap (λ b. cond (not b) (1 + position_or_len p xs) 0) (sym (ap p e) ∙ h)
fails_here p (y ∷ xs) (suc i) x l e h = fails_here p xs i x (omega arith) e h ∙ ap (λ n. 1 + position_or_len p (drop n (y ∷ xs))) (let z : suc (i + 1) ≡ suc i + 1 = omega arith in z)

pub none_left : {X : Type 0} (p : X → Bool) (xs : List X) (i : ℕ) → length xs ≤ i → position_or_len p (drop i xs) ≡ 0
none_left p [] zero l = refl
none_left p [] (suc i) l = refl
none_left p (x ∷ xs) zero l = absurd (omega arith)
none_left p (x ∷ xs) (suc i) l = none_left p xs i (omega arith)
