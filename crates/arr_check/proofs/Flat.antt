-- A table that is one list: row after row, all of one length.
use Rattle.std.proofs.Common.{◌≡◌, ℕ, zero, suc, ◌+◌, ◌*◌, ◌<◌, ◌≤◌, List, [], ◌∷◌, ◌++◌, length, get_or, refl, ap, ◌∙◌, arith}
use Rattle.std.specs.List.{flat_map}
use Rattle.std.proofs.lemmas.List.{length-append}
use Rattle.std.proofs.Math.Nat.{mul-le-mul_left}

at_left : {Y : Type 0} (xs ys : List Y) (i : ℕ) (d : Y) → i < length xs → get_or (xs ++ ys) i d ≡ get_or xs i d
at_left [] ys i d l = absurd (omega arith)
at_left (x ∷ xs) ys zero d l = refl
at_left (x ∷ xs) ys (suc i) d l = at_left xs ys i d (omega arith)

at_right : {Y : Type 0} (xs ys : List Y) (i : ℕ) (d : Y) → get_or (xs ++ ys) (length xs + i) d ≡ get_or ys i d
at_right [] ys i d = let same : 0 + i ≡ i = omega arith in ap (λ k. get_or ys k d) same
at_right (x ∷ xs) ys i d = let same : suc (length xs) + i ≡ suc (length xs + i) = omega arith in ap (λ k. get_or (x ∷ (xs ++ ys)) k d) same ∙ at_right xs ys i d

pub at_flat : {X Y : Type 0} (f : X → List Y) (n : ℕ) → ((x : X) → length (f x) ≡ n) → (xs : List X) (i j : ℕ) (e : X) (d : Y) → i < length xs → j < n
    → get_or (flat_map f xs) (i * n + j) d ≡ get_or (f (get_or xs i e)) j d
at_flat f n h [] i j e d l m = absurd (omega arith)
at_flat f n h (x ∷ xs) zero j e d l m =
    let same : 0 * n + j ≡ j = omega arith in
    ap (λ k. get_or (f x ++ flat_map f xs) k d) same ∙ at_left (f x) (flat_map f xs) j d (omega (arith, h x))
at_flat f n h (x ∷ xs) (suc i) j e d l m =
    let long : length (f x) ≡ n = h x in
    let same : suc i * n + j ≡ length (f x) + (i * n + j) = omega (arith, long) in
    ap (λ k. get_or (f x ++ flat_map f xs) k d) same ∙ at_right (f x) (flat_map f xs) (i * n + j) d ∙ at_flat f n h xs i j e d (omega arith) m

pub long_flat : {X Y : Type 0} (f : X → List Y) (n : ℕ) → ((x : X) → length (f x) ≡ n) → (xs : List X) → length (flat_map f xs) ≡ length xs * n
long_flat f n h [] = let none : 0 ≡ 0 * n = omega arith in none
long_flat f n h (x ∷ xs) = let here : length (f x) ≡ n = h x in let rest : length (flat_map f xs) ≡ length xs * n = long_flat f n h xs in omega (arith, here, rest, length-append (f x) (flat_map f xs))

pub place_below : (n a b : ℕ) → a < n → b < n → b * n + a < n * n
place_below n a b l m = let p : n * suc b ≤ n * n = mul-le-mul_left n (let k : suc b ≤ n = omega arith in k) in omega (arith, p)
