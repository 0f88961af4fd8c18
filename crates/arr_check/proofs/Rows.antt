-- Tables that are filled from the first to the last.
use Rattle.std.proofs.Common.{◌≡◌, ℕ, zero, suc, ◌+◌, ◌<◌, ◌≤◌, List, [], ◌∷◌, ◌++◌, length, map, take, get_or, refl, ap, ap₂, sym, ◌∙◌, arith}
use Rattle.std.proofs.lemmas.List.{take_all, take_more}

-- ---- all rows, one after another

map_end : {A B : Type 0} (f : A → B) (xs : List A) (x : A) → map f (xs ++ x ∷ []) ≡ map f xs ++ f x ∷ []
map_end f [] x = refl
map_end f (y ∷ xs) x = ap (λ r. f y ∷ r) (map_end f xs x)

pub one_more : {X Y : Type 0} (f : X → Y) (none : X) (xs : List X) (rows : List Y) (i : ℕ) (row : Y) → i < length xs
    → rows ≡ map f (take i xs) → row ≡ f (get_or xs i none) → rows ++ row ∷ [] ≡ map f (take (i + 1) xs)
one_more f none xs rows i row inside known e =
    ap₂ (λ rs r. rs ++ r ∷ []) known e ∙ sym (map_end f (take i xs) (get_or xs i none))
    ∙ ap (map f) (sym (take_more xs i none inside))

pub all_rows : {X Y : Type 0} (f : X → Y) (xs : List X) (rows : List Y) (i : ℕ) → length xs ≤ i → rows ≡ map f (take i xs) → rows ≡ map f xs
all_rows f xs rows i end known = known ∙ ap (map f) (take_all i xs end)

pub at_map : {A B : Type 0} (f : A → B) (xs : List A) (i : ℕ) (d : A) (e : B) → i < length xs → get_or (map f xs) i e ≡ f (get_or xs i d)
at_map f [] i d e h = absurd (omega arith)
at_map f (x ∷ xs) zero d e h = refl
at_map f (x ∷ xs) (suc i) d e h = at_map f xs i d e (omega arith)

pub any_default : {A : Type 0} (xs : List A) (i : ℕ) (d e : A) → i < length xs → get_or xs i d ≡ get_or xs i e
any_default [] i d e h = absurd (omega arith)
any_default (x ∷ xs) zero d e h = refl
any_default (x ∷ xs) (suc i) d e h = any_default xs i d e (omega arith)
