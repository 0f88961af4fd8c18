-- Where the numbers of a view's rows stand.
use Rattle.std.proofs.Common.{◌≡◌, ℕ, ◌+◌, ◌-◌, ◌*◌, ◌<◌, suc, zero, ℤ, pos, ◌+ℤ◌, List, [], ◌∷◌, ◌++◌, refl, ap, ap₂, sym, ◌∙◌, arith, map, length, get_or, append_assoc, append-nil}
use Rattle.std.proofs.Math.ListN.{get_or-append}
use Rattle.std.proofs.lemmas.List.{get_or-append_right}
use Rattle.std.specs.List.{flat_map}
use Rattle.arr_view.specs.Strided.{Strided}
use Rattle.arr_view.specs.Views.{elements, places, at_steps, to_place}
use Rattle.arr_strips.specs.Columns.{place_at}
use Rattle.arr_store.specs.Runs.{moved}

abbrev pub row_from : ℕ → ℤ → ℤ → List ℤ
row_from m s y = at_steps (λ w. w ∷ []) m s y

length-row : (m : ℕ) (s y : ℤ) → length (row_from m s y) ≡ m
length-row zero s y = refl
length-row (suc m) s y = ap suc (length-row m s (y +ℤ s))

row_at : (m : ℕ) (s y : ℤ) (i : ℕ) → i < m → get_or (row_from m s y) i (pos 0) ≡ moved y s i
row_at zero s y i l = absurd (omega arith)
row_at (suc m) s y zero l = refl
row_at (suc m) s y (suc i) l = row_at m s (y +ℤ s) i (omega arith)

flat_map-append : (g : ℤ → List ℤ) (xs ys : List ℤ) → flat_map g (xs ++ ys) ≡ flat_map g xs ++ flat_map g ys
flat_map-append g [] ys = refl
flat_map-append g (x ∷ xs) ys = ap (λ r. g x ++ r) (flat_map-append g xs ys) ∙ sym (append_assoc (g x) (flat_map g xs) (flat_map g ys))

steps_flat : (g f : ℤ → List ℤ) (n : ℕ) (s z : ℤ) → flat_map g (at_steps f n s z) ≡ at_steps (λ y. flat_map g (f y)) n s z
steps_flat g f zero s z = refl
steps_flat g f (suc n) s z = flat_map-append g (f z) (at_steps f n s (z +ℤ s)) ∙ ap (λ r. flat_map g (f z) ++ r) (steps_flat g f n s (z +ℤ s))

steps_same : (f g : ℤ → List ℤ) → ((z : ℤ) → f z ≡ g z) → (n : ℕ) (s z : ℤ) → at_steps f n s z ≡ at_steps g n s z
steps_same f g e zero s z = refl
steps_same f g e (suc n) s z = ap₂ (λ x y. x ++ y) (e z) (steps_same f g e n s (z +ℤ s))

-- the last dimension is walked for each place of those before it
pub places_rows : (ns : List ℕ) (ss : List ℤ) (m : ℕ) (s z : ℤ) → length ns ≡ length ss → places (ns ++ m ∷ []) (ss ++ s ∷ []) z ≡ flat_map (row_from m s) (places ns ss z)
places_rows [] [] m s z e = sym (append-nil (row_from m s z))
places_rows [] (r ∷ ss) m s z e = absurd (omega arith)
places_rows (n ∷ ns) [] m s z e = absurd (omega arith)
places_rows (n ∷ ns) (r ∷ ss) m s z e =
    steps_same (places (ns ++ m ∷ []) (ss ++ s ∷ [])) (λ y. flat_map (row_from m s) (places ns ss y)) (λ y. places_rows ns ss m s y (omega arith)) n r z
    ∙ sym (steps_flat (row_from m s) (places ns ss) n r z)

piece_list : (g : ℤ → List ℤ) (len : ℕ) → ((y : ℤ) → length (g y) ≡ len) → (ys : List ℤ) (a r : ℕ) → a < length ys → r < len
    → get_or (flat_map g ys) (a * len + r) (pos 0) ≡ get_or (g (get_or ys a (pos 0))) r (pos 0)
piece_list g len long [] a r l k = absurd (omega arith)
piece_list g len long (y ∷ ys) zero r l k =
    let d : length (g y) ≡ len = long y in
    let start : 0 * len + r ≡ r = omega arith in
    ap (λ q. get_or (g y ++ flat_map g ys) q (pos 0)) start ∙ get_or-append (g y) (flat_map g ys) (pos 0) r (omega arith)
piece_list g len long (y ∷ ys) (suc a) r l k =
    let d : length (g y) ≡ len = long y in
    let back : len + a * len + r - len ≡ a * len + r = omega arith in
    let front : suc a * len + r ≡ len + a * len + r = omega arith in
    ap (λ q. get_or (g y ++ flat_map g ys) q (pos 0)) front
    ∙ get_or-append_right (g y) (flat_map g ys) len (len + a * len + r) (pos 0) d (omega arith)
    ∙ ap (λ q. get_or (flat_map g ys) q (pos 0)) back ∙ piece_list g len long ys a r (omega arith) k

get_or-map : (xs : List ℤ) (i : ℕ) → get_or (map to_place xs) i 0 ≡ to_place (get_or xs i (pos 0))
get_or-map [] i = refl
get_or-map (x ∷ xs) zero = refl
get_or-map (x ∷ xs) (suc i) = get_or-map xs i

-- the place at a column of a row
pub row_place : (v : Strided) (ns : List ℕ) (ss : List ℤ) (m : ℕ) (s : ℤ) → v.lengths ≡ ns ++ m ∷ [] → v.strides ≡ ss ++ s ∷ [] → length ns ≡ length ss
    → (row column : ℕ) → row < length (places ns ss (pos v.start)) → column < m
    → place_at v (row * m + column) ≡ to_place (moved (get_or (places ns ss (pos v.start)) row (pos 0)) s column)
unfolding elements
row_place v ns ss m s el es e row column a b =
    get_or-map (places v.lengths v.strides (pos v.start)) (row * m + column)
    ∙ ap to_place
    (ap₂ (λ l t. get_or (places l t (pos v.start)) (row * m + column) (pos 0)) el es
    ∙ ap (λ xs. get_or xs (row * m + column) (pos 0)) (places_rows ns ss m s (pos v.start) e)
    ∙ piece_list (row_from m s) m (length-row m s) (places ns ss (pos v.start)) row column a b
    ∙ row_at m s (get_or (places ns ss (pos v.start)) row (pos 0)) column b)
