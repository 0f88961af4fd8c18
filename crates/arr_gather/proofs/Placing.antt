-- Numbers written one after another leave each position the last value that names it.
use Rattle.std.proofs.Common.{◌≡◌, ◌≢◌, ℕ, zero, suc, ◌+◌, ◌<◌, ℤ, pos, List, [], ◌∷◌, length, map, get_or, set, Bool, true, false, cond, refl, ap, sym, ◌∙◌, arith, Option, Some, None}
use Rattle.std.proofs.lemmas.Bool.{eqb-true, eqb-false, eq-eqb, false≢true}
use Rattle.std.proofs.lemmas.List.{get_or-map, get_or-set_other, get_or-set_same, length-map, length-set, set-get_or, set-set, set_comm, ext_get_or}
use Rattle.std.proofs.lemmas.List.FromFn.{get_or-map-range_with_len, length-map-range_with_len}
use Rattle.std.specs.List.{range_with_len}
use Rattle.std.specs.Prelude.{◌==◌, ◌||◌}
use Rattle.arr_view.specs.Views.{has, repeated}
use Rattle.arr_ops.specs.Gathers.{last_value, later, placed, position_named, value_or}
use Rattle.arr_ops.specs.Memory.{write}
use Rattle.arr_ops.proofs.Writes.{or_left, or_right}
use Rattle.arr_picks.specs.Picks.{numbers_of}
use Rattle.arr_gather.specs.Feeds.{spot}

-- ---- lists by index

-- two functions that agree below n give one list
map_same : {X : Type 0} (f g : ℕ → X) (k n : ℕ) → ((i : ℕ) → i < n → f (k + i) ≡ g (k + i)) → map f (range_with_len k n) ≡ map g (range_with_len k n)
map_same f g k n h = ext_get_or (f k) (map f (range_with_len k n)) (map g (range_with_len k n)) (length-map-range_with_len f k n ∙ sym (length-map-range_with_len g k n))
    (λ i l.
    let below : i < n = omega (arith, length-map-range_with_len f k n) in
    get_or-map-range_with_len f k n i (k + i) (f k) below refl ∙ h i below ∙ sym (get_or-map-range_with_len g k n i (k + i) (f k) below refl))

has_at : (xs : List ℕ) (i x : ℕ) → i < length xs → get_or xs i 0 ≡ x → has xs x ≡ true
has_at [] i x l e = absurd (omega arith)
has_at (y ∷ xs) zero x l e = ap (λ b. b || has xs x) (eq-eqb x y (sym e))
has_at (y ∷ xs) (suc i) x l e = one (x == y) (has_at xs i x (omega arith) e)
  where
    one : (a : Bool) → has xs x ≡ true → (a || has xs x) ≡ true
    one true h = refl
    one false h = h

-- an element stands at one place
pub one_place : (xs : List ℕ) (i j : ℕ) → repeated xs ≡ false → i < length xs → j < length xs → get_or xs i 0 ≡ get_or xs j 0 → i ≡ j
one_place [] i j r l m e = absurd (omega arith)
one_place (x ∷ xs) zero zero r l m e = refl
one_place (x ∷ xs) zero (suc j) r l m e = absurd (false≢true (sym (or_left (has xs x) (repeated xs) r) ∙ has_at xs j x (omega arith) (sym e)))
one_place (x ∷ xs) (suc i) zero r l m e = absurd (false≢true (sym (or_left (has xs x) (repeated xs) r) ∙ has_at xs i x (omega arith) e))
one_place (x ∷ xs) (suc i) (suc j) r l m e = ap suc (one_place xs i j (or_right (has xs x) (repeated xs) r) (omega arith) (omega arith) e)

-- ---- writes

-- what a number was does not matter where every place is written
pub write-set : (ps : List ℕ) (xs ns : List ℤ) (k : ℕ) (x : ℤ) → length xs ≡ length ps → k < length ps → write ps xs (set ns (get_or ps k 0) x) ≡ write ps xs ns
write-set [] xs ns k x e l = absurd (omega arith)
write-set (p ∷ ps) [] ns k x e l = absurd (omega arith)
write-set (p ∷ ps) (y ∷ xs) ns zero x e l = ap (write ps xs) (set-set ns p x y)
write-set (p ∷ ps) (y ∷ xs) ns (suc k) x e l =
    elim (get_or ps k 0 == p) as (λ b. (get_or ps k 0 == p) ≡ b → write ps xs (set (set ns (get_or ps k 0) x) p y) ≡ write ps xs (set ns p y)) [
      | true ↦ λ h. ap (λ q. write ps xs (set (set ns q x) p y)) (eqb-true (get_or ps k 0) p h) ∙ ap (write ps xs) (set-set ns p x y)
      | false ↦ λ h. ap (write ps xs) (set_comm ns (get_or ps k 0) p x y (eqb-false (get_or ps k 0) p h)) ∙ write-set ps xs (set ns p y) k x (omega arith) (omega arith)
    ] refl

-- what stands there already changes nothing
pub write-read : (ps : List ℕ) (ns : List ℤ) → write ps (map (λ p. get_or ns p (pos 0)) ps) ns ≡ ns
write-read [] ns = refl
write-read (p ∷ ps) ns = ap (write ps (map (λ q. get_or ns q (pos 0)) ps)) (set-get_or ns p (pos 0)) ∙ write-read ps ns

-- ---- the last value of each position

none_last : (n q : ℕ) (is xs : List ℤ) → xs ≡ [] → last_value n q is xs ≡ None
none_last n q [] xs e = refl
none_last n q (i ∷ is) xs e = ap (last_value n q (i ∷ is)) e

kept : (ps : List ℕ) (is xs ns : List ℤ) → ((q : ℕ) → last_value (length (numbers_of ns ps)) q is xs ≡ None) → placed (numbers_of ns ps) is xs ≡ numbers_of ns ps
kept ps is xs ns h =
    let zs : List ℤ = numbers_of ns ps in
    ext_get_or (pos 0) (placed zs is xs) zs (length-map-range_with_len (λ q. value_or (last_value (length zs) q is xs) (get_or zs q (pos 0))) 0 (length zs))
    (λ q l.
    let below : q < length zs = omega (arith, length-map-range_with_len (λ q. value_or (last_value (length zs) q is xs) (get_or zs q (pos 0))) 0 (length zs)) in
    get_or-map-range_with_len (λ q. value_or (last_value (length zs) q is xs) (get_or zs q (pos 0))) 0 (length zs) q q (pos 0) below (omega arith)
    ∙ ap (λ o. value_or o (get_or zs q (pos 0))) (h q))

-- one value at a position
one_more : (n q a : ℕ) (x z z' : ℤ) (rest : Option ℤ) → (a ≡ q → z' ≡ x) → (a ≢ q → z' ≡ z) → value_or rest z' ≡ value_or (later (cond (a == q) (Some x) None) rest) z
one_more n q a x z z' (Some y) same other = refl
one_more n q a x z z' None same other =
    elim (a == q) as (λ b. (a == q) ≡ b → z' ≡ value_or (cond b (Some x) None) z) [ true ↦ λ e. same (eqb-true a q e) | false ↦ λ e. other (eqb-false a q e) ] refl

-- Each write in turn, and the last value of each position at once, leave the same.
pub writes_last : (ps : List ℕ) (is xs ns : List ℤ) → repeated ps ≡ false → ((i : ℤ) → position_named (length ps) i < length ps) → ((k : ℕ) → k < length ps → get_or ps k 0 < length ns)
    → write (map (spot ps) is) xs ns ≡ write ps (placed (numbers_of ns ps) is xs) ns
writes_last ps [] xs ns r named inside = sym (ap (λ zs. write ps zs ns) (kept ps [] xs ns (λ q. refl)) ∙ write-read ps ns)
writes_last ps (i ∷ is) [] ns r named inside = sym (ap (λ zs. write ps zs ns) (kept ps (i ∷ is) [] ns (λ q. none_last (length (numbers_of ns ps)) q (i ∷ is) [] refl)) ∙ write-read ps ns)
writes_last ps (i ∷ is) (x ∷ xs) ns r named inside =
    let a : ℕ = position_named (length ps) i in
    let ms : List ℤ = set ns (get_or ps a 0) x in
    let n : ℕ = length (numbers_of ns ps) in
    let size : n ≡ length ps = length-map ps (λ p. get_or ns p (pos 0)) in
    let size' : length (numbers_of ms ps) ≡ length ps = length-map ps (λ p. get_or ms p (pos 0)) in
    let long : length ms ≡ length ns = length-set ns (get_or ps a 0) x in
    let f : ℕ → ℤ = λ q. value_or (last_value (length (numbers_of ms ps)) q is xs) (get_or (numbers_of ms ps) q (pos 0)) in
    let g : ℕ → ℤ = λ q. value_or (last_value n q (i ∷ is) (x ∷ xs)) (get_or (numbers_of ns ps) q (pos 0)) in
    let each : (q : ℕ) → q < n → f (0 + q) ≡ g (0 + q) = λ q l.
    let here : 0 + q ≡ q = omega arith in
    let below : q < length ps = omega arith in
    let old : get_or (numbers_of ns ps) q (pos 0) ≡ get_or ns (get_or ps q 0) (pos 0) = get_or-map (λ p. get_or ns p (pos 0)) ps q 0 (pos 0) below in
    let new : get_or (numbers_of ms ps) q (pos 0) ≡ get_or ms (get_or ps q 0) (pos 0) = get_or-map (λ p. get_or ms p (pos 0)) ps q 0 (pos 0) below in
    ap f here ∙ ap (λ m. value_or (last_value m q is xs) (get_or (numbers_of ms ps) q (pos 0))) (size' ∙ sym size)
    ∙ one_more n q (position_named n i) x (get_or (numbers_of ns ps) q (pos 0)) (get_or (numbers_of ms ps) q (pos 0)) (last_value n q is xs)
    (λ e.
    let same : a ≡ q = ap (λ m. position_named m i) (sym size) ∙ e in
    new ∙ ap (λ k. get_or ms (get_or ps k 0) (pos 0)) (sym same) ∙ get_or-set_same ns (get_or ps a 0) x (pos 0) (inside a (named i)))
    (λ d.
    new ∙ get_or-set_other ns (get_or ps a 0) (get_or ps q 0) x (pos 0) (λ e. d (ap (λ m. position_named m i) size ∙ sym (one_place ps q a r below (named i) e))) ∙ sym old)
    ∙ ap g (sym here)
    in
    let lists : placed (numbers_of ms ps) is xs ≡ placed (numbers_of ns ps) (i ∷ is) (x ∷ xs) =
    ap (λ m. map f (range_with_len 0 m)) (size' ∙ sym size) ∙ map_same f g 0 n each in
    writes_last ps is xs ms r named (λ k l. omega (arith, inside k l))
    ∙ ap (λ zs. write ps zs ms) lists
    ∙ write-set ps (placed (numbers_of ns ps) (i ∷ is) (x ∷ xs)) ns a x (length-map-range_with_len g 0 n ∙ size) (named i)
