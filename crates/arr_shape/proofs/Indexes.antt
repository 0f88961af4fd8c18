-- The elements of a view by their indices.
use Rattle.std.proofs.Common.{◌≡◌, ℕ, suc, ◌*◌, ◌≤◌, ℤ, pos, ◌+ℤ◌, ◌*ℤ◌, List, [], ◌∷◌, ◌++◌, Bool, true, false, ◌&&◌, not, ◌||◌, length, refl, ap, ap₂, sym, ◌∙◌, subst, arith, reverse}
use Rattle.std.specs.Prelude.{nat_le, nat_lt, ◌==◌}
use Rattle.std.specs.List.{list_all}
use Rattle.std.proofs.Math.Nat.{mul_assoc, mul_comm}
use Rattle.std.proofs.lemmas.Int.{ints}
use Rattle.std.proofs.lemmas.Bool.{and_parts, and_from, ltb-true, lt-ltb}
use Rattle.std.proofs.lemmas.List.{reverse-append, length-reverse, reverse-reverse}
use Rattle.std.proofs.lemmas.List.Folds.{list_all-append}
use Rattle.arr_view.specs.Views.{places, is_place, positions, strides_kept, is_zero}
use Rattle.arr_view.proofs.Places.{Inside, steps_is, in_steps, out_steps}
use Rattle.arr_shape.specs.Views.{place_at, is_index}
use Rattle.arr_shape.proofs.Made.{Sound}

-- ---- all places are those at an index

pub inside_at : (ns : List ℕ) (ss : List ℤ) (z : ℤ) (is : List ℕ) → length ss ≡ length ns → is_index ns is ≡ true → Inside ns ss z → is_place (place_at z ss is) ≡ true
inside_at [] [] z is same e h = (and_parts (is_place z) true h).0
inside_at [] (s ∷ ss) z is same e h = absurd (omega arith)
inside_at (n ∷ ns) [] z is same e h = absurd (omega arith)
inside_at (n ∷ ns) (s ∷ ss) z [] same e h = absurd (let f : false ≡ true = e in cc)
inside_at (n ∷ ns) (s ∷ ss) z (i ∷ is) same e h =
    let both = and_parts (nat_lt i n) (is_index ns is) e in
    inside_at ns ss (z +ℤ (pos i *ℤ s)) is (omega arith) both.1
    (subst (λ t. Inside ns ss (z +ℤ t)) (steps_is i s) (out_steps is_place (places ns ss) n s z h i (ltb-true i n both.0)))

pub at_inside : (ns : List ℕ) (ss : List ℤ) (z : ℤ) → length ss ≡ length ns → ((is : List ℕ) → is_index ns is ≡ true → is_place (place_at z ss is) ≡ true) → Inside ns ss z
at_inside [] ss z same h = and_from (is_place z) true (none ss (h [] refl)) refl
  where
    none : (ss : List ℤ) → is_place (place_at z ss []) ≡ true → is_place z ≡ true
    none [] e = e
    none (s ∷ ss) e = e
at_inside (n ∷ ns) [] z same h = absurd (omega arith)
at_inside (n ∷ ns) (s ∷ ss) z same h =
    in_steps is_place (places ns ss) n s z (λ i k.
    subst (λ t. Inside ns ss (z +ℤ t)) (sym (steps_is i s)) (at_inside ns ss (z +ℤ (pos i *ℤ s)) (omega arith) (λ is e. h (i ∷ is) (and_from (nat_lt i n) (is_index ns is) (lt-ltb i n k) e))))

pub shifted : (z t : ℤ) (ss : List ℤ) (is : List ℕ) → place_at (z +ℤ t) ss is ≡ place_at z ss is +ℤ t
shifted z t [] is = refl
shifted z t (s ∷ ss) [] = refl
shifted z t (s ∷ ss) (i ∷ is) =
    let step : ℤ = pos i *ℤ s in
    let turned : (z +ℤ t) +ℤ step ≡ (z +ℤ step) +ℤ t = turn z t step in
    ap (λ y. place_at y ss is) turned ∙ shifted (z +ℤ step) t ss is
  where
    turn : (a b d : ℤ) → (a +ℤ b) +ℤ d ≡ (a +ℤ d) +ℤ b
    turn a b d = omega (arith, ints)

-- ---- the other way round

pub reverse_cons : {X : Type 0} (x : X) (xs : List X) → reverse (x ∷ xs) ≡ reverse xs ++ (x ∷ [])
reverse_cons x xs = reverse-append (x ∷ []) xs

pub list_all-reverse : {X : Type 0} (p : X → Bool) (xs : List X) → list_all p xs ≡ true → list_all p (reverse xs) ≡ true
list_all-reverse p [] e = refl
list_all-reverse p (x ∷ xs) e =
    let both = and_parts (p x) (list_all p xs) e in
    ap (list_all p) (reverse_cons x xs) ∙ list_all-append p (reverse xs) (x ∷ [])
    ∙ and_from (list_all p (reverse xs)) (p x && true) (list_all-reverse p xs both.1) (and_from (p x) true both.0 refl)

positions-append : (ms ns : List ℕ) → positions (ms ++ ns) ≡ positions ms * positions ns
positions-append [] ns = omega arith
positions-append (m ∷ ms) ns = ap (λ k. m * k) (positions-append ms ns) ∙ sym (mul_assoc m (positions ms) (positions ns))

pub positions-reverse : (ns : List ℕ) → positions (reverse ns) ≡ positions ns
positions-reverse [] = refl
positions-reverse (n ∷ ns) =
    ap positions (reverse_cons n ns) ∙ positions-append (reverse ns) (n ∷ []) ∙ ap₂ (λ a b. a * b) (positions-reverse ns) (let e : n * 1 ≡ n = omega arith in e) ∙ mul_comm (positions ns) n

kept-append : (ms ns : List ℕ) (ss ts : List ℤ) → strides_kept ms ss ≡ true → strides_kept ns ts ≡ true → strides_kept (ms ++ ns) (ss ++ ts) ≡ true
kept-append [] ns [] ts a b = b
kept-append [] ns (s ∷ ss) ts a b = absurd (let f : false ≡ true = a in cc)
kept-append (m ∷ ms) ns [] ts a b = absurd (let f : false ≡ true = a in cc)
kept-append (m ∷ ms) ns (s ∷ ss) ts a b =
    let both = and_parts (not (m == 1) || is_zero s) (strides_kept ms ss) a in
    and_from (not (m == 1) || is_zero s) (strides_kept (ms ++ ns) (ss ++ ts)) both.0 (kept-append ms ns ss ts both.1 b)

pub kept-reverse : (ns : List ℕ) (ss : List ℤ) → strides_kept ns ss ≡ true → strides_kept (reverse ns) (reverse ss) ≡ true
kept-reverse [] [] e = refl
kept-reverse [] (s ∷ ss) e = absurd (let f : false ≡ true = e in cc)
kept-reverse (n ∷ ns) [] e = absurd (let f : false ≡ true = e in cc)
kept-reverse (n ∷ ns) (s ∷ ss) e =
    let both = and_parts (not (n == 1) || is_zero s) (strides_kept ns ss) e in
    ap₂ strides_kept (reverse_cons n ns) (reverse_cons s ss)
    ∙ kept-append (reverse ns) (n ∷ []) (reverse ss) (s ∷ []) (kept-reverse ns ss both.1) (and_from (not (n == 1) || is_zero s) true both.0 refl)

pub index_length : (ns is : List ℕ) → is_index ns is ≡ true → length is ≡ length ns
index_length [] [] e = refl
index_length [] (i ∷ is) e = absurd (let f : false ≡ true = e in cc)
index_length (n ∷ ns) [] e = absurd (let f : false ≡ true = e in cc)
index_length (n ∷ ns) (i ∷ is) e = ap suc (index_length ns is (and_parts (nat_lt i n) (is_index ns is) e).1)

index-append : (ms ns is js : List ℕ) → is_index ms is ≡ true → is_index ns js ≡ true → is_index (ms ++ ns) (is ++ js) ≡ true
index-append [] ns [] js a b = b
index-append [] ns (i ∷ is) js a b = absurd (let f : false ≡ true = a in cc)
index-append (m ∷ ms) ns [] js a b = absurd (let f : false ≡ true = a in cc)
index-append (m ∷ ms) ns (i ∷ is) js a b =
    let both = and_parts (nat_lt i m) (is_index ms is) a in
    and_from (nat_lt i m) (is_index (ms ++ ns) (is ++ js)) both.0 (index-append ms ns is js both.1 b)

index-reverse : (ns is : List ℕ) → is_index ns is ≡ true → is_index (reverse ns) (reverse is) ≡ true
index-reverse [] [] e = refl
index-reverse [] (i ∷ is) e = absurd (let f : false ≡ true = e in cc)
index-reverse (n ∷ ns) [] e = absurd (let f : false ≡ true = e in cc)
index-reverse (n ∷ ns) (i ∷ is) e =
    let both = and_parts (nat_lt i n) (is_index ns is) e in
    ap₂ is_index (reverse_cons n ns) (reverse_cons i is)
    ∙ index-append (reverse ns) (n ∷ []) (reverse is) (i ∷ []) (index-reverse ns is both.1) (and_from (nat_lt i n) true both.0 refl)

pub index_turned : (ns is : List ℕ) → is_index (reverse ns) is ≡ true → is_index ns (reverse is) ≡ true
index_turned ns is e = ap (λ ms. is_index ms (reverse is)) (sym (reverse-reverse ns)) ∙ index-reverse (reverse ns) is e

place-append : (z : ℤ) (ss ts : List ℤ) (is js : List ℕ) → length ss ≡ length is → place_at z (ss ++ ts) (is ++ js) ≡ place_at (place_at z ss is) ts js
place-append z [] ts [] js e = refl
place-append z [] ts (i ∷ is) js e = absurd (omega arith)
place-append z (s ∷ ss) ts [] js e = absurd (omega arith)
place-append z (s ∷ ss) ts (i ∷ is) js e = place-append (z +ℤ (pos i *ℤ s)) ss ts is js (omega arith)

pub place-reverse : (z : ℤ) (ss : List ℤ) (is : List ℕ) → length ss ≡ length is → place_at z (reverse ss) (reverse is) ≡ place_at z ss is
place-reverse z [] [] e = refl
place-reverse z [] (i ∷ is) e = absurd (omega arith)
place-reverse z (s ∷ ss) [] e = absurd (omega arith)
place-reverse z (s ∷ ss) (i ∷ is) e =
    ap₂ (place_at z) (reverse_cons s ss) (reverse_cons i is)
    ∙ place-append z (reverse ss) (s ∷ []) (reverse is) (i ∷ []) (length-reverse ss ∙ (let f : length ss ≡ length is = omega arith in f) ∙ sym (length-reverse is))
    ∙ ap (λ y. y +ℤ (pos i *ℤ s)) (place-reverse z ss is (omega arith)) ∙ sym (shifted z (pos i *ℤ s) ss is)

pub place_turned : (z : ℤ) (ss : List ℤ) (is : List ℕ) → length ss ≡ length is → place_at z (reverse ss) is ≡ place_at z ss (reverse is)
place_turned z ss is e = ap (place_at z (reverse ss)) (sym (reverse-reverse is)) ∙ place-reverse z ss (reverse is) (e ∙ sym (length-reverse is))

pub inside_turned : (ns : List ℕ) (ss : List ℤ) (z : ℤ) → length ss ≡ length ns → Inside ns ss z → Inside (reverse ns) (reverse ss) z
inside_turned ns ss z same h =
    at_inside (reverse ns) (reverse ss) z (length-reverse ss ∙ same ∙ sym (length-reverse ns)) (λ is e.
    ap is_place (place_turned z ss is (same ∙ sym (index_length (reverse ns) is e ∙ length-reverse ns))) ∙ inside_at ns ss z (reverse is) same (index_turned ns is e) h)

pub sound_turned : (start : ℕ) (ns : List ℕ) (ss : List ℤ) → length ss ≡ length ns → Sound start ns ss → Sound start (reverse ns) (reverse ss)
sound_turned start ns ss same h =
    record {
      rank = ap (λ k. nat_le 1 k && nat_le k 4) (length-reverse ns) ∙ h.rank;
      lengths = list_all-reverse (nat_le 1) ns h.lengths;
      kept = kept-reverse ns ss h.kept;
      size = subst (λ k. k ≤ 1048576) (sym (positions-reverse ns)) h.size;
      inside = inside_turned ns ss (pos start) same h.inside;
    }
