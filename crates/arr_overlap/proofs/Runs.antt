-- The elements of a view in runs along a dimension of stride 1.
use Rattle.std.proofs.Common.{◌≡◌, ℕ, zero, suc, ◌+◌, ◌<◌, ◌≤◌, ℤ, pos, negsuc, ◌+ℤ◌, List, [], ◌∷◌, ◌++◌, Bool, true, false, cond, drop, length, map, get_or, set, refl, ap, ap₂, sym, ◌∙◌, arith, append_assoc}
use Rattle.std.specs.Prelude.{◌==◌, ◌&&◌, ◌||◌, nat_eq, nat_le, nat_lt}
use Rattle.std.specs.List.{list_all, list_any, range_with_len}
use Rattle.std.proofs.lemmas.Int.{ints}
use Rattle.std.proofs.lemmas.Bool.{and_from, and_parts, eqb-true, eq-eqb, false≢true, leb-true, le-leb, lt-ltb, ltb-true}
use Rattle.std.proofs.lemmas.List.{append-nil, drop_more, get_or-set_other, get_or-set_same, length-set, map-append}
use Rattle.std.proofs.lemmas.List.Folds.{list_all-append, list_any-append}
use Rattle.arr_sets.specs.Bits.{in_run, with_run}
use Rattle.arr_sets.proofs.Runs.{length-with_run, run_at}
use Rattle.arr_view.specs.Strided.{Strided}
use Rattle.arr_view.specs.Views.{at_steps, elements, has, is_place, is_view, kept_strides, most_elements, places, to_place}
use Rattle.arr_view.proofs.Checks.{lawful}
use Rattle.arr_view.proofs.Ends.{passes}
use Rattle.arr_view.proofs.Known.{same_tests}
use Rattle.arr_overlap.specs.Filters.{fits_in, front_of}
use Rattle.arr_overlap.specs.Marks.{Marks}
use Rattle.arr_overlap.proofs.Marking.{elements_below, or_true}

-- the numbers of a run of m from each number on
abbrev pub runs : ℕ → List ℕ → List ℕ
runs m [] = []
runs m (x ∷ xs) = range_with_len x m ++ runs m xs

runs-append : (m : ℕ) (xs ys : List ℕ) → runs m (xs ++ ys) ≡ runs m xs ++ runs m ys
runs-append m [] ys = refl
runs-append m (x ∷ xs) ys = ap (λ zs. range_with_len x m ++ zs) (runs-append m xs ys) ∙ sym (append_assoc (range_with_len x m) (runs m xs) (runs m ys))

-- ---- the places

abbrev single : ℤ → List ℤ
single u = u ∷ []

abbrev place_runs : ℕ → List ℤ → List ℤ
place_runs m [] = []
place_runs m (z ∷ zs) = at_steps single m (pos 1) z ++ place_runs m zs

place_runs-append : (m : ℕ) (xs ys : List ℤ) → place_runs m (xs ++ ys) ≡ place_runs m xs ++ place_runs m ys
place_runs-append m [] ys = refl
place_runs-append m (x ∷ xs) ys =
    ap (λ zs. at_steps single m (pos 1) x ++ zs) (place_runs-append m xs ys) ∙ sym (append_assoc (at_steps single m (pos 1) x) (place_runs m xs) (place_runs m ys))

none_run : (p : ℤ → Bool) (zs : List ℤ) → list_any p (place_runs 0 zs) ≡ false
none_run p [] = refl
none_run p (z ∷ zs) = none_run p zs

abbrev next : ℤ → ℤ
next z = z +ℤ pos 1

-- runs that are one longer
runs_longer : (p : ℤ → Bool) (m : ℕ) (zs : List ℤ) → list_any p (place_runs (suc m) zs) ≡ (list_any p zs || list_any p (place_runs m (map next zs)))
runs_longer p m [] = refl
runs_longer p m (z ∷ zs) =
    list_any-append p (z ∷ at_steps single m (pos 1) (next z)) (place_runs (suc m) zs)
    ∙ ap (λ b. (p z || list_any p (at_steps single m (pos 1) (next z))) || b) (runs_longer p m zs)
    ∙ exchanged (p z) (list_any p (at_steps single m (pos 1) (next z))) (list_any p zs) (list_any p (place_runs m (map next zs)))
    ∙ ap (λ b. (p z || list_any p zs) || b) (sym (list_any-append p (at_steps single m (pos 1) (next z)) (place_runs m (map next zs))))
  where
    exchanged : (a b c d : Bool) → ((a || b) || (c || d)) ≡ ((a || c) || (b || d))
    exchanged true b c d = refl
    exchanged false true true d = refl
    exchanged false true false d = refl
    exchanged false false c d = refl

steps_next : (f : ℤ → List ℤ) → ((u : ℤ) → f (next u) ≡ map next (f u)) → (n : ℕ) (s z : ℤ) → at_steps f n s (next z) ≡ map next (at_steps f n s z)
steps_next f h zero s z = refl
steps_next f h (suc n) s z =
    let turned : next z +ℤ s ≡ next (z +ℤ s) = omega (arith, ints) in
    ap₂ (λ xs ys. xs ++ ys) (h z) (ap (at_steps f n s) turned ∙ steps_next f h n s (z +ℤ s)) ∙ sym (map-append next (f z) (at_steps f n s (z +ℤ s)))

places_next : (ns : List ℕ) (ss : List ℤ) (z : ℤ) → places ns ss (next z) ≡ map next (places ns ss z)
places_next [] ss z = refl
places_next (n ∷ ns) [] z = refl
places_next (n ∷ ns) (s ∷ ss) z = steps_next (places ns ss) (places_next ns ss) n s z

-- steps of 1 are runs from each place of the first
along : (p : ℤ → Bool) (f : ℤ → List ℤ) → ((u : ℤ) → f (next u) ≡ map next (f u)) → (m : ℕ) (z : ℤ) → list_any p (at_steps f m (pos 1) z) ≡ list_any p (place_runs m (f z))
along p f h zero z = sym (none_run p (f z))
along p f h (suc m) z =
    list_any-append p (f z) (at_steps f m (pos 1) (next z))
    ∙ ap (λ b. list_any p (f z) || b) (along p f h m (next z) ∙ ap (λ zs. list_any p (place_runs m zs)) (h z))
    ∙ sym (runs_longer p m (f z))

steps_runs : (p : ℤ → Bool) (m : ℕ) (f g : ℤ → List ℤ) → ((u : ℤ) → list_any p (f u) ≡ list_any p (place_runs m (g u))) → (n : ℕ) (s z : ℤ)
    → list_any p (at_steps f n s z) ≡ list_any p (place_runs m (at_steps g n s z))
steps_runs p m f g h zero s z = refl
steps_runs p m f g h (suc n) s z =
    list_any-append p (f z) (at_steps f n s (z +ℤ s)) ∙ ap₂ (λ a b. a || b) (h z) (steps_runs p m f g h n s (z +ℤ s))
    ∙ sym (ap (list_any p) (place_runs-append m (g z) (at_steps g n s (z +ℤ s))) ∙ list_any-append p (place_runs m (g z)) (place_runs m (at_steps g n s (z +ℤ s))))

lone_step : (f : ℤ → List ℤ) (n : ℕ) (s z : ℤ) (b : Bool) → (n == 1) ≡ b → at_steps f n (cond b (pos 0) s) z ≡ at_steps f n s z
lone_step f n s z false e = refl
lone_step f n s z true e =
    let one : n ≡ 1 = eqb-true n 1 e in
    ap (λ k. at_steps f k (pos 0) z) one ∙ ap (λ k. at_steps f k s z) (sym one)

steps_alike : (f g : ℤ → List ℤ) → ((u : ℤ) → f u ≡ g u) → (n : ℕ) (s z : ℤ) → at_steps f n s z ≡ at_steps g n s z
steps_alike f g h zero s z = refl
steps_alike f g h (suc n) s z = ap₂ (λ xs ys. xs ++ ys) (h z) (steps_alike f g h n s (z +ℤ s))

kept_places : (ns : List ℕ) (ss : List ℤ) (z : ℤ) → places ns (kept_strides ns ss) z ≡ places ns ss z
kept_places [] ss z = refl
kept_places (n ∷ ns) [] z = refl
kept_places (n ∷ ns) (s ∷ ss) z = steps_alike (places ns (kept_strides ns ss)) (places ns ss) (kept_places ns ss) n (cond (n == 1) (pos 0) s) z ∙ lone_step (places ns ss) n s z (n == 1) refl

run_places : (p : ℤ → Bool) (m : ℕ) (ns : List ℕ) (ss : List ℤ) (k : ℕ) → length ss ≡ length ns → k < length ns → m ≡ get_or ns k 0 → get_or ss k (pos 0) ≡ pos 1
    → (z : ℤ) → list_any p (places ns ss z) ≡ list_any p (place_runs m (places (set ns k 1) (kept_strides (set ns k 1) ss) z))
run_places p m [] ss k same below long unit z = absurd (omega arith)
run_places p m (n ∷ ns) [] k same below long unit z = absurd (omega arith)
run_places p m (n ∷ ns) (s ∷ ss) zero same below long unit z =
    ap₂ (λ a b. list_any p (at_steps (places ns ss) a b z)) (sym long) unit ∙ along p (places ns ss) (places_next ns ss) m z
    ∙ ap (λ zs. list_any p (place_runs m zs)) (sym (append-nil (places ns (kept_strides ns ss) z) ∙ kept_places ns ss z))
run_places p m (n ∷ ns) (s ∷ ss) (suc k) same below long unit z =
    let heads : ℤ → List ℤ = places (set ns k 1) (kept_strides (set ns k 1) ss) in
    steps_runs p m (places ns ss) heads (run_places p m ns ss k (omega arith) (omega arith) long unit) n s z
    ∙ ap (λ zs. list_any p (place_runs m zs)) (sym (lone_step heads n s z (n == 1) refl))

-- ---- from places to elements

run_numbers : (m k : ℕ) → map to_place (at_steps single m (pos 1) (pos k)) ≡ range_with_len k m
run_numbers zero k = refl
run_numbers (suc m) k =
    let next : pos k +ℤ pos 1 ≡ pos (k + 1) = omega (arith, ints) in
    ap (λ xs. k ∷ xs) (ap (λ y. map to_place (at_steps single m (pos 1) y)) next ∙ run_numbers m (k + 1))

numbers_of : (m : ℕ) (zs : List ℤ) → list_all is_place zs ≡ true → map to_place (place_runs m zs) ≡ runs m (map to_place zs)
numbers_of m [] e = refl
numbers_of m (pos k ∷ zs) e =
    map-append to_place (at_steps single m (pos 1) (pos k)) (place_runs m zs) ∙ ap₂ (λ xs ys. xs ++ ys) (run_numbers m k) (numbers_of m zs (and_parts (is_place (pos k)) _ e).1)
numbers_of m (negsuc k ∷ zs) e = absurd (false≢true e)

has_place : (zs : List ℤ) (x : ℕ) → has (map to_place zs) x ≡ list_any (λ z. x == to_place z) zs
has_place [] x = refl
has_place (z ∷ zs) x = ap (λ b. (x == to_place z) || b) (has_place zs x)

pub elements_in_runs : (v : Strided) (m k : ℕ) → is_view (front_of v (set v.lengths k 1)) ≡ true → length v.strides ≡ length v.lengths → k < length v.lengths → m ≡ get_or v.lengths k 0
    → get_or v.strides k (pos 0) ≡ pos 1 → (x : ℕ) → has (elements v) x ≡ has (runs m (elements (front_of v (set v.lengths k 1)))) x
unfolding elements
elements_in_runs v m k law same below long unit x =
    let heads : Strided = front_of v (set v.lengths k 1) in
    has_place (places v.lengths v.strides (pos v.start)) x
    ∙ run_places (λ z. x == to_place z) m v.lengths v.strides k same below long unit (pos v.start)
    ∙ sym (has_place (place_runs m (places heads.lengths heads.strides (pos heads.start))) x)
    ∙ ap (λ ys. has ys x) (numbers_of m (places heads.lengths heads.strides (pos heads.start)) (lawful heads law).inside)

as_they_are : (ns : List ℕ) → list_all (nat_le 1) ns ≡ true → fits_in ns ns ≡ true
as_they_are [] some = refl
as_they_are (n ∷ ns) some =
    let p = and_parts (nat_le 1 n) (list_all (nat_le 1) ns) some in
    and_from (nat_le 1 n && nat_le n n) _ (and_from (nat_le 1 n) _ p.0 (le-leb n n (omega arith))) (as_they_are ns p.1)

pub one_fits : (ns : List ℕ) (k : ℕ) → list_all (nat_le 1) ns ≡ true → fits_in (set ns k 1) ns ≡ true
one_fits [] k some = refl
one_fits (n ∷ ns) zero some =
    let p = and_parts (nat_le 1 n) (list_all (nat_le 1) ns) some in
    and_from (nat_le 1 n) _ p.0 (as_they_are ns p.1)
one_fits (n ∷ ns) (suc k) some =
    let p = and_parts (nat_le 1 n) (list_all (nat_le 1) ns) some in
    and_from (nat_le 1 n && nat_le n n) _ (and_from (nat_le 1 n) _ p.0 (le-leb n n (omega arith))) (one_fits ns k p.1)

-- ---- marks of one run more

run_has : (m x y : ℕ) → has (range_with_len x m) y ≡ in_run x (x + m) y
run_has m x y =
    same_tests (has (range_with_len x m) y) (in_run x (x + m) y) (λ e. let w = within m x e in and_from (nat_le x y) _ (le-leb x y w.0) (lt-ltb y (x + m) w.1))
    (λ e. let p = and_parts (nat_le x y) _ e in there m x (leb-true x y p.0) (ltb-true y (x + m) p.1))
  where
    within : (m x : ℕ) → has (range_with_len x m) y ≡ true → (x ≤ y) × (y < x + m)
    within zero x e = absurd (false≢true e)
    within (suc m) x e =
        elim (y == x) as (λ b. (y == x) ≡ b → (x ≤ y) × (y < x + suc m)) [
          | true ↦ λ f. let same : y ≡ x = eqb-true y x f in (omega arith, omega arith)
          | false ↦ λ f. let w = within m (x + 1) (sym (ap (λ b. b || has (range_with_len (x + 1) m) y) f) ∙ e) in let a = w.0 in let b = w.1 in (omega arith, omega arith)
        ] refl

    there : (m x : ℕ) → x ≤ y → y < x + m → has (range_with_len x m) y ≡ true
    there zero x low high = absurd (omega arith)
    there (suc m) x low high =
        elim (y == x) as (λ b. (y == x) ≡ b → (b || has (range_with_len (x + 1) m) y) ≡ true) [
          | true ↦ λ f. refl
          | false ↦ λ f. there m (x + 1) (let z : y ≡ x → ⊥ = λ q. false≢true (sym f ∙ eq-eqb y x q) in omega arith) (omega arith)
        ] refl

pub marks_run : (bits : List Bool) (xs : List ℕ) (x m : ℕ) → Marks bits (runs m xs) → x + m ≤ most_elements → Marks (with_run bits x m) (runs m (xs ++ x ∷ []))
marks_run bits xs x m marks h =
    let long : length bits ≡ most_elements = marks.long in
    record {
      long = length-with_run bits x m (omega arith) ∙ marks.long;
      each = λ y k.
          run_at bits x m y (omega arith) (omega arith)
          ∙ ap₂ (λ a b. a || b) (sym (run_has m x y)) (marks.each y k)
          ∙ either (has (range_with_len x m) y) (has (runs m xs) y)
          ∙ sym (ap (λ zs. has zs y) (runs-append m xs (x ∷ []) ∙ ap (λ zs. runs m xs ++ zs) (append-nil (range_with_len x m))) ∙ list_any-append (nat_eq y) (runs m xs) (range_with_len x m));
    }
  where
    either : (a b : Bool) → (a || b) ≡ (b || a)
    either true true = refl
    either true false = refl
    either false true = refl
    either false false = refl

-- ---- a run lies in the row

run_below : (m x : ℕ) → 1 ≤ m → list_all (λ e. nat_lt e most_elements) (range_with_len x m) ≡ true → x + m ≤ most_elements
run_below zero x some e = absurd (omega arith)
run_below (suc zero) x some e = let low : x < most_elements = ltb-true x most_elements (and_parts (nat_lt x most_elements) _ e).0 in omega arith
run_below (suc (suc m)) x some e = let low : (x + 1) + suc m ≤ most_elements = run_below (suc m) (x + 1) (omega arith) (and_parts (nat_lt x most_elements) _ e).1 in omega arith

in_front : (m : ℕ) (front rest : List ℕ) (x : ℕ) → list_all (λ e. nat_lt e most_elements) (runs m (front ++ x ∷ rest)) ≡ true → list_all (λ e. nat_lt e most_elements) (range_with_len x m) ≡ true
in_front m [] rest x e = (and_parts (list_all (λ e. nat_lt e most_elements) (range_with_len x m)) _ (sym (list_all-append (λ e. nat_lt e most_elements) (range_with_len x m) (runs m rest)) ∙ e)).0
in_front m (y ∷ front) rest x e =
    in_front m front rest x (and_parts (list_all (λ e. nat_lt e most_elements) (range_with_len y m)) _ (sym (list_all-append (λ e. nat_lt e most_elements) (range_with_len y m) (runs m (front ++ x ∷ rest))) ∙ e)).1

all_from : (p : ℕ → Bool) (xs : List ℕ) → ((x : ℕ) → has xs x ≡ true → p x ≡ true) → list_all p xs ≡ true
all_from p [] h = refl
all_from p (x ∷ xs) h = and_from (p x) _ (h x (ap (λ b. b || has xs x) (eq-eqb x x refl))) (all_from p xs (λ y k. h y (ap (λ b. (y == x) || b) k ∙ or_true (y == x))))

pub run_inside : (v : Strided) (m : ℕ) (heads front rest : List ℕ) (x : ℕ) → is_view v ≡ true → 1 ≤ m → ((y : ℕ) → has (elements v) y ≡ has (runs m heads) y) → heads ≡ front ++ x ∷ rest
    → x + m ≤ most_elements
run_inside v m heads front rest x law some whole next =
    run_below m x some (in_front m front rest x (all_from (λ e. nat_lt e most_elements) (runs m (front ++ x ∷ rest))
    (λ y h. passes (λ e. nat_lt e most_elements) (elements v) y (elements_below v law) (whole y ∙ ap (λ hs. has (runs m hs) y) next ∙ h))))

pub marks_same : (bits : List Bool) (xs ys : List ℕ) → ((x : ℕ) → has ys x ≡ has xs x) → Marks bits xs → Marks bits ys
marks_same bits xs ys same marks = record { long = marks.long; each = λ x h. marks.each x h ∙ sym (same x) }

-- ---- one dimension more

pub one_turn : (ns : List ℕ) (k i : ℕ) → i < length ns → drop i (set ns k 1) ≡ cond (i == k) 1 (get_or ns i 0) ∷ drop (i + 1) (set ns k 1)
one_turn ns k i l =
    let same : length (set ns k 1) ≡ length ns = length-set ns k 1 in
    drop_more (set ns k 1) i 0 (omega arith) ∙ ap (λ n. n ∷ drop (i + 1) (set ns k 1)) value
  where
    value : get_or (set ns k 1) i 0 ≡ cond (i == k) 1 (get_or ns i 0)
    value =
        elim (i == k) as (λ b. (i == k) ≡ b → get_or (set ns k 1) i 0 ≡ cond b 1 (get_or ns i 0)) [
          | true ↦ λ e. let here : i ≡ k = eqb-true i k e in ap (λ j. get_or (set ns j 1) i 0) (sym here) ∙ get_or-set_same ns i 1 0 l
          | false ↦ λ e. get_or-set_other ns k i 1 0 (λ f. let here : i ≡ k = f in false≢true (sym e ∙ eq-eqb i k here))
        ] refl
