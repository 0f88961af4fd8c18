-- Two views whose strides tell whether they have a common element.
use Rattle.std.proofs.Common.{◌≡◌, ℕ, zero, suc, ◌+◌, ◌-◌, ◌*◌, ◌<◌, ◌≤◌, ℤ, pos, negsuc, ◌+ℤ◌, ◌-ℤ◌, ◌≤ℤ◌, List, [], ◌∷◌, Bool, true, false, cond, drop, get_or, length, map, refl, ap, ap₂, sym, ◌∙◌, subst, arith}
use Rattle.std.specs.Prelude.{◌==◌, ◌||◌, nat_eq, nat_le, unsigned_abs}
use Rattle.std.specs.List.{list_all}
use Rattle.std.proofs.lemmas.Int.{ints}
use Rattle.std.proofs.lemmas.Bool.{and_parts, eqb-true, eq-eqb, false_from_ne_true, false≢true, leb-true}
use Rattle.std.proofs.lemmas.List.{drop_all, drop_more, map-append}
use Rattle.std.proofs.lemmas.List.Folds.{list_any-append}
use Rattle.arr_view.specs.Strided.{Strided}
use Rattle.arr_view.specs.Views.{at_steps, elements, has, is_place, is_view, lies, places, share, to_place}
use Rattle.arr_view.proofs.Checks.{lawful, same_rank}
use Rattle.arr_view.proofs.Ends.{passes}
use Rattle.arr_view.proofs.Places.{Inside, out_steps, steps, steps_down, steps_up}
use Rattle.arr_overlap.specs.Legs.{with_dimensions, LeadTo, Turn}
use Rattle.arr_overlap.specs.declared.legs.Leg.{Leg}
use Rattle.arr_overlap.proofs.ClassesMeet.{at_shared}
use Rattle.arr_overlap.proofs.Leading.{behind}
use Rattle.arr_overlap.proofs.Marking.{or_true}
use Rattle.arr_overlap.proofs.Steps.{found, steps_size, total, Each, Found, Move}

-- ---- counts of steps, up from the lowest place or down from the highest

abbrev falls : ℤ → Bool
falls (pos n) = false
falls (negsuc n) = true

-- how far the dimensions lead down, and how far up
abbrev down : List ℕ → List ℤ → ℕ
down (n ∷ ns) (s ∷ ss) = cond (falls s) ((n - 1) * unsigned_abs s) 0 + down ns ss
down _ _ = 0

abbrev up : List ℕ → List ℤ → ℕ
up (n ∷ ns) (s ∷ ss) = cond (falls s) 0 ((n - 1) * unsigned_abs s) + up ns ss
up _ _ = 0

record Count (n : ℕ) (s y : ℤ) : Type 0 where
  pub count : ℕ
  pub below : count < n
  pub is : y ≡ pos (count * unsigned_abs s)

-- the other steps of a dimension
others : (n i a : ℕ) → i < n → (n - 1) * a ≡ ((n - 1) - i) * a + i * a
others n i a l =
    let whole : n - 1 ≡ ((n - 1) - i) + i = omega arith in
    ap (λ k. k * a) whole ∙ (let o : (((n - 1) - i) + i) * a ≡ ((n - 1) - i) * a + i * a = omega arith in o)

rise : (i m : ℕ) → steps i (pos m) ≡ pos (i * unsigned_abs (pos m))
rise i m =
    let size : unsigned_abs (steps i (pos m)) ≡ i * unsigned_abs (pos m) = steps_size i (pos m) in
    let sign : (pos 0 ≤ℤ steps i (pos m)) × (steps i (pos m) ≤ℤ steps i (pos m)) = steps_up i i (pos m) (omega (arith, ints)) (omega arith) in
    omega (arith, ints, sign.0)

fall : (i m : ℕ) → steps i (negsuc m) +ℤ pos (i * unsigned_abs (negsuc m)) ≡ pos 0
fall i m =
    let size : unsigned_abs (steps i (negsuc m)) ≡ i * unsigned_abs (negsuc m) = steps_size i (negsuc m) in
    let sign : (steps i (negsuc m) ≤ℤ pos 0) × (steps i (negsuc m) ≤ℤ steps i (negsuc m)) = steps_down i i (negsuc m) (omega (arith, ints)) (omega arith) in
    omega (arith, ints, sign.0)

count_up : (n : ℕ) (s x : ℤ) → Move n s x → Count n s (x +ℤ pos (cond (falls s) ((n - 1) * unsigned_abs s) 0))
count_up n (pos m) x move =
    let is : x ≡ steps move.index (pos m) = move.is in
    let size : steps move.index (pos m) ≡ pos (move.index * unsigned_abs (pos m)) = rise move.index m in
    record { count = move.index; below = move.below; is = (let o : x +ℤ pos 0 ≡ pos (move.index * unsigned_abs (pos m)) = omega (arith, ints) in o) }
count_up n (negsuc m) x move =
    let i : ℕ = move.index in
    let a : ℕ = unsigned_abs (negsuc m) in
    let low : i < n = move.below in
    let is : x ≡ steps i (negsuc m) = move.is in
    let size : steps i (negsuc m) +ℤ pos (i * a) ≡ pos 0 = fall i m in
    let rest : (n - 1) * a ≡ ((n - 1) - i) * a + i * a = others n i a low in
    record { count = (n - 1) - i; below = omega arith; is = (let o : x +ℤ pos ((n - 1) * a) ≡ pos (((n - 1) - i) * a) = omega (arith, ints) in o) }

count_down : (n : ℕ) (s x : ℤ) → Move n s x → Count n s (pos (cond (falls s) 0 ((n - 1) * unsigned_abs s)) -ℤ x)
count_down n (pos m) x move =
    let i : ℕ = move.index in
    let a : ℕ = unsigned_abs (pos m) in
    let low : i < n = move.below in
    let is : x ≡ steps i (pos m) = move.is in
    let size : steps i (pos m) ≡ pos (i * a) = rise i m in
    let rest : (n - 1) * a ≡ ((n - 1) - i) * a + i * a = others n i a low in
    record { count = (n - 1) - i; below = omega arith; is = (let o : pos ((n - 1) * a) -ℤ x ≡ pos (((n - 1) - i) * a) = omega (arith, ints) in o) }
count_down n (negsuc m) x move =
    let i : ℕ = move.index in
    let a : ℕ = unsigned_abs (negsuc m) in
    let is : x ≡ steps i (negsuc m) = move.is in
    let size : steps i (negsuc m) +ℤ pos (i * a) ≡ pos 0 = fall i m in
    record { count = i; below = move.below; is = (let o : pos 0 -ℤ x ≡ pos (i * a) = omega (arith, ints) in o) }

record Counted (ns : List ℕ) (ss : List ℤ) (sum : ℤ) : Type 0 where
  pub counts : List ℤ
  pub each : Each Count ns ss counts
  pub is : total counts ≡ sum

counted_up : (ns : List ℕ) (ss xs : List ℤ) → Each Move ns ss xs → Counted ns ss (total xs +ℤ pos (down ns ss))
counted_up [] [] [] each = record { counts = []; each = tt; is = refl }
counted_up [] [] (x ∷ xs) each = absurd each
counted_up [] (s ∷ ss) xs each = absurd each
counted_up (n ∷ ns) [] xs each = absurd each
counted_up (n ∷ ns) (s ∷ ss) [] each = absurd each
counted_up (n ∷ ns) (s ∷ ss) (x ∷ xs) each =
    let rest : Counted ns ss (total xs +ℤ pos (down ns ss)) = counted_up ns ss xs each.1 in
    let far : ℕ = cond (falls s) ((n - 1) * unsigned_abs s) 0 in
    let is : total rest.counts ≡ total xs +ℤ pos (down ns ss) = rest.is in
    let sum : (x +ℤ pos far) +ℤ total rest.counts ≡ (x +ℤ total xs) +ℤ pos (far + down ns ss) = omega (arith, ints) in
    record { counts = (x +ℤ pos far) ∷ rest.counts; each = (count_up n s x each.0, rest.each); is = sum }

counted_down : (ns : List ℕ) (ss xs : List ℤ) → Each Move ns ss xs → Counted ns ss (pos (up ns ss) -ℤ total xs)
counted_down [] [] [] each = record { counts = []; each = tt; is = refl }
counted_down [] [] (x ∷ xs) each = absurd each
counted_down [] (s ∷ ss) xs each = absurd each
counted_down (n ∷ ns) [] xs each = absurd each
counted_down (n ∷ ns) (s ∷ ss) [] each = absurd each
counted_down (n ∷ ns) (s ∷ ss) (x ∷ xs) each =
    let rest : Counted ns ss (pos (up ns ss) -ℤ total xs) = counted_down ns ss xs each.1 in
    let far : ℕ = cond (falls s) 0 ((n - 1) * unsigned_abs s) in
    let is : total rest.counts ≡ pos (up ns ss) -ℤ total xs = rest.is in
    let sum : (pos far -ℤ x) +ℤ total rest.counts ≡ pos (far + up ns ss) -ℤ (x +ℤ total xs) = omega (arith, ints) in
    record { counts = (pos far -ℤ x) ∷ rest.counts; each = (count_down n s x each.0, rest.each); is = sum }

-- ---- counts lead on

record On (ns : List ℕ) (ss : List ℤ) (legs : List Leg) (from : ℕ) (sum : ℤ) : Type 0 where
  pub target : ℕ
  pub there : LeadTo (with_dimensions ns ss legs) target
  pub is : pos target ≡ pos from +ℤ sum

on : (ns : List ℕ) (ss ys : List ℤ) → Each Count ns ss ys → (legs : List Leg) (t : ℕ) → LeadTo legs t → On ns ss legs t (total ys)
on [] [] [] each legs t h = record { target = t; there = h; is = (let o : pos t ≡ pos t +ℤ pos 0 = omega (arith, ints) in o) }
on [] [] (y ∷ ys) each legs t h = absurd each
on [] (s ∷ ss) ys each legs t h = absurd each
on (n ∷ ns) [] ys each legs t h = absurd each
on (n ∷ ns) (s ∷ ss) [] each legs t h = absurd each
on (n ∷ ns) (s ∷ ss) (y ∷ ys) each legs t h =
    let a : ℕ = unsigned_abs s in
    let leg : Leg = record { places = n; step = a } in
    let k : ℕ = each.0.count in
    let y_is : y ≡ pos (k * a) = each.0.is in
    let first : LeadTo (cond (a == 0) legs (leg ∷ legs)) (k * a + t) =
    elim (a == 0) as (λ b. (a == 0) ≡ b → LeadTo (cond b legs (leg ∷ legs)) (k * a + t)) [
      | true ↦ λ e.
          let none : k * a ≡ k * 0 = ap (λ j. k * j) (eqb-true a 0 e) in
          let same : t ≡ k * a + t = omega arith in
          subst (LeadTo legs) same h
      | false ↦ λ e. record { count = k; few = each.0.below; left = t; sum = refl; on = h }
    ] refl in
    let rest : On ns ss (cond (a == 0) legs (leg ∷ legs)) (k * a + t) (total ys) = on ns ss ys each.1 (cond (a == 0) legs (leg ∷ legs)) (k * a + t) first in
    let is : pos rest.target ≡ pos (k * a + t) +ℤ total ys = rest.is in
    let sum : pos rest.target ≡ pos t +ℤ (y +ℤ total ys) = omega (arith, ints) in
    record { target = rest.target; there = rest.there; is = sum }

-- ---- and back

record Off (ns : List ℕ) (ss : List ℤ) (legs : List Leg) (target : ℕ) : Type 0 where
  pub counts : List ℤ
  pub each : Each Count ns ss counts
  pub left : ℕ
  pub there : LeadTo legs left
  pub is : pos target ≡ pos left +ℤ total counts

off : (ns : List ℕ) (ss : List ℤ) (legs : List Leg) (t : ℕ) → length ss ≡ length ns → list_all (nat_le 1) ns ≡ true → LeadTo (with_dimensions ns ss legs) t → Off ns ss legs t
off [] [] legs t same some h = record { counts = []; each = tt; left = t; there = h; is = (let o : pos t ≡ pos t +ℤ pos 0 = omega (arith, ints) in o) }
off [] (s ∷ ss) legs t same some h = absurd (omega arith)
off (n ∷ ns) [] legs t same some h = absurd (omega arith)
off (n ∷ ns) (s ∷ ss) legs t same some h =
    let a : ℕ = unsigned_abs s in
    let leg : Leg = record { places = n; step = a } in
    let p = and_parts (nat_le 1 n) (list_all (nat_le 1) ns) some in
    let low : 1 ≤ n = leb-true 1 n p.0 in
    let rest : Off ns ss (cond (a == 0) legs (leg ∷ legs)) t = off ns ss (cond (a == 0) legs (leg ∷ legs)) t (omega arith) p.1 h in
    let turn : Turn leg (LeadTo legs) rest.left =
    elim (a == 0) as (λ b. LeadTo (cond b legs (leg ∷ legs)) rest.left → Turn leg (LeadTo legs) rest.left) [
      | true ↦ λ k. record { count = 0; few = omega arith; left = rest.left; sum = (let o : rest.left ≡ 0 * a + rest.left = omega arith in o); on = k }
      | false ↦ λ k. k
    ] rest.there in
    let sum : rest.left ≡ turn.count * a + turn.left = turn.sum in
    let is : pos t ≡ pos rest.left +ℤ total rest.counts = rest.is in
    record {
      counts = pos (turn.count * a) ∷ rest.counts;
      each = (record { count = turn.count; below = turn.few; is = refl }, rest.each);
      left = turn.left;
      there = turn.on;
      is = (let o : pos t ≡ pos turn.left +ℤ (pos (turn.count * a) +ℤ total rest.counts) = omega (arith, ints) in o);
    }

-- ---- moves lead to elements

has_step : (f : ℤ → List ℤ) (n : ℕ) (s z : ℤ) (i x : ℕ) → i < n → has (map to_place (f (z +ℤ steps i s))) x ≡ true → has (map to_place (at_steps f n s z)) x ≡ true
has_step f zero s z i x l h = absurd (omega arith)
has_step f (suc n) s z zero x l h =
    let same : z +ℤ pos 0 ≡ z = omega (arith, ints) in
    ap (λ ys. has ys x) (map-append to_place (f z) (at_steps f n s (z +ℤ s))) ∙ list_any-append (nat_eq x) (map to_place (f z)) (map to_place (at_steps f n s (z +ℤ s)))
    ∙ ap (λ b. b || has (map to_place (at_steps f n s (z +ℤ s))) x) (subst (λ y. has (map to_place (f y)) x ≡ true) same h)
has_step f (suc n) s z (suc i) x l h =
    let same : z +ℤ (s +ℤ steps i s) ≡ (z +ℤ s) +ℤ steps i s = omega (arith, ints) in
    ap (λ ys. has ys x) (map-append to_place (f z) (at_steps f n s (z +ℤ s))) ∙ list_any-append (nat_eq x) (map to_place (f z)) (map to_place (at_steps f n s (z +ℤ s)))
    ∙ ap (λ b. has (map to_place (f z)) x || b) (has_step f n s (z +ℤ s) i x (omega arith) (subst (λ y. has (map to_place (f y)) x ≡ true) same h)) ∙ or_true (has (map to_place (f z)) x)

reached : (ns : List ℕ) (ss : List ℤ) (z : ℤ) (xs : List ℤ) → Each Move ns ss xs → Inside ns ss z
    → (x : ℕ) × ((pos x ≡ z +ℤ total xs) × (has (map to_place (places ns ss z)) x ≡ true))
reached [] [] (pos n) [] each inside = (n, ((let o : pos n ≡ pos n +ℤ pos 0 = omega (arith, ints) in o), ap (λ b. b || false) (eq-eqb n n refl)))
reached [] [] (negsuc n) [] each inside = absurd (false≢true inside)
reached [] [] z (x ∷ xs) each inside = absurd each
reached [] (s ∷ ss) z xs each inside = absurd each
reached (n ∷ ns) [] z xs each inside = absurd each
reached (n ∷ ns) (s ∷ ss) z [] each inside = absurd each
reached (n ∷ ns) (s ∷ ss) z (y ∷ xs) each inside =
    let i : ℕ = each.0.index in
    let rest : (x : ℕ) × ((pos x ≡ (z +ℤ steps i s) +ℤ total xs) × (has (map to_place (places ns ss (z +ℤ steps i s))) x ≡ true)) =
    reached ns ss (z +ℤ steps i s) xs each.1 (out_steps is_place (places ns ss) n s z inside i each.0.below) in
    let y_is : y ≡ steps i s = each.0.is in
    let is : pos rest.0 ≡ (z +ℤ steps i s) +ℤ total xs = rest.1.0 in
    let sum : pos rest.0 ≡ z +ℤ (y +ℤ total xs) = omega (arith, ints) in
    (rest.0, (sum, has_step (places ns ss) n s z i rest.0 each.0.below rest.1.1))

record Moves (ns : List ℕ) (ss : List ℤ) (sum : ℤ) : Type 0 where
  pub moves : List ℤ
  pub each : Each Move ns ss moves
  pub is : total moves ≡ sum

move_up : (n : ℕ) (s y : ℤ) → Count n s y → Move n s (y -ℤ pos (cond (falls s) ((n - 1) * unsigned_abs s) 0))
move_up n (pos m) y c =
    let is : y ≡ pos (c.count * unsigned_abs (pos m)) = c.is in
    let size : steps c.count (pos m) ≡ pos (c.count * unsigned_abs (pos m)) = rise c.count m in
    record { index = c.count; below = c.below; is = (let o : y -ℤ pos 0 ≡ steps c.count (pos m) = omega (arith, ints) in o) }
move_up n (negsuc m) y c =
    let a : ℕ = unsigned_abs (negsuc m) in
    let low : c.count < n = c.below in
    let i : ℕ = (n - 1) - c.count in
    let is : y ≡ pos (c.count * a) = c.is in
    let size : steps i (negsuc m) +ℤ pos (i * a) ≡ pos 0 = fall i m in
    let rest : (n - 1) * a ≡ i * a + c.count * a = others n c.count a low in
    record { index = i; below = omega arith; is = (let o : y -ℤ pos ((n - 1) * a) ≡ steps i (negsuc m) = omega (arith, ints) in o) }

move_down : (n : ℕ) (s y : ℤ) → Count n s y → Move n s (pos (cond (falls s) 0 ((n - 1) * unsigned_abs s)) -ℤ y)
move_down n (pos m) y c =
    let a : ℕ = unsigned_abs (pos m) in
    let low : c.count < n = c.below in
    let i : ℕ = (n - 1) - c.count in
    let is : y ≡ pos (c.count * a) = c.is in
    let size : steps i (pos m) ≡ pos (i * a) = rise i m in
    let rest : (n - 1) * a ≡ i * a + c.count * a = others n c.count a low in
    record { index = i; below = omega arith; is = (let o : pos ((n - 1) * a) -ℤ y ≡ steps i (pos m) = omega (arith, ints) in o) }
move_down n (negsuc m) y c =
    let is : y ≡ pos (c.count * unsigned_abs (negsuc m)) = c.is in
    let size : steps c.count (negsuc m) +ℤ pos (c.count * unsigned_abs (negsuc m)) ≡ pos 0 = fall c.count m in
    record { index = c.count; below = c.below; is = (let o : pos 0 -ℤ y ≡ steps c.count (negsuc m) = omega (arith, ints) in o) }

moved_up : (ns : List ℕ) (ss ys : List ℤ) → Each Count ns ss ys → Moves ns ss (total ys -ℤ pos (down ns ss))
moved_up [] [] [] each = record { moves = []; each = tt; is = refl }
moved_up [] [] (y ∷ ys) each = absurd each
moved_up [] (s ∷ ss) ys each = absurd each
moved_up (n ∷ ns) [] ys each = absurd each
moved_up (n ∷ ns) (s ∷ ss) [] each = absurd each
moved_up (n ∷ ns) (s ∷ ss) (y ∷ ys) each =
    let rest : Moves ns ss (total ys -ℤ pos (down ns ss)) = moved_up ns ss ys each.1 in
    let far : ℕ = cond (falls s) ((n - 1) * unsigned_abs s) 0 in
    let is : total rest.moves ≡ total ys -ℤ pos (down ns ss) = rest.is in
    let sum : (y -ℤ pos far) +ℤ total rest.moves ≡ (y +ℤ total ys) -ℤ pos (far + down ns ss) = omega (arith, ints) in
    record { moves = (y -ℤ pos far) ∷ rest.moves; each = (move_up n s y each.0, rest.each); is = sum }

moved_down : (ns : List ℕ) (ss ys : List ℤ) → Each Count ns ss ys → Moves ns ss (pos (up ns ss) -ℤ total ys)
moved_down [] [] [] each = record { moves = []; each = tt; is = refl }
moved_down [] [] (y ∷ ys) each = absurd each
moved_down [] (s ∷ ss) ys each = absurd each
moved_down (n ∷ ns) [] ys each = absurd each
moved_down (n ∷ ns) (s ∷ ss) [] each = absurd each
moved_down (n ∷ ns) (s ∷ ss) (y ∷ ys) each =
    let rest : Moves ns ss (pos (up ns ss) -ℤ total ys) = moved_down ns ss ys each.1 in
    let far : ℕ = cond (falls s) 0 ((n - 1) * unsigned_abs s) in
    let is : total rest.moves ≡ pos (up ns ss) -ℤ total ys = rest.is in
    let sum : (pos far -ℤ y) +ℤ total rest.moves ≡ pos (far + up ns ss) -ℤ (y +ℤ total ys) = omega (arith, ints) in
    record { moves = (pos far -ℤ y) ∷ rest.moves; each = (move_down n s y each.0, rest.each); is = sum }

lowest : (ns : List ℕ) (ss : List ℤ) → length ss ≡ length ns → list_all (nat_le 1) ns ≡ true → Moves ns ss (pos 0 -ℤ pos (down ns ss))
lowest [] [] same some = record { moves = []; each = tt; is = refl }
lowest [] (s ∷ ss) same some = absurd (omega arith)
lowest (n ∷ ns) [] same some = absurd (omega arith)
lowest (n ∷ ns) (pos m ∷ ss) same some =
    let p = and_parts (nat_le 1 n) (list_all (nat_le 1) ns) some in
    let rest : Moves ns ss (pos 0 -ℤ pos (down ns ss)) = lowest ns ss (omega arith) p.1 in
    let low : 1 ≤ n = leb-true 1 n p.0 in
    let is : total rest.moves ≡ pos 0 -ℤ pos (down ns ss) = rest.is in
    let sum : pos 0 +ℤ total rest.moves ≡ pos 0 -ℤ pos (0 + down ns ss) = omega (arith, ints) in
    record { moves = pos 0 ∷ rest.moves; each = (record { index = 0; below = omega arith; is = refl }, rest.each); is = sum }
lowest (n ∷ ns) (negsuc m ∷ ss) same some =
    let a : ℕ = unsigned_abs (negsuc m) in
    let p = and_parts (nat_le 1 n) (list_all (nat_le 1) ns) some in
    let rest : Moves ns ss (pos 0 -ℤ pos (down ns ss)) = lowest ns ss (omega arith) p.1 in
    let low : 1 ≤ n = leb-true 1 n p.0 in
    let is : total rest.moves ≡ pos 0 -ℤ pos (down ns ss) = rest.is in
    let far : steps (n - 1) (negsuc m) +ℤ pos ((n - 1) * a) ≡ pos 0 = fall (n - 1) m in
    let sum : steps (n - 1) (negsuc m) +ℤ total rest.moves ≡ pos 0 -ℤ pos ((n - 1) * a + down ns ss) = omega (arith, ints) in
    record { moves = steps (n - 1) (negsuc m) ∷ rest.moves; each = (record { index = n - 1; below = omega arith; is = refl }, rest.each); is = sum }

highest : (ns : List ℕ) (ss : List ℤ) → length ss ≡ length ns → list_all (nat_le 1) ns ≡ true → Moves ns ss (pos (up ns ss))
highest [] [] same some = record { moves = []; each = tt; is = refl }
highest [] (s ∷ ss) same some = absurd (omega arith)
highest (n ∷ ns) [] same some = absurd (omega arith)
highest (n ∷ ns) (negsuc m ∷ ss) same some =
    let p = and_parts (nat_le 1 n) (list_all (nat_le 1) ns) some in
    let rest : Moves ns ss (pos (up ns ss)) = highest ns ss (omega arith) p.1 in
    let low : 1 ≤ n = leb-true 1 n p.0 in
    let is : total rest.moves ≡ pos (up ns ss) = rest.is in
    let sum : pos 0 +ℤ total rest.moves ≡ pos (0 + up ns ss) = omega (arith, ints) in
    record { moves = pos 0 ∷ rest.moves; each = (record { index = 0; below = omega arith; is = refl }, rest.each); is = sum }
highest (n ∷ ns) (pos m ∷ ss) same some =
    let a : ℕ = unsigned_abs (pos m) in
    let p = and_parts (nat_le 1 n) (list_all (nat_le 1) ns) some in
    let rest : Moves ns ss (pos (up ns ss)) = highest ns ss (omega arith) p.1 in
    let low : 1 ≤ n = leb-true 1 n p.0 in
    let is : total rest.moves ≡ pos (up ns ss) = rest.is in
    let far : steps (n - 1) (pos m) ≡ pos ((n - 1) * a) = rise (n - 1) m in
    let sum : steps (n - 1) (pos m) +ℤ total rest.moves ≡ pos ((n - 1) * a + up ns ss) = omega (arith, ints) in
    record { moves = steps (n - 1) (pos m) ∷ rest.moves; each = (record { index = n - 1; below = omega arith; is = refl }, rest.each); is = sum }

-- ---- the ends of a view

element_found : (v : Strided) (x : ℕ) → is_view v ≡ true → has (elements v) x ≡ true → Found v.lengths v.strides (pos v.start) x
unfolding elements
element_found v x law h = found v.lengths v.strides (pos v.start) x (same_rank v law) (lawful v law).inside h

element_reached : (v : Strided) (sum : ℤ) → is_view v ≡ true → Moves v.lengths v.strides sum → (x : ℕ) × ((pos x ≡ pos v.start +ℤ sum) × (has (elements v) x ≡ true))
unfolding elements
element_reached v sum law m =
    let r = reached v.lengths v.strides (pos v.start) m.moves m.each (lawful v law).inside in
    (r.0, (r.1.0 ∙ ap (λ y. pos v.start +ℤ y) m.is, r.1.1))

least_is : (v : Strided) (least greatest : ℕ) → is_view v ≡ true → list_all (lies least greatest) (elements v) ≡ true → has (elements v) least ≡ true → pos least ≡ pos v.start -ℤ pos (down v.lengths v.strides)
least_is v least greatest law all there =
    let low = element_reached v (pos 0 -ℤ pos (down v.lengths v.strides)) law (lowest v.lengths v.strides (same_rank v law) (lawful v law).lengths) in
    let low_is : pos low.0 ≡ pos v.start +ℤ (pos 0 -ℤ pos (down v.lengths v.strides)) = low.1.0 in
    let above : least ≤ low.0 = leb-true least low.0 (and_parts (nat_le least low.0) (nat_le low.0 greatest) (passes (lies least greatest) (elements v) low.0 all low.1.1)).0 in
    let way : Found v.lengths v.strides (pos v.start) least = element_found v least law there in
    let place : pos least ≡ pos v.start +ℤ total way.moves = way.place in
    let counts : Counted v.lengths v.strides (total way.moves +ℤ pos (down v.lengths v.strides)) = counted_up v.lengths v.strides way.moves way.each in
    let led : On v.lengths v.strides [] 0 (total counts.counts) = on v.lengths v.strides counts.counts counts.each [] 0 refl in
    let led_is : pos led.target ≡ pos 0 +ℤ total counts.counts = led.is in
    let counts_is : total counts.counts ≡ total way.moves +ℤ pos (down v.lengths v.strides) = counts.is in
    omega (arith, ints)

greatest_is : (v : Strided) (least greatest : ℕ) → is_view v ≡ true → list_all (lies least greatest) (elements v) ≡ true → has (elements v) greatest ≡ true → pos greatest ≡ pos v.start +ℤ pos (up v.lengths v.strides)
greatest_is v least greatest law all there =
    let high = element_reached v (pos (up v.lengths v.strides)) law (highest v.lengths v.strides (same_rank v law) (lawful v law).lengths) in
    let high_is : pos high.0 ≡ pos v.start +ℤ pos (up v.lengths v.strides) = high.1.0 in
    let below : high.0 ≤ greatest = leb-true high.0 greatest (and_parts (nat_le least high.0) (nat_le high.0 greatest) (passes (lies least greatest) (elements v) high.0 all high.1.1)).1 in
    let way : Found v.lengths v.strides (pos v.start) greatest = element_found v greatest law there in
    let place : pos greatest ≡ pos v.start +ℤ total way.moves = way.place in
    let counts : Counted v.lengths v.strides (pos (up v.lengths v.strides) -ℤ total way.moves) = counted_down v.lengths v.strides way.moves way.each in
    let led : On v.lengths v.strides [] 0 (total counts.counts) = on v.lengths v.strides counts.counts counts.each [] 0 refl in
    let led_is : pos led.target ≡ pos 0 +ℤ total counts.counts = led.is in
    let counts_is : total counts.counts ≡ pos (up v.lengths v.strides) -ℤ total way.moves = counts.is in
    omega (arith, ints)

-- ---- a common element

-- a common element leads from the least of one view to the greatest of the other
pub shared_leads : (v w : Strided) (least top bottom greatest x : ℕ) → is_view v ≡ true → is_view w ≡ true → list_all (lies least top) (elements v) ≡ true → has (elements v) least ≡ true
    → list_all (lies bottom greatest) (elements w) ≡ true → has (elements w) greatest ≡ true → has (elements v) x ≡ true → has (elements w) x ≡ true
    → (least ≤ greatest) × LeadTo (with_dimensions w.lengths w.strides (with_dimensions v.lengths v.strides [])) (greatest - least)
shared_leads v w least top bottom greatest x law law' all there all' there' here here' =
    let low : pos least ≡ pos v.start -ℤ pos (down v.lengths v.strides) = least_is v least top law all there in
    let high : pos greatest ≡ pos w.start +ℤ pos (up w.lengths w.strides) = greatest_is w bottom greatest law' all' there' in
    let a : Found v.lengths v.strides (pos v.start) x = element_found v x law here in
    let b : Found w.lengths w.strides (pos w.start) x = element_found w x law' here' in
    let a_is : pos x ≡ pos v.start +ℤ total a.moves = a.place in
    let b_is : pos x ≡ pos w.start +ℤ total b.moves = b.place in
    let c : Counted v.lengths v.strides (total a.moves +ℤ pos (down v.lengths v.strides)) = counted_up v.lengths v.strides a.moves a.each in
    let d : Counted w.lengths w.strides (pos (up w.lengths w.strides) -ℤ total b.moves) = counted_down w.lengths w.strides b.moves b.each in
    let c_is : total c.counts ≡ total a.moves +ℤ pos (down v.lengths v.strides) = c.is in
    let d_is : total d.counts ≡ pos (up w.lengths w.strides) -ℤ total b.moves = d.is in
    let first : On v.lengths v.strides [] 0 (total c.counts) = on v.lengths v.strides c.counts c.each [] 0 refl in
    let second : On w.lengths w.strides (with_dimensions v.lengths v.strides []) first.target (total d.counts) =
    on w.lengths w.strides d.counts d.each (with_dimensions v.lengths v.strides []) first.target first.there in
    let first_is : pos first.target ≡ pos 0 +ℤ total c.counts = first.is in
    let second_is : pos second.target ≡ pos first.target +ℤ total d.counts = second.is in
    let whole : pos second.target +ℤ pos least ≡ pos greatest = omega (arith, ints) in
    let order : least ≤ greatest = omega (arith, ints) in
    let same : second.target ≡ greatest - least = omega (arith, ints) in
    (order, subst (LeadTo (with_dimensions w.lengths w.strides (with_dimensions v.lengths v.strides []))) same second.there)

-- and steps that lead there meet a common element
pub leads_shared : (v w : Strided) (least top bottom greatest : ℕ) → is_view v ≡ true → is_view w ≡ true → list_all (lies least top) (elements v) ≡ true → has (elements v) least ≡ true
    → list_all (lies bottom greatest) (elements w) ≡ true → has (elements w) greatest ≡ true → least ≤ greatest
    → LeadTo (with_dimensions w.lengths w.strides (with_dimensions v.lengths v.strides [])) (greatest - least) → share (elements v) (elements w) ≡ true
leads_shared v w least top bottom greatest law law' all there all' there' order led =
    let low : pos least ≡ pos v.start -ℤ pos (down v.lengths v.strides) = least_is v least top law all there in
    let high : pos greatest ≡ pos w.start +ℤ pos (up w.lengths w.strides) = greatest_is w bottom greatest law' all' there' in
    let back : Off w.lengths w.strides (with_dimensions v.lengths v.strides []) (greatest - least) =
    off w.lengths w.strides (with_dimensions v.lengths v.strides []) (greatest - least) (same_rank w law') (lawful w law').lengths led in
    let front : Off v.lengths v.strides [] back.left = off v.lengths v.strides [] back.left (same_rank v law) (lawful v law).lengths back.there in
    let here = element_reached v (total front.counts -ℤ pos (down v.lengths v.strides)) law (moved_up v.lengths v.strides front.counts front.each) in
    let other = element_reached w (pos (up w.lengths w.strides) -ℤ total back.counts) law' (moved_down w.lengths w.strides back.counts back.each) in
    let here_is : pos here.0 ≡ pos v.start +ℤ (total front.counts -ℤ pos (down v.lengths v.strides)) = here.1.0 in
    let other_is : pos other.0 ≡ pos w.start +ℤ (pos (up w.lengths w.strides) -ℤ total back.counts) = other.1.0 in
    let back_is : pos (greatest - least) ≡ pos back.left +ℤ total back.counts = back.is in
    let front_is : pos back.left ≡ pos front.left +ℤ total front.counts = front.is in
    let end : front.left ≡ 0 = front.there in
    let gap : pos (greatest - least) +ℤ pos least ≡ pos greatest = (let o : (greatest - least) + least ≡ greatest = omega arith in ap pos o) in
    let same : other.0 ≡ here.0 = omega (arith, ints) in
    at_shared (elements v) (elements w) here.0 here.1.1 (subst (λ x. has (elements w) x ≡ true) same other.1.1)

pub never_shared : (xs ys : List ℕ) → ((x : ℕ) → has xs x ≡ true → has ys x ≡ true → ⊥) → share xs ys ≡ false
never_shared [] ys never = refl
never_shared (x ∷ xs) ys never =
    let here : has ys x ≡ false = false_from_ne_true (has ys x) (λ h. never x (ap (λ b. b || has xs x) (eq-eqb x x refl)) h) in
    ap₂ (λ c d. c || d) here (never_shared xs ys (λ y h k. never y (ap (λ b. (y == x) || b) h ∙ or_true (y == x)) k))

-- ---- the legs of dimensions, one after another

pub more_dimensions : (ns : List ℕ) (ss : List ℤ) (xs ys : List Leg) → ((t : ℕ) → LeadTo xs t → LeadTo ys t) → (t : ℕ) → LeadTo (with_dimensions ns ss xs) t → LeadTo (with_dimensions ns ss ys) t
more_dimensions [] ss xs ys h t led = h t led
more_dimensions (n ∷ ns) [] xs ys h t led = h t led
more_dimensions (n ∷ ns) (s ∷ ss) xs ys h t led =
    let leg : Leg = record { places = n; step = unsigned_abs s } in
    more_dimensions ns ss (cond (unsigned_abs s == 0) xs (leg ∷ xs)) (cond (unsigned_abs s == 0) ys (leg ∷ ys))
    (elim (unsigned_abs s == 0) as (λ b. (u : ℕ) → LeadTo (cond b xs (leg ∷ xs)) u → LeadTo (cond b ys (leg ∷ ys)) u) [ true ↦ h | false ↦ behind leg xs ys h ]) t led

pub next_dimension : (ns : List ℕ) (ss : List ℤ) (i : ℕ) (legs more : List Leg) → length ss ≡ length ns → i < length ns
    → ((t : ℕ) → LeadTo (cond (unsigned_abs (get_or ss i (pos 0)) == 0) legs (record { places = get_or ns i 0; step = unsigned_abs (get_or ss i (pos 0)) } ∷ legs)) t → LeadTo more t)
    → (t : ℕ) → LeadTo (with_dimensions (drop i ns) (drop i ss) legs) t → LeadTo (with_dimensions (drop (i + 1) ns) (drop (i + 1) ss) more) t
next_dimension ns ss i legs more same low h t led =
    let a : drop i ns ≡ get_or ns i 0 ∷ drop (i + 1) ns = drop_more ns i 0 low in
    let b : drop i ss ≡ get_or ss i (pos 0) ∷ drop (i + 1) ss = drop_more ss i (pos 0) (omega arith) in
    more_dimensions (drop (i + 1) ns) (drop (i + 1) ss) (cond (unsigned_abs (get_or ss i (pos 0)) == 0) legs (record { places = get_or ns i 0; step = unsigned_abs (get_or ss i (pos 0)) } ∷ legs)) more h t
    (subst (λ ys. LeadTo (with_dimensions (get_or ns i 0 ∷ drop (i + 1) ns) ys legs) t) b (subst (λ xs. LeadTo (with_dimensions xs (drop i ss) legs) t) a led))

pub no_dimension : (ns : List ℕ) (ss : List ℤ) (i : ℕ) (legs : List Leg) (t : ℕ) → length ns ≤ i → LeadTo (with_dimensions (drop i ns) (drop i ss) legs) t → LeadTo legs t
no_dimension ns ss i legs t done led = subst (λ xs. LeadTo (with_dimensions xs (drop i ss) legs) t) (drop_all i ns done) led

-- ---- and the same backwards

pub next_dimension_back : (ns : List ℕ) (ss : List ℤ) (i : ℕ) (legs more : List Leg) → length ss ≡ length ns → i < length ns
    → ((t : ℕ) → LeadTo more t → LeadTo (cond (unsigned_abs (get_or ss i (pos 0)) == 0) legs (record { places = get_or ns i 0; step = unsigned_abs (get_or ss i (pos 0)) } ∷ legs)) t)
    → (t : ℕ) → LeadTo (with_dimensions (drop (i + 1) ns) (drop (i + 1) ss) more) t → LeadTo (with_dimensions (drop i ns) (drop i ss) legs) t
next_dimension_back ns ss i legs more same low h t led =
    let a : get_or ns i 0 ∷ drop (i + 1) ns ≡ drop i ns = sym (drop_more ns i 0 low) in
    let b : get_or ss i (pos 0) ∷ drop (i + 1) ss ≡ drop i ss = sym (drop_more ss i (pos 0) (omega arith)) in
    subst (λ xs. LeadTo (with_dimensions xs (drop i ss) legs) t) a (subst (λ ys. LeadTo (with_dimensions (get_or ns i 0 ∷ drop (i + 1) ns) ys legs) t) b
    (more_dimensions (drop (i + 1) ns) (drop (i + 1) ss) more (cond (unsigned_abs (get_or ss i (pos 0)) == 0) legs (record { places = get_or ns i 0; step = unsigned_abs (get_or ss i (pos 0)) } ∷ legs)) h t led))

pub no_dimension_back : (ns : List ℕ) (ss : List ℤ) (i : ℕ) (legs : List Leg) (t : ℕ) → length ns ≤ i → LeadTo legs t → LeadTo (with_dimensions (drop i ns) (drop i ss) legs) t
no_dimension_back ns ss i legs t done led = subst (λ xs. LeadTo (with_dimensions xs (drop i ss) legs) t) (sym (drop_all i ns done)) led
