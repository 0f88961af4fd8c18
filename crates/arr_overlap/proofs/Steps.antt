-- Views whose strides tell whether an element is repeated.
use Rattle.std.proofs.Common.{◌≡◌, ℕ, zero, suc, ◌+◌, ◌-◌, ◌*◌, ◌<◌, ◌≤◌, ℤ, pos, negsuc, ◌+ℤ◌, ◌-ℤ◌, List, [], ◌∷◌, ◌++◌, Bool, true, false, cond, length, map, drop, get_or, refl, ap, ap₂, sym, ◌∙◌, subst, arith}
use Rattle.std.specs.Prelude.{◌==◌, ◌||◌, nat_eq, nat_le, unsigned_abs}
use Rattle.std.specs.List.{list_all}
use Rattle.std.proofs.Math.Nat.{mul-le-mul_left, mul_comm}
use Rattle.std.proofs.lemmas.Int.{ints, unsigned_abs-mul}
use Rattle.std.proofs.lemmas.Bool.{and_parts, eqb-true, eq-eqb, false≢true, false_from_ne_true, leb-true, leb-false, le-leb, lt-leb}
use Rattle.std.proofs.lemmas.List.{drop_more, drop_all, length-map, map-append}
use Rattle.std.proofs.lemmas.List.Folds.{list_any-append}
use Rattle.arr_view.specs.Strided.{Strided}
use Rattle.arr_view.specs.Views.{at_steps, elements, has, is_place, is_view, places, positions, repeated, repeats, to_place}
use Rattle.arr_view.proofs.Checks.{lawful, same_rank}
use Rattle.arr_view.proofs.Counting.{some_position}
use Rattle.arr_view.proofs.Places.{Inside, length-places, out_steps, steps, steps_is}
use Rattle.arr_overlap.specs.Legs.{both_ways, both_ways_of, reach, AreLegs, IsOpen, LeadTo}
use Rattle.arr_overlap.specs.declared.legs.Leg.{Leg}
use Rattle.arr_overlap.proofs.Leading.{behind, of_more_dimensions}
use Rattle.arr_overlap.proofs.Marking.{found_again, neither, or_true}

-- ---- steps

pub steps_size : (k : ℕ) (s : ℤ) → unsigned_abs (steps k s) ≡ k * unsigned_abs s
steps_size k s = ap unsigned_abs (steps_is k s) ∙ unsigned_abs-mul (pos k) s

steps_on : (i k : ℕ) (s : ℤ) → steps (i + k) s ≡ steps i s +ℤ steps k s
steps_on zero k s =
    let same : 0 + k ≡ k = omega arith in
    let none : steps k s ≡ pos 0 +ℤ steps k s = omega (arith, ints) in
    ap (λ j. steps j s) same ∙ none
steps_on (suc i) k s =
    let same : suc i + k ≡ suc (i + k) = omega arith in
    let ih = steps_on i k s in
    let joined : s +ℤ (steps i s +ℤ steps k s) ≡ (s +ℤ steps i s) +ℤ steps k s = omega (arith, ints) in
    ap (λ j. steps j s) same ∙ ap (λ t. s +ℤ t) ih ∙ joined

-- d leads as far as some steps of s, fewer than n, up or down
record Way (n : ℕ) (s d : ℤ) : Type 0 where
  pub many : ℕ
  pub below : many < n
  pub size : unsigned_abs d ≡ many * unsigned_abs s

-- from the i-th step to the j-th
way_between : (n : ℕ) (s : ℤ) (i j : ℕ) (x y d : ℤ) → i < n → j < n → x ≡ steps i s → y ≡ steps j s → y ≡ x +ℤ d → Way n s d
way_between n s i j x y d a b e f g =
    elim (nat_le i j) as (λ t. nat_le i j ≡ t → Way n s d) [
      | true ↦ λ h.
          let order : i ≤ j = leb-true i j h in
          let apart : i + (j - i) ≡ j = omega arith in
          let on : steps j s ≡ steps i s +ℤ steps (j - i) s = ap (λ k. steps k s) (sym apart) ∙ steps_on i (j - i) s in
          let same : d ≡ steps (j - i) s = omega (arith, ints) in
          record { many = j - i; below = omega arith; size = ap unsigned_abs same ∙ steps_size (j - i) s }
      | false ↦ λ h.
          let order : j < i = leb-false i j h in
          let apart : j + (i - j) ≡ i = omega arith in
          let on : steps i s ≡ steps j s +ℤ steps (i - j) s = ap (λ k. steps k s) (sym apart) ∙ steps_on j (i - j) s in
          let same : unsigned_abs d ≡ unsigned_abs (steps (i - j) s) = omega (arith, ints) in
          record { many = i - j; below = omega arith; size = same ∙ steps_size (i - j) s }
    ] refl

-- ---- one way in each dimension

abbrev pub Each : (ℕ → ℤ → ℤ → Type 0) → List ℕ → List ℤ → List ℤ → Type 0
Each P [] [] [] = Unit {0}
Each P (n ∷ ns) (s ∷ ss) (d ∷ ds) = P n s d × Each P ns ss ds
Each P _ _ _ = ⊥

abbrev Ways : List ℕ → List ℤ → List ℤ → Type 0
Ways = Each Way

abbrev pub total : List ℤ → ℤ
total [] = pos 0
total (d ∷ ds) = d +ℤ total ds

-- half of what the legs of all dimensions reach
abbrev middle : List ℕ → List ℤ → ℕ
middle (n ∷ ns) (s ∷ ss) = (n - 1) * unsigned_abs s + middle ns ss
middle _ _ = 0

twice_middle : (ns : List ℕ) (ss : List ℤ) → reach (both_ways ns ss) ≡ middle ns ss + middle ns ss
twice_middle [] ss = refl
twice_middle (n ∷ ns) [] = refl
twice_middle (n ∷ ns) (s ∷ ss) =
    let a : ℕ = unsigned_abs s in
    let ih : reach (both_ways ns ss) ≡ middle ns ss + middle ns ss = twice_middle ns ss in
    elim (nat_le n 1) as (λ b. nat_le n 1 ≡ b → reach (cond b (both_ways ns ss) (both_ways_of n a ∷ both_ways ns ss)) ≡ ((n - 1) * a + middle ns ss) + ((n - 1) * a + middle ns ss)) [
      | true ↦ λ e.
          let short : n ≤ 1 = leb-true n 1 e in
          let none : (n - 1) * a ≡ 0 = ap (λ k. k * a) (let o : n - 1 ≡ 0 = omega arith in o) ∙ (let z : 0 * a ≡ 0 = omega arith in z) in
          omega arith
      | false ↦ λ e.
          let long : 1 < n = leb-false n 1 e in
          let whole : (n + (n - 1)) - 1 ≡ (n - 1) + (n - 1) = omega arith in
          let parts : ((n + (n - 1)) - 1) * a ≡ (n - 1) * a + (n - 1) * a = ap (λ k. k * a) whole ∙ (let o : ((n - 1) + (n - 1)) * a ≡ (n - 1) * a + (n - 1) * a = omega arith in o) in
          omega arith
    ] refl

-- the ways lead from the middle of the legs to a place
record Led (ns : List ℕ) (ss ds : List ℤ) : Type 0 where
  pub place : ℕ
  pub there : LeadTo (both_ways ns ss) place
  pub is : pos place ≡ pos (middle ns ss) +ℤ total ds

one_way : (n : ℕ) (s d : ℤ) (ns : List ℕ) (ss ds : List ℤ) → 1 < n → Way n s d → Led ns ss ds
    → (p : ℕ) × (LeadTo (both_ways_of n (unsigned_abs s) ∷ both_ways ns ss) p × (pos p ≡ pos ((n - 1) * unsigned_abs s + middle ns ss) +ℤ (d +ℤ total ds)))
one_way n s d ns ss ds long way rest =
    let a : ℕ = unsigned_abs s in
    let m : ℕ = way.many in
    let below : m < n = way.below in
    let size : unsigned_abs d ≡ m * a = way.size in
    let is : pos rest.place ≡ pos (middle ns ss) +ℤ total ds = rest.is in
    elim (nat_le (unsigned_abs (d +ℤ pos (m * a))) 0) as (λ b. nat_le (unsigned_abs (d +ℤ pos (m * a))) 0 ≡ b
    → (p : ℕ) × (LeadTo (both_ways_of n a ∷ both_ways ns ss) p × (pos p ≡ pos ((n - 1) * a + middle ns ss) +ℤ (d +ℤ total ds)))) [
      | true ↦ λ e.
          let none : unsigned_abs (d +ℤ pos (m * a)) ≤ 0 = leb-true (unsigned_abs (d +ℤ pos (m * a))) 0 e in
          let whole : (n - 1) ≡ ((n - 1) - m) + m = omega arith in
          let parts : (n - 1) * a ≡ ((n - 1) - m) * a + m * a = ap (λ k. k * a) whole ∙ (let o : (((n - 1) - m) + m) * a ≡ ((n - 1) - m) * a + m * a = omega arith in o) in
          let place : pos (((n - 1) - m) * a + rest.place) ≡ pos ((n - 1) * a + middle ns ss) +ℤ (d +ℤ total ds) = omega (arith, ints) in
          (((n - 1) - m) * a + rest.place, (record { count = (n - 1) - m; few = omega arith; left = rest.place; sum = refl; on = rest.there }, place))
      | false ↦ λ e.
          let some : 0 < unsigned_abs (d +ℤ pos (m * a)) = leb-false (unsigned_abs (d +ℤ pos (m * a))) 0 e in
          let parts : ((n - 1) + m) * a ≡ (n - 1) * a + m * a = omega arith in
          let place : pos (((n - 1) + m) * a + rest.place) ≡ pos ((n - 1) * a + middle ns ss) +ℤ (d +ℤ total ds) = omega (arith, ints) in
          (((n - 1) + m) * a + rest.place, (record { count = (n - 1) + m; few = omega arith; left = rest.place; sum = refl; on = rest.there }, place))
    ] refl

led : (ns : List ℕ) (ss ds : List ℤ) → Ways ns ss ds → Led ns ss ds
led [] [] [] ways = record { place = 0; there = refl; is = refl }
led [] [] (d ∷ ds) ways = absurd ways
led [] (s ∷ ss) ds ways = absurd ways
led (n ∷ ns) [] ds ways = absurd ways
led (n ∷ ns) (s ∷ ss) [] ways = absurd ways
led (n ∷ ns) (s ∷ ss) (d ∷ ds) ways =
    let rest : Led ns ss ds = led ns ss ds ways.1 in
    let a : ℕ = unsigned_abs s in
    let next :
    (p : ℕ) × (LeadTo (both_ways (n ∷ ns) (s ∷ ss)) p × (pos p ≡ pos ((n - 1) * a + middle ns ss) +ℤ (d +ℤ total ds))) =
    elim (nat_le n 1) as (λ b. nat_le n 1 ≡ b → (p : ℕ) × (LeadTo (cond b (both_ways ns ss) (both_ways_of n a ∷ both_ways ns ss)) p × (pos p ≡ pos ((n - 1) * a + middle ns ss) +ℤ (d +ℤ total ds)))) [
      | true ↦ λ e.
          let short : n ≤ 1 = leb-true n 1 e in
          let below : ways.0.many < n = ways.0.below in
          let size : unsigned_abs d ≡ ways.0.many * a = ways.0.size in
          let still : ways.0.many * a ≡ 0 = ap (λ k. k * a) (let o : ways.0.many ≡ 0 = omega arith in o) ∙ (let z : 0 * a ≡ 0 = omega arith in z) in
          let none : (n - 1) * a ≡ 0 = ap (λ k. k * a) (let o : n - 1 ≡ 0 = omega arith in o) ∙ (let z : 0 * a ≡ 0 = omega arith in z) in
          let is : pos rest.place ≡ pos (middle ns ss) +ℤ total ds = rest.is in
          let place : pos rest.place ≡ pos ((n - 1) * a + middle ns ss) +ℤ (d +ℤ total ds) = omega (arith, ints) in
          (rest.place, (rest.there, place))
      | false ↦ λ e. one_way n s d ns ss ds (leb-false n 1 e) ways.0 rest
    ] refl in
    record { place = next.0; there = next.1.0; is = next.1.1 }

-- ways that make up for some steps close the way back
closed : (n : ℕ) (s : ℤ) (k : ℕ) (ns : List ℕ) (ss ds : List ℤ) → 1 ≤ k → k < n → Ways ns ss ds → total ds +ℤ pos (k * unsigned_abs s) ≡ pos 0 → IsOpen n (unsigned_abs s) (both_ways ns ss) → ⊥
closed n s k ns ss ds some few ways sum free =
    let a : ℕ = unsigned_abs s in
    let l : Led ns ss ds = led ns ss ds ways in
    let is : pos l.place ≡ pos (middle ns ss) +ℤ total ds = l.is in
    let twice : reach (both_ways ns ss) ≡ middle ns ss + middle ns ss = twice_middle ns ss in
    let whole : k ≡ (k - 1) + 1 = omega arith in
    let parts : k * a ≡ (k - 1) * a + a = ap (λ i. i * a) whole ∙ (let o : ((k - 1) + 1) * a ≡ (k - 1) * a + a = omega arith in o) in
    let half : ((k - 1) * a + l.place) + a ≡ middle ns ss = omega (arith, ints) in
    free.1 ((k - 1) * a + l.place) (omega arith) (record { count = k - 1; few = omega arith; left = l.place; sum = refl; on = l.there })

-- ---- the indices that lead to an element

-- x is so many steps of s, fewer than n
pub record Move (n : ℕ) (s x : ℤ) : Type 0 where
  pub index : ℕ
  pub below : index < n
  pub is : x ≡ steps index s

pub record Found (ns : List ℕ) (ss : List ℤ) (z : ℤ) (x : ℕ) : Type 0 where
  pub moves : List ℤ
  pub each : Each Move ns ss moves
  pub place : pos x ≡ z +ℤ total moves

record AtStep (f : ℤ → List ℤ) (n : ℕ) (s z : ℤ) (x : ℕ) : Type 0 where
  pub index : ℕ
  pub below : index < n
  pub here : has (map to_place (f (z +ℤ steps index s))) x ≡ true

step_found : (f : ℤ → List ℤ) (n : ℕ) (s z : ℤ) (x : ℕ) → has (map to_place (at_steps f n s z)) x ≡ true → AtStep f n s z x
step_found f zero s z x e = absurd (false≢true e)
step_found f (suc n) s z x e =
    let parts : (has (map to_place (f z)) x || has (map to_place (at_steps f n s (z +ℤ s))) x) ≡ true =
    sym (ap (λ ys. has ys x) (map-append to_place (f z) (at_steps f n s (z +ℤ s))) ∙ list_any-append (nat_eq x) (map to_place (f z)) (map to_place (at_steps f n s (z +ℤ s)))) ∙ e in
    elim (has (map to_place (f z)) x) as (λ b. has (map to_place (f z)) x ≡ b → AtStep f (suc n) s z x) [
      | true ↦ λ h.
          let same : z ≡ z +ℤ pos 0 = omega (arith, ints) in
          record { index = 0; below = omega arith; here = subst (λ y. has (map to_place (f y)) x ≡ true) same h }
      | false ↦ λ h.
          let later : AtStep f n s (z +ℤ s) x = step_found f n s (z +ℤ s) x (sym (ap (λ b. b || has (map to_place (at_steps f n s (z +ℤ s))) x) h) ∙ parts) in
          let below : later.index < n = later.below in
          let same : (z +ℤ s) +ℤ steps later.index s ≡ z +ℤ (s +ℤ steps later.index s) = omega (arith, ints) in
          record { index = suc later.index; below = omega arith; here = subst (λ y. has (map to_place (f y)) x ≡ true) same later.here }
    ] refl

pub found : (ns : List ℕ) (ss : List ℤ) (z : ℤ) (x : ℕ) → length ss ≡ length ns → Inside ns ss z → has (map to_place (places ns ss z)) x ≡ true → Found ns ss z x
found [] [] (pos n) x same inside e =
    let here : x ≡ n = eqb-true x n (alone (x == n) e) in
    let place : pos x ≡ pos n +ℤ pos 0 = omega (arith, ints) in
    record { moves = []; each = tt; place = place }
  where
    alone : (b : Bool) → (b || false) ≡ true → b ≡ true
    alone true e = refl
    alone false e = e
found [] [] (negsuc n) x same inside e = absurd (false≢true inside)
found [] (s ∷ ss) z x same inside e = absurd (omega arith)
found (n ∷ ns) [] z x same inside e = absurd (omega arith)
found (n ∷ ns) (s ∷ ss) z x same inside e =
    let first : AtStep (places ns ss) n s z x = step_found (places ns ss) n s z x e in
    let rest : Found ns ss (z +ℤ steps first.index s) x =
    found ns ss (z +ℤ steps first.index s) x (omega arith) (out_steps is_place (places ns ss) n s z inside first.index first.below) first.here in
    let whole : pos x ≡ (z +ℤ steps first.index s) +ℤ total rest.moves = rest.place in
    let joined : (z +ℤ steps first.index s) +ℤ total rest.moves ≡ z +ℤ (steps first.index s +ℤ total rest.moves) = omega (arith, ints) in
    record { moves = steps first.index s ∷ rest.moves; each = (record { index = first.index; below = first.below; is = refl }, rest.each); place = whole ∙ joined }

-- ---- from one index to another

record Between (ns : List ℕ) (ss xs ys : List ℤ) : Type 0 where
  pub ways : List ℤ
  pub each : Ways ns ss ways
  pub sum : total ys ≡ total xs +ℤ total ways

between : (ns : List ℕ) (ss xs ys : List ℤ) → Each Move ns ss xs → Each Move ns ss ys → Between ns ss xs ys
between [] [] [] [] a b = record { ways = []; each = tt; sum = refl }
between [] [] [] (y ∷ ys) a b = absurd b
between [] [] (x ∷ xs) ys a b = absurd a
between [] (s ∷ ss) xs ys a b = absurd a
between (n ∷ ns) [] xs ys a b = absurd a
between (n ∷ ns) (s ∷ ss) [] ys a b = absurd a
between (n ∷ ns) (s ∷ ss) (x ∷ xs) [] a b = absurd b
between (n ∷ ns) (s ∷ ss) (x ∷ xs) (y ∷ ys) a b =
    let rest : Between ns ss xs ys = between ns ss xs ys a.1 b.1 in
    let sums : total ys ≡ total xs +ℤ total rest.ways = rest.sum in
    let way : y ≡ x +ℤ (y -ℤ x) = omega (arith, ints) in
    record {
      ways = (y -ℤ x) ∷ rest.ways;
      each = (way_between n s a.0.index b.0.index x y (y -ℤ x) a.0.below b.0.below a.0.is b.0.is way, rest.each);
      sum = omega (arith, ints);
    }

-- ---- no element is repeated

-- two steps of the first dimension share nothing
steps_share_nothing : (n : ℕ) (s : ℤ) (ns : List ℕ) (ss : List ℤ) (z : ℤ) (x i j : ℕ) → IsOpen n (unsigned_abs s) (both_ways ns ss) → i < j → j < n
    → Found ns ss (z +ℤ steps i s) x → Found ns ss (z +ℤ steps j s) x → ⊥
steps_share_nothing n s ns ss z x i j free before below a b =
    let on_from : Between ns ss a.moves b.moves = between ns ss a.moves b.moves a.each b.each in
    let back_from : Between ns ss b.moves a.moves = between ns ss b.moves a.moves b.each a.each in
    let d : ℤ = steps (j - i) s in
    let k : ℕ = (j - i) * unsigned_abs s in
    let apart : i + (j - i) ≡ j = omega arith in
    let on : steps j s ≡ steps i s +ℤ d = ap (λ k. steps k s) (sym apart) ∙ steps_on i (j - i) s in
    let size : unsigned_abs d ≡ k = steps_size (j - i) s in
    let one : pos x ≡ (z +ℤ steps i s) +ℤ total a.moves = a.place in
    let two : pos x ≡ (z +ℤ steps j s) +ℤ total b.moves = b.place in
    let sums : total b.moves ≡ total a.moves +ℤ total on_from.ways = on_from.sum in
    let sums' : total a.moves ≡ total b.moves +ℤ total back_from.ways = back_from.sum in
    let some : 1 ≤ j - i = omega arith in
    let few : j - i < n = omega arith in
    elim (nat_le (unsigned_abs (d +ℤ pos k)) 0) as (λ b. nat_le (unsigned_abs (d +ℤ pos k)) 0 ≡ b → ⊥) [
      | true ↦ λ e.
          let none : unsigned_abs (d +ℤ pos k) ≤ 0 = leb-true (unsigned_abs (d +ℤ pos k)) 0 e in
          let down : total back_from.ways +ℤ pos k ≡ pos 0 = omega (arith, ints) in
          closed n s (j - i) ns ss back_from.ways some few back_from.each down free
      | false ↦ λ e.
          let more : 0 < unsigned_abs (d +ℤ pos k) = leb-false (unsigned_abs (d +ℤ pos k)) 0 e in
          let up : total on_from.ways +ℤ pos k ≡ pos 0 = omega (arith, ints) in
          closed n s (j - i) ns ss on_from.ways some few on_from.each up free
    ] refl

fresh_joined : (xs ys : List ℕ) → repeated xs ≡ false → repeated ys ≡ false → ((x : ℕ) → has xs x ≡ true → has ys x ≡ true → ⊥) → repeated (xs ++ ys) ≡ false
fresh_joined [] ys a b never = b
fresh_joined (x ∷ xs) ys a b never =
    let p = neither (has xs x) (repeated xs) a in
    let other : has ys x ≡ false = false_from_ne_true (has ys x) (λ h. never x (ap (λ t. t || has xs x) (eq-eqb x x refl)) h) in
    ap₂ (λ s t. s || t) (list_any-append (nat_eq x) xs ys ∙ ap₂ (λ s t. s || t) p.0 other) (fresh_joined xs ys p.1 b (λ y h k. never y (ap (λ t. (y == x) || t) h ∙ or_true (y == x)) k))

fresh_steps : (f : ℤ → List ℤ) (n : ℕ) (s z : ℤ) → ((i : ℕ) → i < n → repeated (map to_place (f (z +ℤ steps i s))) ≡ false)
    → ((i j x : ℕ) → i < j → j < n → has (map to_place (f (z +ℤ steps i s))) x ≡ true → has (map to_place (f (z +ℤ steps j s))) x ≡ true → ⊥)
    → repeated (map to_place (at_steps f n s z)) ≡ false
fresh_steps f zero s z each never = refl
fresh_steps f (suc n) s z each never =
    let first : z +ℤ pos 0 ≡ z = omega (arith, ints) in
    ap repeated (map-append to_place (f z) (at_steps f n s (z +ℤ s)))
    ∙ fresh_joined (map to_place (f z)) (map to_place (at_steps f n s (z +ℤ s))) (subst (λ y. repeated (map to_place (f y)) ≡ false) first (each 0 (omega arith)))
    (fresh_steps f n s (z +ℤ s) (λ i l. subst (λ y. repeated (map to_place (f y)) ≡ false) (next i) (each (suc i) (omega arith)))
    (λ i j x l m a b. never (suc i) (suc j) x (omega arith) (omega arith) (subst (λ y. has (map to_place (f y)) x ≡ true) (sym (next i)) a) (subst (λ y. has (map to_place (f y)) x ≡ true) (sym (next j)) b)))
    (λ x a b.
    let later : AtStep f n s (z +ℤ s) x = step_found f n s (z +ℤ s) x b in
    let below : later.index < n = later.below in
    never 0 (suc later.index) x (omega arith) (omega arith) (subst (λ y. has (map to_place (f y)) x ≡ true) (sym first) a) (subst (λ y. has (map to_place (f y)) x ≡ true) (sym (next later.index)) later.here))
  where
    next : (i : ℕ) → z +ℤ (s +ℤ steps i s) ≡ (z +ℤ s) +ℤ steps i s
    next i = omega (arith, ints)

-- no dimension longer than 1 leads back with those behind it
abbrev pub AllOpen : List ℕ → List ℤ → Type 0
AllOpen (n ∷ ns) (s ∷ ss) = (1 < n → IsOpen n (unsigned_abs s) (both_ways ns ss)) × AllOpen ns ss
AllOpen _ _ = Unit {0}

fresh : (ns : List ℕ) (ss : List ℤ) (z : ℤ) → length ss ≡ length ns → AllOpen ns ss → Inside ns ss z → repeated (map to_place (places ns ss z)) ≡ false
fresh [] ss z same free inside = refl
fresh (n ∷ ns) [] z same free inside = refl
fresh (n ∷ ns) (s ∷ ss) z same free inside =
    fresh_steps (places ns ss) n s z (λ i l. fresh ns ss (z +ℤ steps i s) (omega arith) free.1 (out_steps is_place (places ns ss) n s z inside i l))
    (λ i j x before below a b.
    steps_share_nothing n s ns ss z x i j (free.0 (omega arith)) before below
    (found ns ss (z +ℤ steps i s) x (omega arith) (out_steps is_place (places ns ss) n s z inside i (omega arith)) a)
    (found ns ss (z +ℤ steps j s) x (omega arith) (out_steps is_place (places ns ss) n s z inside j below) b))

pub open_fresh : (v : Strided) → is_view v ≡ true → AllOpen v.lengths v.strides → repeats v ≡ false
unfolding elements
open_fresh v law free = fresh v.lengths v.strides (pos v.start) (same_rank v law) free (lawful v law).inside

-- ---- the legs of the dimensions that are behind

pub record Behind (ns : List ℕ) (ss : List ℤ) (k : ℕ) (legs : List Leg) : Type 0 where
  pub free : AllOpen ns ss
  pub are : AreLegs k legs
  pub far : reach legs ≡ reach (both_ways ns ss)
  pub missed : (t : ℕ) → LeadTo (both_ways ns ss) t → LeadTo legs t

pub behind_none : (ns : List ℕ) (ss : List ℤ) (i k : ℕ) (legs : List Leg) → length ns ≤ i → legs ≡ [] → Behind (drop i ns) (drop i ss) k legs
behind_none ns ss i k legs end none =
    subst (λ ms. Behind ms (drop i ss) k legs) (sym (drop_all i ns end))
    (subst (Behind [] (drop i ss) k) (sym none) (record { free = tt; are = record { few = omega arith; each = refl }; far = refl; missed = λ t h. h }))

pub behind_short : (n : ℕ) (s : ℤ) (ns : List ℕ) (ss : List ℤ) (k m : ℕ) (legs : List Leg) → n ≤ 1 → k ≤ m → Behind ns ss k legs → Behind (n ∷ ns) (s ∷ ss) m legs
behind_short n s ns ss k m legs short more b =
    let same : both_ways ns ss ≡ both_ways (n ∷ ns) (s ∷ ss) = ap (λ t. cond t (both_ways ns ss) (both_ways_of n (unsigned_abs s) ∷ both_ways ns ss)) (sym (le-leb n 1 short)) in
    record {
      free = (λ long. absurd (omega arith), b.free);
      are = of_more_dimensions k m legs more b.are;
      far = b.far ∙ ap reach same;
      missed = λ t h. b.missed t (subst (λ ls. LeadTo ls t) (sym same) h);
    }

pub behind_more : (n : ℕ) (s : ℤ) (ns : List ℕ) (ss : List ℤ) (k m : ℕ) (legs more : List Leg) → 1 < n → k + 2 ≤ m → Behind ns ss k legs → IsOpen n (unsigned_abs s) legs → AreLegs (k + 2) more
    → reach more ≡ reach (both_ways_of n (unsigned_abs s) ∷ legs) → ((t : ℕ) → LeadTo (both_ways_of n (unsigned_abs s) ∷ legs) t → LeadTo more t) → Behind (n ∷ ns) (s ∷ ss) m more
behind_more n s ns ss k m legs more long high b free are far on =
    let a : ℕ = unsigned_abs s in
    let x : Leg = both_ways_of n a in
    let same : x ∷ both_ways ns ss ≡ both_ways (n ∷ ns) (s ∷ ss) = ap (λ t. cond t (both_ways ns ss) (x ∷ both_ways ns ss)) (sym (lt-leb n 1 long)) in
    record {
      free = (λ _. (free.0, λ t half h. free.1 t (half ∙ sym b.far) (behind (record { places = n - 1; step = a }) (both_ways ns ss) legs b.missed t h)), b.free);
      are = of_more_dimensions (k + 2) m more high are;
      far = far ∙ ap (λ r. (x.places - 1) * a + r) b.far ∙ ap reach same;
      missed = λ t h. on t (behind x (both_ways ns ss) legs b.missed t (subst (λ ls. LeadTo ls t) (sym same) h));
    }

-- one dimension more, counted down
pub behind_at : (ns : List ℕ) (ss : List ℤ) (i m : ℕ) (legs : List Leg) → length ss ≡ length ns → 1 ≤ i → i ≤ length ns
    → Behind (get_or ns (i - 1) 0 ∷ drop i ns) (get_or ss (i - 1) (pos 0) ∷ drop i ss) m legs → Behind (drop (i - 1) ns) (drop (i - 1) ss) m legs
behind_at ns ss i m legs same some low b =
    let on : (i - 1) + 1 ≡ i = omega arith in
    let a : drop (i - 1) ns ≡ get_or ns (i - 1) 0 ∷ drop i ns = drop_more ns (i - 1) 0 (omega arith) ∙ ap (λ j. get_or ns (i - 1) 0 ∷ drop j ns) on in
    let c : drop (i - 1) ss ≡ get_or ss (i - 1) (pos 0) ∷ drop i ss = drop_more ss (i - 1) (pos 0) (omega arith) ∙ ap (λ j. get_or ss (i - 1) (pos 0) ∷ drop j ss) on in
    subst (λ xs. Behind xs (drop (i - 1) ss) m legs) (sym a) (subst (λ ys. Behind (get_or ns (i - 1) 0 ∷ drop i ns) ys m legs) (sym c) b)

-- ---- an element is repeated

again : (xs rest : List ℕ) → 1 ≤ length xs → repeated (xs ++ (xs ++ rest)) ≡ true
again [] rest l = absurd (omega arith)
again (x ∷ xs) rest l = found_again (x ∷ xs) (xs ++ rest) x (ap (λ b. b || has xs x) (eq-eqb x x refl))

front_repeats : (xs ys : List ℕ) → repeated xs ≡ true → repeated (xs ++ ys) ≡ true
front_repeats [] ys e = absurd (false≢true e)
front_repeats (x ∷ xs) ys e =
    elim (has xs x) as (λ b. has xs x ≡ b → (has (xs ++ ys) x || repeated (xs ++ ys)) ≡ true) [
      | true ↦ λ h. ap (λ b. b || repeated (xs ++ ys)) (list_any-append (nat_eq x) xs ys ∙ ap (λ b. b || has ys x) h)
      | false ↦ λ h. ap (λ b. has (xs ++ ys) x || b) (front_repeats xs ys (sym (ap (λ b. b || repeated xs) h) ∙ e)) ∙ or_true (has (xs ++ ys) x)
    ] refl

still_repeated : (ns : List ℕ) (ss : List ℤ) (z : ℤ) (k : ℕ) → list_all (nat_le 1) ns ≡ true → length ss ≡ length ns → k < length ns → 1 < get_or ns k 0 → get_or ss k (pos 0) ≡ pos 0
    → repeated (map to_place (places ns ss z)) ≡ true
still_repeated [] ss z k some same l long still = absurd (omega arith)
still_repeated (n ∷ ns) [] z k some same l long still = absurd (omega arith)
still_repeated (zero ∷ ns) (s ∷ ss) z k some same l long still = absurd (false≢true some)
still_repeated (suc zero ∷ ns) (s ∷ ss) z zero some same l long still = absurd (omega arith)
still_repeated (suc (suc n) ∷ ns) (s ∷ ss) z zero some same l long still =
    let f : ℤ → List ℤ = places ns ss in
    let later : List ℤ = at_steps f n s ((z +ℤ s) +ℤ s) in
    let here : z +ℤ s ≡ z = omega (arith, ints) in
    let count : length (map to_place (f z)) ≡ positions ns = length-map (f z) to_place ∙ length-places ns ss z (omega arith) in
    let positive : 1 ≤ positions ns = some_position ns (and_parts (nat_le 1 (suc (suc n))) _ some).1 in
    ap repeated (map-append to_place (f z) (f (z +ℤ s) ++ later) ∙ ap (λ ys. map to_place (f z) ++ ys) (map-append to_place (f (z +ℤ s)) later ∙ ap (λ y. map to_place (f y) ++ map to_place later) here))
    ∙ again (map to_place (f z)) (map to_place later) (omega arith)
still_repeated (suc n ∷ ns) (s ∷ ss) z (suc k) some same l long still =
    ap repeated (map-append to_place (places ns ss z) (at_steps (places ns ss) n s (z +ℤ s)))
    ∙ front_repeats (map to_place (places ns ss z)) (map to_place (at_steps (places ns ss) n s (z +ℤ s)))
    (still_repeated ns ss z k (and_parts (nat_le 1 (suc n)) _ some).1 (omega arith) (omega arith) long still)

pub still_repeats : (v : Strided) (k : ℕ) → is_view v ≡ true → k < length v.lengths → 1 < get_or v.lengths k 0 → get_or v.strides k (pos 0) ≡ pos 0 → repeats v ≡ true
unfolding elements
still_repeats v k law l long still = still_repeated v.lengths v.strides (pos v.start) k (lawful v law).lengths (same_rank v law) l long still

-- ---- one dimension more

pub each_length : (ns : List ℕ) (k : ℕ) → list_all (nat_le 1) ns ≡ true → k < length ns → (1 ≤ get_or ns k 0) × (get_or ns k 0 ≤ positions ns)
each_length [] k some l = absurd (omega arith)
each_length (n ∷ ns) zero some l =
    let p = and_parts (nat_le 1 n) (list_all (nat_le 1) ns) some in
    let positive : 1 ≤ positions ns = some_position ns p.1 in
    let grown : n * 1 ≤ n * positions ns = mul-le-mul_left n positive in
    (leb-true 1 n p.0, omega arith)
each_length (n ∷ ns) (suc k) some l =
    let p = and_parts (nat_le 1 n) (list_all (nat_le 1) ns) some in
    let here : 1 ≤ n = leb-true 1 n p.0 in
    let ih : (1 ≤ get_or ns k 0) × (get_or ns k 0 ≤ positions ns) = each_length ns k p.1 (omega arith) in
    let low : get_or ns k 0 ≤ positions ns = ih.1 in
    let grown : positions ns * 1 ≤ positions ns * n = mul-le-mul_left (positions ns) here in
    let turned : positions ns * n ≡ n * positions ns = mul_comm (positions ns) n in
    (ih.0, omega arith)
