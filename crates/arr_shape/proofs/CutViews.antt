-- The view of the indices that cuts take.
use Rattle.std.proofs.Common.{◌≡◌, ℕ, zero, suc, ◌+◌, ◌*◌, ◌<◌, ◌≤◌, ℤ, pos, negsuc, ◌+ℤ◌, ◌-ℤ◌, ◌*ℤ◌, ◌≤ℤ◌, ◌<ℤ◌, List, [], ◌∷◌, Bool, true, false, not, ◌||◌, ◌&&◌, length, get_or, drop, map, refl, ap, ap₂, sym, ◌∙◌, subst, arith}
use Rattle.std.specs.Prelude.{nat_le, ◌==◌}
use Rattle.std.specs.List.{list_all}
use Rattle.std.proofs.Math.Nat.{mul-le-mul_left, mul-le-mul_right}
use lib.IntN.{zero-*ℤ, suc_ℤ-*ℤ, pred_ℤ-*ℤ, suc_ℤ-+ℤ, pred_ℤ-+ℤ}
use Rattle.std.proofs.lemmas.Int.{ints}
use Rattle.std.proofs.lemmas.Bool.{and_from, le-leb, eqb-true, eqb-false}
use Rattle.std.proofs.lemmas.List.{length-map, drop_more}
use Rattle.arr_view.specs.Views.{places, positions, is_place, is_zero, strides_kept, to_place}
use Rattle.arr_view.proofs.Places.{Inside, steps, steps_is, in_steps, out_steps, begins_inside, place_low, place_high}
use Rattle.arr_shape.specs.declared.bounds.Cut.{Cut}
use Rattle.arr_shape.specs.Views.{place_at}
use Rattle.arr_shape.specs.Slices.{scaled, IsCut, AreCuts}
use Rattle.arr_shape.proofs.Made.{Sound}
use Rattle.arr_shape.proofs.Indexes.{shifted}

-- ---- products of whole numbers

regroup : (a b d : ℤ) → (a +ℤ b) +ℤ d ≡ (a +ℤ d) +ℤ b
regroup a b d = omega (arith, ints)

regroup_down : (a b d : ℤ) → (a +ℤ b) -ℤ d ≡ (a -ℤ d) +ℤ b
regroup_down a b d = omega (arith, ints)

none_first : (b : ℤ) → pos 0 +ℤ b ≡ b
none_first b = omega (arith, ints)

add_up : (n : ℕ) (b s : ℤ) → (pos n +ℤ b) *ℤ s ≡ (pos n *ℤ s) +ℤ (b *ℤ s)
add_up zero b s = ap (λ y. y *ℤ s) (none_first b) ∙ sym (none_first (b *ℤ s)) ∙ ap (λ y. y +ℤ (b *ℤ s)) (sym (zero-*ℤ s))
add_up (suc n) b s =
    ap (λ y. y *ℤ s) (suc_ℤ-+ℤ (pos n) b) ∙ suc_ℤ-*ℤ (pos n +ℤ b) s ∙ ap (λ y. y +ℤ s) (add_up n b s) ∙ regroup (pos n *ℤ s) (b *ℤ s) s ∙ ap (λ y. y +ℤ (b *ℤ s)) (sym (suc_ℤ-*ℤ (pos n) s))

add_down : (n : ℕ) (b s : ℤ) → (negsuc n +ℤ b) *ℤ s ≡ (negsuc n *ℤ s) +ℤ (b *ℤ s)
add_down zero b s =
    ap (λ y. y *ℤ s) (pred_ℤ-+ℤ (pos 0) b) ∙ pred_ℤ-*ℤ (pos 0 +ℤ b) s ∙ ap (λ y. y -ℤ s) (add_up 0 b s) ∙ regroup_down (pos 0 *ℤ s) (b *ℤ s) s ∙ ap (λ y. y +ℤ (b *ℤ s)) (sym (pred_ℤ-*ℤ (pos 0) s))
add_down (suc n) b s =
    ap (λ y. y *ℤ s) (pred_ℤ-+ℤ (negsuc n) b) ∙ pred_ℤ-*ℤ (negsuc n +ℤ b) s ∙ ap (λ y. y -ℤ s) (add_down n b s) ∙ regroup_down (negsuc n *ℤ s) (b *ℤ s) s
    ∙ ap (λ y. y +ℤ (b *ℤ s)) (sym (pred_ℤ-*ℤ (negsuc n) s))

pub add_times : (a b s : ℤ) → (a +ℤ b) *ℤ s ≡ (a *ℤ s) +ℤ (b *ℤ s)
add_times (pos n) b s = add_up n b s
add_times (negsuc n) b s = add_down n b s

one_times : (w : ℤ) → pos 1 *ℤ w ≡ w
one_times w = suc_ℤ-*ℤ (pos 0) w ∙ ap (λ y. y +ℤ w) (zero-*ℤ w) ∙ none_first w

pub times_times : (j : ℕ) (a s : ℤ) → (pos j *ℤ a) *ℤ s ≡ pos j *ℤ (a *ℤ s)
times_times zero a s = ap (λ y. y *ℤ s) (zero-*ℤ a) ∙ zero-*ℤ s ∙ sym (zero-*ℤ (a *ℤ s))
times_times (suc j) a s =
    ap (λ y. y *ℤ s) (suc_ℤ-*ℤ (pos j) a) ∙ add_times (pos j *ℤ a) a s ∙ ap (λ y. y +ℤ (a *ℤ s)) (times_times j a s) ∙ sym (suc_ℤ-*ℤ (pos j) (a *ℤ s))

-- ---- one dimension

-- the place of an index that a cut takes
spot : (i first j : ℕ) (step s : ℤ) → pos i ≡ pos first +ℤ (pos j *ℤ step) → steps i s ≡ (pos first *ℤ s) +ℤ (pos j *ℤ (step *ℤ s))
spot i first j step s e = steps_is i s ∙ ap (λ y. y *ℤ s) e ∙ add_times (pos first) (pos j *ℤ step) s ∙ ap (λ y. (pos first *ℤ s) +ℤ y) (times_times j step s)

pub taken_inside : (n : ℕ) (c : Cut) (ns : List ℕ) (s : ℤ) (ss : List ℤ) (z : ℤ) → IsCut n c → Inside (n ∷ ns) (s ∷ ss) z → (j : ℕ) → j < c.count → Inside ns ss ((z +ℤ (pos c.first *ℤ s)) +ℤ (pos j *ℤ (c.step *ℤ s)))
taken_inside n c ns s ss z h inside j b =
    let at = h.within j b in
    let moved : z +ℤ steps at.0 s ≡ (z +ℤ (pos c.first *ℤ s)) +ℤ (pos j *ℤ (c.step *ℤ s)) = ap (λ y. z +ℤ y) (spot at.0 c.first j c.step s at.2) ∙ group z (pos c.first *ℤ s) (pos j *ℤ (c.step *ℤ s)) in
    subst (λ y. Inside ns ss y) moved (out_steps is_place (places ns ss) n s z inside at.0 at.1)
  where
    group : (x y w : ℤ) → x +ℤ (y +ℤ w) ≡ (x +ℤ y) +ℤ w
    group x y w = omega (arith, ints)

pub first_inside : (n : ℕ) (c : Cut) (ns : List ℕ) (s : ℤ) (ss : List ℤ) (z : ℤ) → IsCut n c → Inside (n ∷ ns) (s ∷ ss) z → Inside ns ss (z +ℤ (pos c.first *ℤ s))
first_inside n c ns s ss z h inside =
    let some : 1 ≤ c.count = h.some in
    subst (λ y. Inside ns ss y) (ap (λ y. (z +ℤ (pos c.first *ℤ s)) +ℤ y) (zero-*ℤ (c.step *ℤ s)) ∙ whole (z +ℤ (pos c.first *ℤ s))) (taken_inside n c ns s ss z h inside 0 (omega arith))
  where
    whole : (x : ℤ) → x +ℤ pos 0 ≡ x
    whole x = omega (arith, ints)

gap : (x w : ℤ) → is_place x ≡ true → is_place (x +ℤ w) ≡ true → (negsuc 1048576 ≤ℤ w) × (w ≤ℤ pos 1048576)
gap x w a b =
    let a0 : pos 0 ≤ℤ x = place_low x a in
    let a1 : x <ℤ pos 1048576 = place_high x a in
    let b0 : pos 0 ≤ℤ (x +ℤ w) = place_low (x +ℤ w) b in
    let b1 : (x +ℤ w) <ℤ pos 1048576 = place_high (x +ℤ w) b in
    (omega (arith, ints), omega (arith, ints))

-- a stride that leads from one place to another is short
pub short : (n : ℕ) (c : Cut) (ns : List ℕ) (s : ℤ) (ss : List ℤ) (z : ℤ) → list_all (nat_le 1) ns ≡ true → length ss ≡ length ns → IsCut n c → Inside (n ∷ ns) (s ∷ ss) z
    → (negsuc 1048576 ≤ℤ (c.step *ℤ s)) × ((c.step *ℤ s) ≤ℤ pos 1048576)
short n c ns s ss z all same h inside = by (c.count == 1) refl
  where
    by : (t : Bool) → (c.count == 1) ≡ t → (negsuc 1048576 ≤ℤ (c.step *ℤ s)) × ((c.step *ℤ s) ≤ℤ pos 1048576)
    by true e =
        let none : c.step *ℤ s ≡ pos 0 = ap (λ y. y *ℤ s) (h.lone (eqb-true c.count 1 e)) ∙ zero-*ℤ s in
        (omega (arith, ints), omega (arith, ints))
    by false e =
        let many : c.count ≡ 1 → ⊥ = eqb-false c.count 1 e in
        let some : 1 ≤ c.count = h.some in
        let here : is_place (z +ℤ (pos c.first *ℤ s)) ≡ true = begins_inside ns ss (z +ℤ (pos c.first *ℤ s)) all same (first_inside n c ns s ss z h inside) in
        let next : is_place ((z +ℤ (pos c.first *ℤ s)) +ℤ (pos 1 *ℤ (c.step *ℤ s))) ≡ true = begins_inside ns ss _ all same (taken_inside n c ns s ss z h inside 1 (omega arith)) in
        gap (z +ℤ (pos c.first *ℤ s)) (c.step *ℤ s) here (subst (λ y. is_place ((z +ℤ (pos c.first *ℤ s)) +ℤ y) ≡ true) (one_times (c.step *ℤ s)) next)

-- ---- all dimensions

pub are_many : (ns : List ℕ) (cs : List Cut) → AreCuts ns cs → length cs ≡ length ns
are_many [] [] h = refl
are_many [] (c ∷ cs) h = absurd h
are_many (n ∷ ns) [] h = absurd h
are_many (n ∷ ns) (c ∷ cs) h = ap suc (are_many ns cs h.1)

pub cut_at : (ns : List ℕ) (cs : List Cut) (i : ℕ) (d : Cut) → AreCuts ns cs → i < length cs → IsCut (get_or ns i 0) (get_or cs i d)
cut_at [] [] i d h l = absurd (omega arith)
cut_at [] (c ∷ cs) i d h l = absurd h
cut_at (n ∷ ns) [] i d h l = absurd h
cut_at (n ∷ ns) (c ∷ cs) zero d h l = h.0
cut_at (n ∷ ns) (c ∷ cs) (suc i) d h l = cut_at ns cs i d h.1 (omega arith)

abbrev pub firsts : List Cut → List ℕ
firsts cs = map (λ (c : Cut). c.first) cs

abbrev pub counts : List Cut → List ℕ
counts cs = map (λ (c : Cut). c.count) cs

pub counts_some : (ns : List ℕ) (cs : List Cut) → AreCuts ns cs → list_all (nat_le 1) (counts cs) ≡ true
counts_some [] [] h = refl
counts_some [] (c ∷ cs) h = absurd h
counts_some (n ∷ ns) [] h = absurd h
counts_some (n ∷ ns) (c ∷ cs) h = and_from (nat_le 1 c.count) (list_all (nat_le 1) (counts cs)) (le-leb 1 c.count h.0.some) (counts_some ns cs h.1)

pub counts_few : (ns : List ℕ) (cs : List Cut) → AreCuts ns cs → positions (counts cs) ≤ positions ns
counts_few [] [] h = omega arith
counts_few [] (c ∷ cs) h = absurd h
counts_few (n ∷ ns) [] h = absurd h
counts_few (n ∷ ns) (c ∷ cs) h =
    let a : c.count * positions (counts cs) ≤ n * positions (counts cs) = mul-le-mul_right (positions (counts cs)) h.0.few in
    let b : n * positions (counts cs) ≤ n * positions ns = mul-le-mul_left n (counts_few ns cs h.1) in
    omega arith

zero_kept : (z : ℤ) → z ≡ pos 0 → is_zero z ≡ true
zero_kept z e = ap is_zero e

pub scaled_kept : (ns : List ℕ) (cs : List Cut) (ss : List ℤ) → length ss ≡ length ns → AreCuts ns cs → strides_kept (counts cs) (scaled cs ss) ≡ true
scaled_kept [] [] ss same h = refl
scaled_kept [] (c ∷ cs) ss same h = absurd h
scaled_kept (n ∷ ns) [] ss same h = absurd h
scaled_kept (n ∷ ns) (c ∷ cs) [] same h = absurd (omega arith)
scaled_kept (n ∷ ns) (c ∷ cs) (s ∷ ss) same h =
    and_from (not (c.count == 1) || is_zero (c.step *ℤ s)) (strides_kept (counts cs) (scaled cs ss)) (by (c.count == 1) refl) (scaled_kept ns cs ss (omega arith) h.1)
  where
    by : (t : Bool) → (c.count == 1) ≡ t → (not t || is_zero (c.step *ℤ s)) ≡ true
    by true e = zero_kept (c.step *ℤ s) (ap (λ y. y *ℤ s) (h.0.lone (eqb-true c.count 1 e)) ∙ zero-*ℤ s)
    by false e = refl

pub cuts_inside : (ns : List ℕ) (cs : List Cut) (ss : List ℤ) (z : ℤ) → length ss ≡ length ns → AreCuts ns cs → Inside ns ss z → Inside (counts cs) (scaled cs ss) (place_at z ss (firsts cs))
cuts_inside [] [] [] z same h e = e
cuts_inside [] [] (s ∷ ss) z same h e = absurd (omega arith)
cuts_inside [] (c ∷ cs) ss z same h e = absurd h
cuts_inside (n ∷ ns) [] ss z same h e = absurd h
cuts_inside (n ∷ ns) (c ∷ cs) [] z same h e = absurd (omega arith)
cuts_inside (n ∷ ns) (c ∷ cs) (s ∷ ss) z same h e =
    in_steps is_place (places (counts cs) (scaled cs ss)) c.count (c.step *ℤ s) (place_at (z +ℤ (pos c.first *ℤ s)) ss (firsts cs)) (λ j b.
    subst (λ y. Inside (counts cs) (scaled cs ss) y)
    (shifted (z +ℤ (pos c.first *ℤ s)) (pos j *ℤ (c.step *ℤ s)) ss (firsts cs) ∙ ap (λ y. place_at (z +ℤ (pos c.first *ℤ s)) ss (firsts cs) +ℤ y) (sym (steps_is j (c.step *ℤ s))))
    (cuts_inside ns cs ss ((z +ℤ (pos c.first *ℤ s)) +ℤ (pos j *ℤ (c.step *ℤ s))) (omega arith) h.1 (taken_inside n c ns s ss z h.0 e j b)))

pub length-scaled : (cs : List Cut) (ss : List ℤ) → length ss ≡ length cs → length (scaled cs ss) ≡ length cs
length-scaled [] ss e = refl
length-scaled (c ∷ cs) [] e = absurd (omega arith)
length-scaled (c ∷ cs) (s ∷ ss) e = ap suc (length-scaled cs ss (omega arith))

pub place_is : (z : ℤ) → is_place z ≡ true → pos (to_place z) ≡ z
place_is (pos n) e = refl
place_is (negsuc n) e = absurd (let f : false ≡ true = e in cc)

pub sound_cuts : (start : ℕ) (ns : List ℕ) (ss : List ℤ) (cs : List Cut) → length ss ≡ length ns → AreCuts ns cs → Sound start ns ss
    → Sound (to_place (place_at (pos start) ss (firsts cs))) (counts cs) (scaled cs ss)
sound_cuts start ns ss cs same h v =
    let inside = cuts_inside ns cs ss (pos start) same h v.inside in
    let many : length cs ≡ length ns = are_many ns cs h in
    let long : length (scaled cs ss) ≡ length (counts cs) = length-scaled cs ss (same ∙ sym many) ∙ sym (length-map cs (λ (c : Cut). c.count)) in
    let place : is_place (place_at (pos start) ss (firsts cs)) ≡ true = begins_inside (counts cs) (scaled cs ss) _ (counts_some ns cs h) long inside in
    let few : positions (counts cs) ≤ positions ns = counts_few ns cs h in
    let size : positions ns ≤ 1048576 = v.size in
    record {
      rank = ap (λ k. nat_le 1 k && nat_le k 4) (length-map cs (λ (c : Cut). c.count) ∙ many) ∙ v.rank;
      lengths = counts_some ns cs h;
      kept = scaled_kept ns cs ss same h;
      size = omega arith;
      inside = subst (λ y. Inside (counts cs) (scaled cs ss) y) (sym (place_is _ place)) inside;
    }

pub begins : (start : ℕ) (ns : List ℕ) (ss : List ℤ) (cs : List Cut) → length ss ≡ length ns → AreCuts ns cs → Sound start ns ss → is_place (place_at (pos start) ss (firsts cs)) ≡ true
begins start ns ss cs same h v =
    begins_inside (counts cs) (scaled cs ss) _ (counts_some ns cs h) (length-scaled cs ss (same ∙ sym (are_many ns cs h)) ∙ sym (length-map cs (λ (c : Cut). c.count)))
    (cuts_inside ns cs ss (pos start) same h v.inside)

-- ---- the dimension that comes next

pub scaled_turn : (cs : List Cut) (ss : List ℤ) (i : ℕ) (d : Cut) → i < length cs → i < length ss → scaled (drop i cs) (drop i ss) ≡ ((get_or cs i d).step *ℤ get_or ss i (pos 0)) ∷ scaled (drop (i + 1) cs) (drop (i + 1) ss)
scaled_turn cs ss i d a b = ap₂ scaled (drop_more cs i d a) (drop_more ss i (pos 0) b)

pub counts_turn : (cs : List Cut) (i : ℕ) (d : Cut) → i < length cs → counts (drop i cs) ≡ (get_or cs i d).count ∷ counts (drop (i + 1) cs)
counts_turn cs i d a = ap counts (drop_more cs i d a)

pub place_turn : (z : ℤ) (cs : List Cut) (ss : List ℤ) (i : ℕ) (d : Cut) → i < length cs → i < length ss
    → place_at z (drop i ss) (firsts (drop i cs)) ≡ place_at (z +ℤ (pos (get_or cs i d).first *ℤ get_or ss i (pos 0))) (drop (i + 1) ss) (firsts (drop (i + 1) cs))
place_turn z cs ss i d a b = ap₂ (λ xs ys. place_at z xs (firsts ys)) (drop_more ss i (pos 0) b) (drop_more cs i d a)

pub inside_turn : (ns : List ℕ) (ss : List ℤ) (z : ℤ) (i : ℕ) → i < length ns → i < length ss → Inside (drop i ns) (drop i ss) z → Inside (get_or ns i 0 ∷ drop (i + 1) ns) (get_or ss i (pos 0) ∷ drop (i + 1) ss) z
inside_turn ns ss z i a b h = sym (ap₂ (λ xs ys. list_all is_place (places xs ys z)) (drop_more ns i 0 a) (drop_more ss i (pos 0) b)) ∙ h
