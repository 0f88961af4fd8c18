-- The columns in which the elements of a view lie.
use Rattle.std.proofs.Common.{◌≡◌, ℕ, ◌+◌, ◌-◌, ◌*◌, ◌/◌, ◌%◌, ◌<◌, ◌≤◌, ℤ, pos, negsuc, ◌+ℤ◌, List, [], ◌∷◌, Bool, true, false, cond, length, refl, ap, sym, ◌∙◌, subst, arith}
use Rattle.std.specs.Prelude.{◌==◌, nat_le, unsigned_abs}
use Rattle.std.specs.List.{list_all}
use Rattle.std.proofs.Math.Nat.{add-mod, add-mod_right, add-mul-mod_self_right, mod-add-mod, mod-add-div, mod-eq_of_lt, mod-le}
use Rattle.std.proofs.lemmas.Int.{ints}
use Rattle.std.proofs.lemmas.Bool.{and_from, and_parts, false≢true, leb-true, le-leb}
use Rattle.std.proofs.lemmas.List.Folds.{list_all-map}
use Rattle.arr_view.specs.Strided.{Strided}
use Rattle.arr_view.specs.Views.{elements, is_place, is_view, kept_strides, lies, places, to_place}
use Rattle.arr_view.proofs.Checks.{lawful, same_rank}
use Rattle.arr_view.proofs.Ends.{weaker}
use Rattle.arr_view.proofs.Places.{Inside, in_steps, out_steps, steps}
use Rattle.arr_overlap.specs.Filters.{divides, front_of, in_columns, row_lengths}
use Rattle.arr_overlap.proofs.Smaller.{front_lawful, kept_step, row_fits}
use Rattle.arr_overlap.proofs.Spacing.{Alike, many_steps}

-- what depends on the column alone
abbrev Round : ℕ → (ℕ → Bool) → Type 0
Round d q = (x y : ℕ) → (x % d) ≡ (y % d) → q x ≡ q y

same_rest : (d : ℕ) (y z : ℤ) → is_place y ≡ true → is_place z ≡ true → Alike d y z → (to_place y % d) ≡ (to_place z % d)
same_rest d (pos m) (pos n) a b h =
    let whole : pos m +ℤ pos (h.more * d) ≡ pos n +ℤ pos (h.less * d) = h.same in
    let same : m + h.more * d ≡ n + h.less * d = omega (arith, ints) in
    sym (add-mul-mod_self_right m h.more d) ∙ ap (λ x. x % d) same ∙ add-mul-mod_self_right n h.less d
same_rest d (negsuc m) z a b h = absurd (false≢true a)
same_rest d (pos m) (negsuc n) a b h = absurd (false≢true b)

moved : (d : ℕ) (y z t : ℤ) → Alike d y z → Alike d (y +ℤ t) (z +ℤ t)
moved d y z t h =
    let same : y +ℤ pos (h.more * d) ≡ z +ℤ pos (h.less * d) = h.same in
    record { more = h.more; less = h.less; same = omega (arith, ints) }

abbrev Places : (ℕ → Bool) → List ℕ → List ℤ → ℤ → Type 0
Places q ns ss z = list_all (λ u. q (to_place u)) (places ns ss z) ≡ true

-- what holds in the first row holds in each
abbrev FromRow : ℕ → (ℕ → Bool) → List ℕ → List ℤ → Type 0
FromRow d q ns ss =
    (y z : ℤ) → Alike d y z → Inside ns ss y → Inside (row_lengths d ns ss) (kept_strides (row_lengths d ns ss) ss) z → Places q (row_lengths d ns ss) (kept_strides (row_lengths d ns ss) ss) z → Places q ns ss y

one_dimension : (d : ℕ) (q : ℕ → Bool) (n : ℕ) (ns : List ℕ) (s : ℤ) (ss : List ℤ) (b : Bool) → divides d (unsigned_abs s) ≡ b → FromRow d q ns ss → (y z : ℤ) → Alike d y z → Inside (n ∷ ns) (s ∷ ss) y
    → Inside (cond b 1 n ∷ row_lengths d ns ss) (kept_strides (cond b 1 n ∷ row_lengths d ns ss) (s ∷ ss)) z
    → Places q (cond b 1 n ∷ row_lengths d ns ss) (kept_strides (cond b 1 n ∷ row_lengths d ns ss) (s ∷ ss)) z → Places q (n ∷ ns) (s ∷ ss) y
one_dimension d q n ns s ss true e rest y z a here there h =
    let f : ℤ → List ℤ = places (row_lengths d ns ss) (kept_strides (row_lengths d ns ss) ss) in
    let same : z ≡ z +ℤ pos 0 = omega (arith, ints) in
    in_steps (λ u. q (to_place u)) (places ns ss) n s y (λ i k.
    rest (y +ℤ steps i s) (z +ℤ pos 0) (many_steps d i s y (z +ℤ pos 0) e (subst (λ x. Alike d y x) same a)) (out_steps is_place (places ns ss) n s y here i k)
    (out_steps is_place f 1 (pos 0) z there 0 (omega arith)) (out_steps (λ u. q (to_place u)) f 1 (pos 0) z h 0 (omega arith)))
one_dimension d q n ns s ss false e rest y z a here there h =
    let f : ℤ → List ℤ = places (row_lengths d ns ss) (kept_strides (row_lengths d ns ss) ss) in
    let t : ℤ = cond (n == 1) (pos 0) s in
    in_steps (λ u. q (to_place u)) (places ns ss) n s y (λ i k.
    rest (y +ℤ steps i s) (z +ℤ steps i t) (subst (λ x. Alike d (y +ℤ steps i s) (z +ℤ x)) (sym (kept_step n i s k)) (moved d y z (steps i s) a)) (out_steps is_place (places ns ss) n s y here i k)
    (out_steps is_place f n t z there i k) (out_steps (λ u. q (to_place u)) f n t z h i k))

every_row : (d : ℕ) (q : ℕ → Bool) → Round d q → (ns : List ℕ) (ss : List ℤ) → length ss ≡ length ns → FromRow d q ns ss
every_row d q round [] [] same y z a here there h =
    and_from (q (to_place y)) true (round (to_place y) (to_place z) (same_rest d y z (and_parts (is_place y) true here).0 (and_parts (is_place z) true there).0 a) ∙ (and_parts (q (to_place z)) true h).0) refl
every_row d q round [] (s ∷ ss) same y z a here there h = absurd (omega arith)
every_row d q round (n ∷ ns) [] same y z a here there h = absurd (omega arith)
every_row d q round (n ∷ ns) (s ∷ ss) same y z a here there h =
    one_dimension d q n ns s ss (divides d (unsigned_abs s)) refl (every_row d q round ns ss (omega arith)) y z a here there h

columns_round : (row column width : ℕ) → Round row (in_columns row column width)
columns_round row column width x y e =
    ap (λ k. nat_le k width) (sym (mod-add-mod x row (row - column)) ∙ ap (λ k. (k + (row - column)) % row) e ∙ mod-add-mod y row (row - column))

column_of : (row first last x : ℕ) → (first % row) < row → lies first last x ≡ true → in_columns row (first % row) (last - first) x ≡ true
column_of row first last x some e =
    let p = and_parts (nat_le first x) (nat_le x last) e in
    let low : first ≤ x = leb-true first x p.0 in
    let high : x ≤ last = leb-true x last p.1 in
    let q : ℕ = first / row in
    let whole : first % row + row * q ≡ first = mod-add-div first row in
    let spot : x + (row - first % row) ≡ (x - first) + (q + 1) * row = omega arith in
    let few : ((x - first) % row) ≤ x - first = mod-le (x - first) row in
    let column : ((x + (row - first % row)) % row) ≡ ((x - first) % row) = ap (λ k. k % row) spot ∙ add-mul-mod_self_right (x - first) (q + 1) row in
    le-leb ((x + (row - first % row)) % row) (last - first) (omega arith)

pub elements_in_columns : (v : Strided) (row first last : ℕ) → is_view v ≡ true → (first % row) < row → list_all (lies first last) (elements (front_of v (row_lengths row v.lengths v.strides))) ≡ true
    → list_all (in_columns row (first % row) (last - first)) (elements v) ≡ true
unfolding elements
elements_in_columns v row first last law some between =
    let l = lawful v law in
    let fits = row_fits row v.lengths v.strides l.lengths (same_rank v law) in
    let test : ℕ → Bool = in_columns row (first % row) (last - first) in
    let part : Strided = front_of v (row_lengths row v.lengths v.strides) in
    let in_row : list_all test (elements part) ≡ true = weaker (lies first last) test (elements part) (λ x e. column_of row first last x some e) between in
    list_all-map test to_place (places v.lengths v.strides (pos v.start))
    ∙ every_row row test (columns_round row (first % row) (last - first)) v.lengths v.strides (same_rank v law) (pos v.start) (pos v.start) (record { more = 0; less = 0; same = refl }) l.inside
    (lawful part (front_lawful v (row_lengths row v.lengths v.strides) law fits)).inside
    (sym (list_all-map test to_place (places part.lengths part.strides (pos part.start))) ∙ in_row)

-- no number lies in columns apart
pub columns_never : (row c w c' w' : ℕ) → c < row → c' < row → w < (c' + (row - c)) % row → w' + (c' + (row - c)) % row < row
    → (x : ℕ) → in_columns row c w x ≡ true → in_columns row c' w' x ≡ true → ⊥
columns_never row c w c' w' low low' near far x a b =
    let gap : ℕ = (c' + (row - c)) % row in
    let one : ℕ = (x + (row - c)) % row in
    let other : ℕ = (x + (row - c')) % row in
    let here : one ≤ w = leb-true one w a in
    let there : other ≤ w' = leb-true other w' b in
    let spot : (x + (row - c')) + (c' + (row - c)) ≡ (x + (row - c)) + row = omega arith in
    let both : (other + gap) % row ≡ one = sym (add-mod (x + (row - c')) (c' + (row - c)) row) ∙ ap (λ k. k % row) spot ∙ add-mod_right (x + (row - c)) row in
    let small : (other + gap) % row ≡ other + gap = mod-eq_of_lt (omega arith) in
    omega arith
