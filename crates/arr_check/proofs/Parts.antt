-- The elements of a view tell its parts.
use Rattle.std.proofs.Common.{◌≡◌, ℕ, ℤ, pos, List, Bool, true, map, ap, ap₂, sym, ◌∙◌, subst}
use Rattle.std.specs.Prelude.{◌&&◌, ◌==◌}
use Rattle.std.proofs.lemmas.Bool.{and_parts, and_from, eqb-true, eq-eqb}
use Rattle.std.specs.Cmp.Lexicographic.{pointwise, same_text}
use Rattle.std.specs.Cmp.Rules.{signed_items}
use Rattle.std.specs.Ordering.{int_eq}
use Rattle.std.specs.Prelude.{nat_eq}
use Rattle.std.proofs.lemmas.Slice.Eq.{bytes_eq-Decides}
use Rattle.arr_view.specs.Strided.{Strided}
use Rattle.arr_view.specs.Views.{places, elements, is_view, strides_kept, to_place, same_lists, identical}
use Rattle.arr_view.proofs.Checks.{lawful}
use Rattle.arr_view.proofs.Known.{same_lists-same, same_lists-true, same_places, same_tests, same_way}

-- the same base, start, lengths and strides
abbrev pub alike : Strided → Strided → Bool
alike v w = (v.base == w.base) && ((v.start == w.start) && (pointwise nat_eq v.lengths w.lengths && pointwise int_eq v.strides w.strides))

-- ---- tests and equations

lists_true : (xs ys : List ℕ) → pointwise nat_eq xs ys ≡ true → xs ≡ ys
lists_true xs ys e = same_text xs ys (sym e)

lists_same : (xs ys : List ℕ) → xs ≡ ys → pointwise nat_eq xs ys ≡ true
lists_same xs ys e = (bytes_eq-Decides xs ys).1 e

ints_true : (xs ys : List ℤ) → pointwise int_eq xs ys ≡ true → xs ≡ ys
ints_true xs ys e = (signed_items xs ys).0 e

ints_same : (xs ys : List ℤ) → xs ≡ ys → pointwise int_eq xs ys ≡ true
ints_same xs ys e = (signed_items xs ys).1 e

-- ---- the two tests agree

alike_identical : (v w : Strided) → alike v w ≡ true → identical v w ≡ true
unfolding elements
alike_identical v w e =
    let a = and_parts (v.base == w.base) _ e in
    let b = and_parts (v.start == w.start) _ a.1 in
    let c = and_parts (pointwise nat_eq v.lengths w.lengths) _ b.1 in
    let start : v.start ≡ w.start = eqb-true v.start w.start b.0 in
    let lengths : v.lengths ≡ w.lengths = lists_true v.lengths w.lengths c.0 in
    let strides : v.strides ≡ w.strides = ints_true v.strides w.strides c.1 in
    let same : elements v ≡ elements w = ap (λ (u : List ℕ × (List ℤ × ℤ)). map to_place (places u.0 u.1.0 u.1.1)) (ap₂ (λ x y. (x, y)) lengths (ap₂ (λ x y. (x, pos y)) strides start)) in
    and_from (v.base == w.base) _ a.0 (and_from (same_lists v.lengths w.lengths) _ (subst (λ ns. same_lists v.lengths ns ≡ true) lengths (same_lists-same v.lengths)) (subst (λ es. same_lists (elements v) es ≡ true) same (same_lists-same (elements v))))

identical_alike : (v w : Strided) → is_view v ≡ true → is_view w ≡ true → identical v w ≡ true → alike v w ≡ true
unfolding elements
identical_alike v w lv lw e =
    let a = and_parts (v.base == w.base) _ e in
    let b = and_parts (same_lists v.lengths w.lengths) _ a.1 in
    let p = lawful v lv in
    let q = lawful w lw in
    let lengths : w.lengths ≡ v.lengths = sym (same_lists-true v.lengths w.lengths b.0) in
    let kept : strides_kept v.lengths w.strides ≡ true = subst (λ ns. strides_kept ns w.strides ≡ true) lengths q.kept in
    let found : places v.lengths v.strides (pos v.start) ≡ places w.lengths w.strides (pos w.start) =
    same_places _ _ p.inside q.inside (same_lists-true (elements v) (elements w) b.1) in
    let way = same_way v.lengths v.strides w.strides (pos v.start) (pos w.start) p.lengths p.kept kept (found ∙ ap (λ ns. places ns w.strides (pos w.start)) lengths) in
    let at : pos v.start ≡ pos w.start = way.start in
    let start : v.start ≡ w.start = cc in
    and_from (v.base == w.base) _ a.0 (and_from (v.start == w.start) _ (eq-eqb v.start w.start start)
    (and_from (pointwise nat_eq v.lengths w.lengths) _ (lists_same v.lengths w.lengths (sym lengths)) (ints_same v.strides w.strides way.strides)))

-- two views are identical exactly where their parts are the same
pub parts_decide : (v w : Strided) → is_view v ≡ true → is_view w ≡ true → alike v w ≡ identical v w
parts_decide v w lv lw = same_tests (alike v w) (identical v w) (alike_identical v w) (identical_alike v w lv lw)
