-- A view without a gap: its strides are those of its shape in row-major order.
use Rattle.std.proofs.Common.{◌≡◌, ℕ, ℤ, pos, negsuc, List, [], ◌∷◌, true, map, refl, ap, sym, ◌∙◌}
use Rattle.std.specs.List.{list_all, range_with_len}
use Rattle.std.specs.Cmp.Lexicographic.{pointwise}
use Rattle.std.specs.Cmp.Rules.{signed_items}
use Rattle.std.specs.Ordering.{int_eq}
use Rattle.std.proofs.lemmas.Bool.{and_parts, false≢true}
use Rattle.arr_view.specs.Strided.{Strided}
use Rattle.arr_view.specs.Views.{elements, is_consecutive, is_place, is_view, places, positions, same_lists, strides_kept, to_place, whole_strides}
use Rattle.arr_view.proofs.Checks.{lawful}
use Rattle.arr_view.proofs.Strides.{keeps, kept_whole, length-whole_strides, whole_places}
use Rattle.arr_view.proofs.Known.{same_lists-same, same_lists-true, same_tests, same_way}

numbers_placed : (zs : List ℤ) (xs : List ℕ) → list_all is_place zs ≡ true → map to_place zs ≡ xs → zs ≡ map pos xs
numbers_placed [] xs inside e = ap (map pos) e
numbers_placed (pos n ∷ zs) xs inside e = ap (λ ys. pos n ∷ ys) (numbers_placed zs (map to_place zs) (and_parts (is_place (pos n)) _ inside).1 refl) ∙ ap (map pos) e
numbers_placed (negsuc n ∷ zs) xs inside e = absurd (false≢true inside)

pub numbers_back : (xs : List ℕ) → map to_place (map pos xs) ≡ xs
numbers_back [] = refl
numbers_back (x ∷ xs) = ap (λ ys. x ∷ ys) (numbers_back xs)

pub whole_kept : (ns : List ℕ) → strides_kept ns (whole_strides ns) ≡ true
whole_kept ns = ap (strides_kept ns) (sym (kept_whole ns)) ∙ keeps ns (whole_strides ns) (length-whole_strides ns)

strides_known : (v : Strided) → is_view v ≡ true → is_consecutive v ≡ true → v.strides ≡ whole_strides v.lengths
unfolding elements
strides_known v law e =
    let l = lawful v law in
    let found : places v.lengths v.strides (pos v.start) ≡ map pos (range_with_len v.start (positions v.lengths)) =
    numbers_placed _ _ l.inside (same_lists-true (elements v) (range_with_len v.start (positions v.lengths)) e) in
    (same_way v.lengths v.strides (whole_strides v.lengths) (pos v.start) (pos v.start) l.lengths l.kept (whole_kept v.lengths) (found ∙ sym (whole_places v.lengths v.start))).strides

pub in_row : (v : Strided) → v.strides ≡ whole_strides v.lengths → elements v ≡ range_with_len v.start (positions v.lengths)
unfolding elements
in_row v e = ap (λ ss. map to_place (places v.lengths ss (pos v.start))) e ∙ ap (map to_place) (whole_places v.lengths v.start) ∙ numbers_back (range_with_len v.start (positions v.lengths))

consecutive_row : (v : Strided) → v.strides ≡ whole_strides v.lengths → is_consecutive v ≡ true
consecutive_row v e = ap (λ xs. same_lists xs (range_with_len v.start (positions v.lengths))) (in_row v e) ∙ same_lists-same (range_with_len v.start (positions v.lengths))

pub strides_decide : (v : Strided) (ts : List ℤ) → is_view v ≡ true → ts ≡ whole_strides v.lengths → pointwise int_eq v.strides ts ≡ is_consecutive v
strides_decide v ts law e =
    same_tests (pointwise int_eq v.strides ts) (is_consecutive v)
    (λ same. consecutive_row v ((signed_items v.strides ts).0 same ∙ e))
    (λ row. (signed_items v.strides ts).1 (strides_known v law row ∙ sym e))
