-- A view without a gap.
use Rattle.std.proofs.Common.{◌≡◌, ℕ, ◌+◌, ◌<◌, pos, ◌<ℤ◌, true, get_or, ap, ◌∙◌, arith}
use Rattle.std.proofs.lemmas.Int.{ints}
use Rattle.std.proofs.lemmas.List.FromFn.{get_or-range_with_len}
use Rattle.std.specs.List.{range_with_len}
use Rattle.arr_view.specs.Strided.{Strided}
use Rattle.arr_view.specs.Views.{elements, is_consecutive, is_view, positions}
use Rattle.arr_view.proofs.Checks.{lawful, same_rank}
use Rattle.arr_view.proofs.Known.{same_lists-true}
use Rattle.arr_view.proofs.Places.{begins_inside, place_high}

pub in_row : (v : Strided) → is_consecutive v ≡ true → elements v ≡ range_with_len v.start (positions v.lengths)
in_row v row = same_lists-true (elements v) (range_with_len v.start (positions v.lengths)) row

pub row_at : (v : Strided) (k : ℕ) → is_consecutive v ≡ true → k < positions v.lengths → v.start + k ≡ get_or (elements v) k 0
row_at v k row below =
    let at : get_or (elements v) k 0 ≡ v.start + k = ap (λ xs. get_or xs k 0) (in_row v row) ∙ get_or-range_with_len v.start (positions v.lengths) k 0 below in
    omega arith

pub starts_low : (v : Strided) → is_view v ≡ true → v.start < 1048576
starts_low v law =
    let l = lawful v law in
    let high : pos v.start <ℤ pos 1048576 = place_high (pos v.start) (begins_inside v.lengths v.strides (pos v.start) l.lengths (same_rank v law) l.inside) in
    omega (arith, ints)
