-- The numbers that an index names, in lists of native numbers.
use Rattle.std.proofs.Common.{◌≡◌, ℕ, zero, suc, ◌+◌, ◌-◌, ◌<◌, ◌≤◌, ℤ, pos, List, [], ◌∷◌, length, map, get_or, take, drop, true, refl, ap, ap₂, sym, ◌∙◌, arith, drop-cons}
use Rattle.std.proofs.lemmas.Bool.{lt-ltb, ltb-true}
use Rattle.std.proofs.lemmas.List.{drop-map, get_or-map, length-map, take-map, take_all}
use Rattle.std.specs.Prelude.{◌&&◌, nat_lt}
use Rattle.std.specs.List.{range_with_len, slice_range}
use Rattle.arr_native.proofs.Entries.{entry_is}
use Rattle.arr_view.specs.Strided.{Strided}
use Rattle.arr_view.specs.Views.{elements, is_consecutive, is_view, positions}
use Rattle.arr_view.proofs.Checks.{lawful}
use Rattle.arr_view.proofs.Counting.{some_position}
use Rattle.arr_ops.proofs.Parts.{length-elements}
use Rattle.arr_ops.proofs.Tests.{both_left, both_right}
use Rattle.arr_ops.specs.Gathers.{position_named}
use Rattle.arr_picks.specs.Picks.{AllBelow, number_named, numbers_of}
use Rattle.arr_picks.proofs.Rows.{in_row, row_at}

-- one of places that lie below n
pub below_at : (n : ℕ) (es : List ℕ) (k : ℕ) → AllBelow n es → k < length es → get_or es k 0 < n
below_at n [] k all l = absurd (omega arith)
below_at n (e ∷ es) zero all l = ltb-true e n (both_left (nat_lt e n) _ all)
below_at n (e ∷ es) (suc k) all l = below_at n es k (both_right (nat_lt e n) _ all) (omega arith)

-- what was read at the place that the index names
pub named_at : {T : Type 0} (number : T → ℤ) (ns : List T) (es : List ℕ) (n k : ℕ) (i : ℤ) (x : T)
    → length es ≡ n → k ≡ position_named n i → k < n → get_or es k 0 < length ns → x ≡ get_or ns (get_or es k 0) x
    → number x ≡ number_named (numbers_of (map number ns) es) i
named_at number ns es n k i x long is below there read =
    let inside : k < length es = omega arith in
    let size : length (numbers_of (map number ns) es) ≡ n = length-map es (λ p. get_or (map number ns) p (pos 0)) ∙ long in
    sym (entry_is number ns (get_or es k 0) x there read)
    ∙ sym (get_or-map (λ p. get_or (map number ns) p (pos 0)) es k 0 (pos 0) inside)
    ∙ ap (λ p. get_or (numbers_of (map number ns) es) p (pos 0)) (is ∙ ap (λ m. position_named m i) (sym size))

-- places one after another
pub row_is : (ns : List ℤ) (start n : ℕ) → start + n ≤ length ns → numbers_of ns (range_with_len start n) ≡ take n (drop start ns)
row_is ns start zero l = refl
row_is ns start (suc n) l =
    let here : start < length ns = omega arith in
    let next : start + 1 ≡ suc start = omega arith in
    ap (λ xs. get_or ns start (pos 0) ∷ xs) (row_is ns (start + 1) n (omega arith) ∙ ap (λ k. take n (drop k ns)) next)
    ∙ sym (ap (take (suc n)) (drop-cons ns start (pos 0) here))

-- ---- an index without a gap

pub row_inside : (v : Strided) (n : ℕ) → is_view v ≡ true → is_consecutive v ≡ true → AllBelow n (elements v) → v.start + positions v.lengths ≤ n
row_inside v n law row all =
    let some = some_position v.lengths (lawful v law).lengths in
    let long : length (elements v) ≡ positions v.lengths = length-elements v law in
    let last = below_at n (elements v) (positions v.lengths - 1) all (omega arith) in
    let is = row_at v (positions v.lengths - 1) row (omega arith) in
    omega arith

-- its numbers are a part of the list
pub row_numbers : {I : Type 0} (number : I → ℤ) (index : List I) (v : Strided) (start end : ℕ)
    → is_view v ≡ true → is_consecutive v ≡ true → AllBelow (length index) (elements v) → start ≡ v.start → end ≡ start + positions v.lengths
    → numbers_of (map number index) (elements v) ≡ map number (slice_range index start end)
row_numbers number index v start end law row all from to =
    let inside = row_inside v (length index) law row all in
    let size = length-map index number in
    let count : positions v.lengths ≡ end - start = omega arith in
    ap (numbers_of (map number index)) (in_row v row)
    ∙ row_is (map number index) v.start (positions v.lengths) (omega arith)
    ∙ ap (λ n. take n (drop v.start (map number index))) count
    ∙ ap (λ k. take (end - start) (drop k (map number index))) (sym from)
    ∙ ap (take (end - start)) (drop-map number start index)
    ∙ take-map number (end - start) (drop start index)

-- ---- numbers that were put in order

pub ordered_length : {T : Type 0} (number : T → ℤ) (ns ordered : List T) (es : List ℕ) → map number ordered ≡ numbers_of (map number ns) es → length ordered ≡ length es
ordered_length number ns ordered es e = sym (length-map ordered number) ∙ ap length e ∙ length-map es (λ p. get_or (map number ns) p (pos 0))

pub below_row : (n start count : ℕ) → start + count ≤ n → AllBelow n (range_with_len start count)
below_row n start zero l = refl
below_row n start (suc count) l = ap₂ (λ a b. a && b) (lt-ltb start n (omega arith)) (below_row n (start + 1) count (omega arith))

pub row_whole : (ns : List ℤ) (n : ℕ) → n ≡ length ns → numbers_of ns (range_with_len 0 n) ≡ ns
row_whole ns n e = row_is ns 0 n (omega arith) ∙ take_all n ns (omega arith)
