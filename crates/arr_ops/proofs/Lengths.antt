-- How long the lists are.
use Rattle.std.proofs.Common.{◌≡◌, ℕ, ◌*◌, ◌<◌, suc, zero, ℤ, pos, ◌+ℤ◌, List, [], ◌∷◌, true, refl, ap, sym, ◌∙◌, arith, length, map, get_or, take, drop, length-append}
use Rattle.std.proofs.Math.Nat.{mul_assoc}
use Rattle.std.proofs.lemmas.List.{length-map}
use Rattle.std.proofs.lemmas.List.FromFn.{length-range_with_len}
use Rattle.std.proofs.lemmas.Bool.{false≢true}
use Rattle.std.specs.List.{range_with_len, flat_map, fold}
use Rattle.arr_view.specs.Strided.{Strided}
use Rattle.arr_view.specs.Views.{elements, places, at_steps, to_place, positions, strides_kept}
use Rattle.arr_ops.specs.Memory.{folded, scanned, lane}
use Rattle.arr_ops.proofs.Tests.{both_right}

length-at_steps : (f : ℤ → List ℤ) (k : ℕ) → ((z : ℤ) → length (f z) ≡ k) → (n : ℕ) (s z : ℤ) → length (at_steps f n s z) ≡ n * k
length-at_steps f k h zero s z = omega arith
length-at_steps f k h (suc n) s z =
    let a : length (f z) ≡ k = h z in
    let b : length (at_steps f n s (z +ℤ s)) ≡ n * k = length-at_steps f k h n s (z +ℤ s) in
    length-append (f z) (at_steps f n s (z +ℤ s)) ∙ omega arith

length-places : (ns : List ℕ) (ss : List ℤ) (z : ℤ) → strides_kept ns ss ≡ true → length (places ns ss z) ≡ positions ns
length-places [] ss z h = refl
length-places (n ∷ ns) [] z h = absurd (false≢true h)
length-places (n ∷ ns) (s ∷ ss) z h = length-at_steps (places ns ss) (positions ns) (λ y. length-places ns ss y (both_right _ (strides_kept ns ss) h)) n s z

pub length-elements : (v : Strided) → strides_kept v.lengths v.strides ≡ true → length (elements v) ≡ positions v.lengths
unfolding elements
length-elements v h = length-map (places v.lengths v.strides (pos v.start)) to_place ∙ length-places v.lengths v.strides (pos v.start) h

length-flat_map : {A B : Type 0} (f : A → List B) (k : ℕ) → ((a : A) → length (f a) ≡ k) → (xs : List A) → length (flat_map f xs) ≡ length xs * k
length-flat_map f k h [] = omega arith
length-flat_map f k h (x ∷ xs) =
    let a : length (f x) ≡ k = h x in
    let b : length (flat_map f xs) ≡ length xs * k = length-flat_map f k h xs in
    length-append (f x) (flat_map f xs) ∙ omega arith

pub length-folded : (f : ℤ → ℤ → ℤ) (z : ℤ) (lengths : List ℕ) (axis : ℕ) (xs : List ℤ) → length (folded f z lengths axis xs) ≡ positions (take axis lengths) * positions (drop (suc axis) lengths)
length-folded f z lengths axis xs =
    let n : ℕ = get_or lengths axis 1 in
    let inner : ℕ = positions (drop (suc axis) lengths) in
    length-flat_map (λ o. map (λ i. fold f z (lane xs n inner o i)) (range_with_len 0 inner)) inner
    (λ o. length-map (range_with_len 0 inner) (λ i. fold f z (lane xs n inner o i)) ∙ length-range_with_len 0 inner) (range_with_len 0 (positions (take axis lengths)))
    ∙ ap (λ k. k * inner) (length-range_with_len 0 (positions (take axis lengths)))

-- the positions before an axis, along it and after it
pub positions_at : (lengths : List ℕ) (axis : ℕ) → axis < length lengths → positions lengths ≡ positions (take axis lengths) * (get_or lengths axis 1 * positions (drop (suc axis) lengths))
positions_at [] axis h = absurd (omega arith)
positions_at (n ∷ ns) zero h = omega arith
positions_at (n ∷ ns) (suc axis) h =
    let ih : positions ns ≡ positions (take axis ns) * (get_or ns axis 1 * positions (drop (suc axis) ns)) = positions_at ns axis (omega arith) in
    ap (λ k. n * k) ih ∙ sym (mul_assoc n (positions (take axis ns)) (get_or ns axis 1 * positions (drop (suc axis) ns)))

pub length-scanned : (f : ℤ → ℤ → ℤ) (z : ℤ) (lengths : List ℕ) (axis : ℕ) (xs : List ℤ) → axis < length lengths → length (scanned f z lengths axis xs) ≡ positions lengths
length-scanned f z lengths axis xs h =
    let n : ℕ = get_or lengths axis 1 in
    let inner : ℕ = positions (drop (suc axis) lengths) in
    length-flat_map (λ o. flat_map (λ k. map (λ i. fold f z (take (suc k) (lane xs n inner o i))) (range_with_len 0 inner)) (range_with_len 0 n)) (n * inner)
    (λ o. length-flat_map (λ k. map (λ i. fold f z (take (suc k) (lane xs n inner o i))) (range_with_len 0 inner)) inner
    (λ k. length-map (range_with_len 0 inner) (λ i. fold f z (take (suc k) (lane xs n inner o i))) ∙ length-range_with_len 0 inner) (range_with_len 0 n)
    ∙ ap (λ j. j * inner) (length-range_with_len 0 n)) (range_with_len 0 (positions (take axis lengths)))
    ∙ ap (λ k. k * (n * inner)) (length-range_with_len 0 (positions (take axis lengths)))
    ∙ sym (positions_at lengths axis h)
